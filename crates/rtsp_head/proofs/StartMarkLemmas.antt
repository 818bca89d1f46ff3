-- A first line says what stands where its mark says.
use Rattle.std.proofs.Common.{◌≡◌, ◌∙◌, ℕ, ◌+◌, ◌-◌, ◌<◌, ◌≤◌, ◌&&◌, ◌==◌, not, nat_le, Bool, true, false, cond, List, [], ◌∷◌, ◌++◌, length, take, drop, Option, Some, None, Ok, Err, refl, sym, ap, subst, append_assoc, arith}
use Rattle.std.specs.Prelude.{IfSome, unwrap_or, option_and_then}
use Rattle.std.specs.Option.{ok_or}
use Rattle.std.proofs.lemmas.Bool.{le-leb}
use Rattle.std.proofs.lemmas.List.{length-append}
use Rattle.std.proofs.Math.Seq.{drop-length, take-append_seam}
use Rattle.gate_bytes.specs.Ascii.{space}
use Rattle.gate_bytes.specs.Places.{cut_at}
use Rattle.gate_bytes.proofs.SeamLemmas.{cut_joined, drop_at_seam}
use Rattle.rtsp_head.specs.HeadParts.{Start, Request, Status}
use Rattle.rtsp_head.specs.declared.fault.HeadFault.TheVariants as faults
use Rattle.rtsp_head.specs.Lines.{has_control}
use Rattle.rtsp_head.specs.Starts.{is_unspaced, names_protocol, request_with, request_of, code_of, status_with, status_of, start_of}
use Rattle.rtsp_head.specs.Marks.{start_marked, mark_of, has_ends}

-- The parts of a first line stand where its mark says.
pub record HasPlaces (text : List ℕ) (start : Start) : Type 0 where
  pub ends : has_ends (length text) start ≡ true
  pub line : (mark_of (length text) start).line ≡ length text
  pub says : start ≡ start_marked text (mark_of (length text) start)
  pub apart : (mark_of (length text) start).first + 1 < (mark_of (length text) start).last
  pub within : (mark_of (length text) start).last ≤ length text

both_le : (a b n : ℕ) → a ≤ n → b ≤ n → nat_le a n && nat_le b n ≡ true
both_le a b n ha hb = ap (λ t. t && nat_le b n) (le-leb a n ha) ∙ le-leb b n hb

-- what stands behind the last space
last_part : (line front last : List ℕ) → line ≡ front ++ (space ∷ last) → drop (length line - length last) line ≡ last
last_part line front last is =
    let place : length line - length last ≡ length front + 1 = omega (arith, ap length is, length-append front (space ∷ last)) in
    ap (λ n. drop n line) place ∙ ap (drop (length front + 1)) is ∙ drop_at_seam front space last

request_places : (line method uri version : List ℕ) → line ≡ method ++ (space ∷ (uri ++ (space ∷ version))) → HasPlaces line (Request method uri version)
request_places line method uri version is =
    let front = method ++ (space ∷ uri) in
    let joined : line ≡ front ++ (space ∷ version) = is ∙ sym (append_assoc method (space ∷ uri) (space ∷ version)) in
    let len : length line ≡ length method + 1 + length uri + 1 + length version = omega (arith, ap length is, length-append method (space ∷ (uri ++ (space ∷ version))), length-append uri (space ∷ version)) in
    let seam : length line - length version - 1 ≡ length front = omega (arith, len, length-append method (space ∷ uri)) in
    let first : take (length method) line ≡ method = ap (take (length method)) is ∙ take-append_seam method (space ∷ (uri ++ (space ∷ version))) in
    let middle : drop (length method + 1) (take (length line - length version - 1) line) ≡ uri =
    ap (λ n. drop (length method + 1) (take n line)) seam ∙ ap (λ text. drop (length method + 1) (take (length front) text)) joined
    ∙ ap (drop (length method + 1)) (take-append_seam front (space ∷ version)) ∙ drop_at_seam method space uri in
    let last = last_part line front version joined in
    record {
      ends = both_le (length method) (length version) (length line) (omega (arith, len)) (omega (arith, len));
      line = refl;
      says = sym (ap (λ text. Request text (drop (length method + 1) (take (length line - length version - 1) line)) (drop (length line - length version) line)) first
          ∙ ap (λ text. Request method text (drop (length line - length version) line)) middle ∙ ap (Request method uri) last);
      apart = omega (arith, len);
      within = omega arith;
    }

request_rest : (line method rest : List ℕ) → line ≡ method ++ (space ∷ rest) → (cut : Option (List ℕ × List ℕ)) → cut_at space rest ≡ cut
    → IfSome (option_and_then (λ (second : List ℕ × List ℕ). request_with method second.0 second.1) cut) (HasPlaces line)
request_rest line method rest is None at = tt
request_rest line method rest is (Some second) at = by ((not (length method == 0) && not (length second.0 == 0)) && (is_unspaced second.1 && names_protocol second.1))
  where
    by : (sound : Bool) → IfSome (cond sound (Some (Request method second.0 second.1)) None) (HasPlaces line)
    by true = request_places line method second.0 second.1 (is ∙ ap (λ text. method ++ (space ∷ text)) (cut_joined space rest second at))
    by false = tt

request_line : (line : List ℕ) (cut : Option (List ℕ × List ℕ)) → cut_at space line ≡ cut
    → IfSome (option_and_then (λ (first : List ℕ × List ℕ). option_and_then (λ (second : List ℕ × List ℕ). request_with first.0 second.0 second.1) (cut_at space first.1)) cut) (HasPlaces line)
request_line line None at = tt
request_line line (Some first) at = request_rest line first.0 first.1 (cut_joined space line first at) (cut_at space first.1) refl

code_long : (text : List ℕ) (code : ℕ) → code_of text ≡ Some code → 0 < length text
code_long [] code is = cc
code_long (b ∷ text) code is = omega arith

status_places : (line version text reason : List ℕ) (code : ℕ) → line ≡ version ++ (space ∷ text) → drop (length line - length reason) line ≡ reason → length reason < length text → HasPlaces line (Status version code reason)
status_places line version text reason code is last long =
    let len : length line ≡ length version + 1 + length text = omega (arith, ap length is, length-append version (space ∷ text)) in
    let first : take (length version) line ≡ version = ap (take (length version)) is ∙ take-append_seam version (space ∷ text) in
    record {
      ends = both_le (length version) (length reason) (length line) (omega (arith, len)) (omega (arith, len, long));
      line = refl;
      says = sym (ap (λ text. Status text code (drop (length line - length reason) line)) first ∙ ap (Status version code) last);
      apart = omega (arith, len, long);
      within = omega arith;
    }

status_code : (line version told text reason : List ℕ) → line ≡ version ++ (space ∷ text) → drop (length line - length reason) line ≡ reason → (0 < length told → length reason < length text)
    → (code : Option ℕ) → code_of told ≡ code → IfSome (option_and_then (λ code. Some (Status version code reason)) code) (HasPlaces line)
status_code line version told text reason is last long None at = tt
status_code line version told text reason is last long (Some code) at = status_places line version text reason code is last (long (code_long told code at))

status_rest : (line version text : List ℕ) → line ≡ version ++ (space ∷ text) → (cut : Option (List ℕ × List ℕ)) → cut_at space text ≡ cut → IfSome (status_with version (unwrap_or cut (text, []))) (HasPlaces line)
status_rest line version text is None at =
    let all : length line - 0 ≡ length line = omega arith in
    status_code line version text text [] is (ap (λ n. drop n line) all ∙ drop-length line) (λ long. long) (code_of text) refl
status_rest line version text is (Some parts) at =
    let joined = cut_joined space text parts at in
    let whole : line ≡ (version ++ (space ∷ parts.0)) ++ (space ∷ parts.1) = is ∙ ap (λ text. version ++ (space ∷ text)) joined ∙ sym (append_assoc version (space ∷ parts.0) (space ∷ parts.1)) in
    status_code line version parts.0 text parts.1 is (last_part line (version ++ (space ∷ parts.0)) parts.1 whole)
    (λ long. omega (arith, ap length joined, length-append parts.0 (space ∷ parts.1))) (code_of parts.0) refl

status_line : (line : List ℕ) (cut : Option (List ℕ × List ℕ)) → cut_at space line ≡ cut
    → IfSome (option_and_then (λ (first : List ℕ × List ℕ). status_with first.0 (unwrap_or (cut_at space first.1) (first.1, []))) cut) (HasPlaces line)
status_line line None at = tt
status_line line (Some first) at = status_rest line first.0 first.1 (cut_joined space line first at) (cut_at space first.1) refl

plain_places : (line : List ℕ) (names : Bool) → IfSome (cond names (status_of line) (request_of line)) (HasPlaces line)
plain_places line true = status_line line (cut_at space line) refl
plain_places line false = request_line line (cut_at space line) refl

sound_places : (line : List ℕ) (start : Start) (found : Option Start) → IfSome found (HasPlaces line) → ok_or found faults.Start ≡ Ok start → HasPlaces line start
sound_places line start None places is = cc
sound_places line start (Some found) places is = let same : found ≡ start = cc in subst (HasPlaces line) same places

start_by : (line : List ℕ) (start : Start) (control : Bool) → cond control (Err faults.Control) (ok_or (cond (names_protocol line) (status_of line) (request_of line)) faults.Start) ≡ Ok start → HasPlaces line start
start_by line start true is = cc
start_by line start false is = sound_places line start (cond (names_protocol line) (status_of line) (request_of line)) (plain_places line (names_protocol line)) is

pub start_places : (line : List ℕ) (start : Start) → start_of line ≡ Ok start → HasPlaces line start
start_places line start is = start_by line start (has_control line) is
