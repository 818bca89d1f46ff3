-- How far the lines of a head were searched, and what follows of its length.
use Rattle.std.proofs.Common.{◌≡◌, ℕ, zero, suc, ◌+◌, ◌-◌, ◌<◌, ◌≤◌, Bool, true, false, cond, eqb, List, [], ◌∷◌, ◌++◌, length, take, drop, Option, Some, None, refl, sym, ap, ◌∙◌, arith, append_assoc, take-append-drop}
use Rattle.std.specs.Option.{option_map}
use Rattle.std.proofs.lemmas.List.{take_all, take-take, take-append-le, drop-append-le, length-take, length-drop, length-take-le, length-append, drop-take, drop-drop, drop_at}
use Rattle.gate_bytes.specs.Ascii as ascii
use Rattle.gate_bytes.specs.Places.{place_of}
use Rattle.rtsp_head.specs.Items.{head_len}
use Rattle.rtsp_head.specs.Lines.{is_empty_line}
use Rattle.rtsp_frame.specs.Fronts.{IsLineTo}
use Rattle.rtsp_head.proofs.HeadEndLemmas.{later, later_zero, later_later, place_in_front, head_ends, head_goes_on, head_needs_lf}

-- Places of a byte in parts of a text

behind_more : (t : Bool) (o p : Option ℕ) (d k : ℕ) → (o ≡ None → p ≡ Some (d + k)) → cond t (Some 0) (option_map (λ n. n + 1) o) ≡ None → cond t (Some 0) (option_map (λ n. n + 1) p) ≡ Some (suc d + k)
behind_more true o p d k f h = cc
behind_more false None p d k f h = let e : d + k + 1 ≡ suc d + k = omega arith in ap (option_map (λ n. n + 1)) (f refl) ∙ ap (λ n. Some n) e
behind_more false (Some m) p d k f h = cc

-- the place of a byte that does not stand in front
pub place_behind : (byte : ℕ) (text : List ℕ) (d k : ℕ) → place_of byte (take d text) ≡ None → place_of byte (drop d text) ≡ Some k → place_of byte text ≡ Some (d + k)
place_behind byte text zero k none at = let e : k ≡ 0 + k = omega arith in at ∙ ap (λ n. Some n) e
place_behind byte [] (suc d) k none at = cc
place_behind byte (b ∷ text) (suc d) k none at =
    behind_more (eqb b byte) (place_of byte (take d text)) (place_of byte text) d k (λ here. place_behind byte text d k here at) none

nowhere_more : (t : Bool) (o p : Option ℕ) → (o ≡ None → p ≡ None) → cond t (Some 0) (option_map (λ n. n + 1) o) ≡ None → cond t (Some 0) (option_map (λ n. n + 1) p) ≡ None
nowhere_more true o p f h = cc
nowhere_more false None p f h = ap (option_map (λ n. n + 1)) (f refl)
nowhere_more false (Some m) p f h = cc

-- a byte that stands in neither part of a text
pub place_in_neither : (byte : ℕ) (text : List ℕ) (d : ℕ) → place_of byte (take d text) ≡ None → place_of byte (drop d text) ≡ None → place_of byte text ≡ None
place_in_neither byte text zero none at = at
place_in_neither byte [] (suc d) none at = refl
place_in_neither byte (b ∷ text) (suc d) none at =
    nowhere_more (eqb b byte) (place_of byte (take d text)) (place_of byte text) (λ here. place_in_neither byte text d here at) none

-- Lines of a head

-- the first line begins at the front
pub reached_none : (bytes : List ℕ) → IsLineTo bytes 0 0
reached_none bytes = record {
  within = omega arith;
  order = omega arith;
  lines = λ more. sym (later_zero (head_len more));
  no_end = refl;
}

-- what was searched of a text was searched of a longer one
pub reached_more : (bytes more : List ℕ) (line to : ℕ) → IsLineTo bytes line to → IsLineTo (bytes ++ more) line to
reached_more bytes more line to h =
    let within = h.within in
    let order = h.order in
    let same : take line (bytes ++ more) ≡ take line bytes = take-append-le line bytes more (omega arith) in
    let rest : drop line (bytes ++ more) ≡ drop line bytes ++ more = drop-append-le line bytes more (omega arith) in
    let same_line : take (to - line) (drop line bytes ++ more) ≡ take (to - line) (drop line bytes) =
    take-append-le (to - line) (drop line bytes) more (omega (arith, length-drop line bytes)) in
    record {
      within = omega (arith, length-append bytes more);
      order = order;
      lines = λ later. ap (λ (l : List ℕ). head_len (l ++ later)) same ∙ h.lines later;
      no_end = ap (λ (l : List ℕ). place_of ascii.lf (take (to - line) l)) rest ∙ ap (place_of ascii.lf) same_line ∙ h.no_end;
    }

-- and of a front of it
pub reached_front : (bytes : List ℕ) (most line to : ℕ) → to ≤ most → IsLineTo bytes line to → IsLineTo (take most bytes) line to
reached_front bytes most line to le h =
    let within = h.within in
    let order = h.order in
    let parts : most ≡ line + (most - line) = omega arith in
    let same_line : take (to - line) (drop line (take most bytes)) ≡ take (to - line) (drop line bytes) =
    ap (λ (n : ℕ). take (to - line) (drop line (take n bytes))) parts
    ∙ ap (take (to - line)) (drop-take line (most - line) bytes)
    ∙ take-take (to - line) (most - line) (drop line bytes) (omega arith) in
    record {
      within = omega (arith, length-take most bytes);
      order = order;
      lines = λ later. ap (λ (l : List ℕ). head_len (l ++ later)) (take-take line most bytes (omega arith)) ∙ h.lines later;
      no_end = ap (place_of ascii.lf) same_line ∙ h.no_end;
    }

-- the place of the next line end, counted from where its line begins
line_place : (bytes : List ℕ) (line to end : ℕ) → IsLineTo bytes line to → place_of ascii.lf (drop to bytes) ≡ Some end → place_of ascii.lf (drop line bytes) ≡ Some (to - line + end)
line_place bytes line to end h at =
    let order = h.order in
    let sum : line + (to - line) ≡ to = omega arith in
    place_behind ascii.lf (drop line bytes) (to - line) end h.no_end
    (ap (place_of ascii.lf) (drop-drop (to - line) line bytes ∙ ap (λ (n : ℕ). drop n bytes) sum) ∙ at)

-- the line up to there
line_text : (bytes : List ℕ) (line to end : ℕ) → line ≤ to → drop line (take (to + end) bytes) ≡ take (to - line + end) (drop line bytes)
line_text bytes line to end order =
    let sum : to + end ≡ line + (to - line + end) = omega arith in
    ap (λ (n : ℕ). drop line (take n bytes)) sum ∙ drop-take line (to - line + end) bytes

-- the head by where a line begins
head_from_line : (bytes : List ℕ) (line to : ℕ) → IsLineTo bytes line to → head_len bytes ≡ later line (head_len (drop line bytes))
head_from_line bytes line to h = ap head_len (sym (take-append-drop line bytes)) ∙ h.lines (drop line bytes)

-- the head ends with an empty line
pub line_ends : (bytes : List ℕ) (line to end : ℕ) → IsLineTo bytes line to → place_of ascii.lf (drop to bytes) ≡ Some end → is_empty_line (drop line (take (to + end) bytes)) ≡ true → head_len bytes ≡ Some (to + end + 1)
line_ends bytes line to end h at empty =
    let order = h.order in
    let sum : line + (to - line + end + 1) ≡ to + end + 1 = omega arith in
    head_from_line bytes line to h
    ∙ ap (later line) (head_ends (drop line bytes) (to - line + end) (line_place bytes line to end h at) (ap is_empty_line (sym (line_text bytes line to end order)) ∙ empty))
    ∙ ap (λ n. Some n) sum

-- what stands up to behind a place, by where a line begins
line_with_end : (bytes : List ℕ) (line k : ℕ) → take (line + k) bytes ≡ take line bytes ++ take k (drop line bytes)
line_with_end bytes line k =
    let whole = take-append-drop line (take (line + k) bytes) in
    sym whole ∙ ap (λ (l : List ℕ). l ++ drop line (take (line + k) bytes)) (take-take line (line + k) bytes (omega arith))
    ∙ ap (λ (l : List ℕ). take line bytes ++ l) (drop-take line k bytes)

-- behind another line a line begins
pub line_next : (bytes : List ℕ) (line to end : ℕ) → IsLineTo bytes line to → end < length (drop to bytes) → place_of ascii.lf (drop to bytes) ≡ Some end → is_empty_line (drop line (take (to + end) bytes)) ≡ false → IsLineTo bytes (to + end + 1) (to + end + 1)
line_next bytes line to end h fits at full =
    let order = h.order in
    let within = h.within in
    let k : ℕ = to - line + end in
    let next : to + end + 1 ≡ line + suc k = omega arith in
    let place = line_place bytes line to end h at in
    let none : to + end + 1 - (to + end + 1) ≡ 0 = omega arith in
    record {
      within = omega (arith, length-drop to bytes);
      order = omega arith;
      lines = λ more.
          let front : List ℕ = take (suc k) (drop line bytes) in
          let text : List ℕ = front ++ more in
          let enough : length front ≡ suc k = length-take-le (suc k) (drop line bytes) (omega (arith, length-drop to bytes, length-drop line bytes)) in
          let same : take k text ≡ take k (drop line bytes) = take-append-le k front more (omega arith) ∙ take-take k (suc k) (drop line bytes) (omega arith) in
          ap (λ (n : ℕ). head_len (take n bytes ++ more)) next
          ∙ ap (λ (l : List ℕ). head_len (l ++ more)) (line_with_end bytes line (suc k))
          ∙ ap head_len (append_assoc (take line bytes) front more)
          ∙ h.lines text
          ∙ ap (later line) (
          head_goes_on text k (place_in_front ascii.lf (drop line bytes) more k (suc k) place (omega arith))
          (ap is_empty_line (same ∙ sym (line_text bytes line to end order)) ∙ full)
          ∙ ap (λ (l : List ℕ). later (suc k) (head_len l)) (drop_at front more (suc k) enough))
          ∙ later_later line (suc k) (head_len more)
          ∙ ap (λ (n : ℕ). later n (head_len more)) (sym next);
      no_end = ap (λ (n : ℕ). place_of ascii.lf (take n (drop (to + end + 1) bytes))) none;
    }

-- no line end is left
pub line_last : (bytes : List ℕ) (line to : ℕ) → IsLineTo bytes line to → place_of ascii.lf (drop to bytes) ≡ None → IsLineTo bytes line (length bytes)
line_last bytes line to h none =
    let order = h.order in
    let within = h.within in
    let sum : line + (to - line) ≡ to = omega arith in
    let nowhere : place_of ascii.lf (drop line bytes) ≡ None = place_in_neither ascii.lf (drop line bytes) (to - line) h.no_end
    (ap (place_of ascii.lf) (drop-drop (to - line) line bytes ∙ ap (λ (n : ℕ). drop n bytes) sum) ∙ none) in
    record {
      within = omega arith;
      order = omega arith;
      lines = h.lines;
      no_end = ap (place_of ascii.lf) (take_all (length bytes - line) (drop line bytes) (omega (arith, length-drop line bytes))) ∙ nowhere;
    }

-- a head whose last line has no end has none
pub line_endless : (bytes : List ℕ) (line : ℕ) → IsLineTo bytes line (length bytes) → head_len bytes ≡ None
line_endless bytes line h =
    let whole : take (length bytes - line) (drop line bytes) ≡ drop line bytes = take_all (length bytes - line) (drop line bytes) (omega (arith, length-drop line bytes)) in
    head_from_line bytes line (length bytes) h
    ∙ ap (later line) (head_needs_lf (drop line bytes) true (ap (place_of ascii.lf) (sym whole) ∙ h.no_end))
