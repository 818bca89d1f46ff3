-- The URIs of requests fit into a request line, on their way up too.
use Rattle.std.proofs.Common.{◌≡◌, ℕ, ◌+◌, ◌==◌, inl, inr, Bool, true, false, ◌&&◌, ◌||◌, not, cond, List, [], ◌∷◌, ◌++◌, length, drop, Option, None, Some, IfSome, refl, sym, ◌∙◌, ap, arith}
use Rattle.std.specs.Prelude.{codes, nat_le, unwrap_or, option_map}
use Rattle.std.specs.Str.{bytes_eq}
use Rattle.std.proofs.lemmas.Bool.{and_parts}
use Rattle.std.proofs.Math.Seq.{drop-append_seam}
use Rattle.rtsp_head.specs.Starts.{is_unspaced}
use Rattle.rtsp_head.specs.HeadText.{is_part, is_line_text}
use Rattle.rtsp_uri.specs.declared.grammar.UriPlaces.{UriPlaces}
use Rattle.rtsp_uri.specs.Uris.{scheme, is_name_byte, is_address_byte, is_rest_byte, is_rest, places_of}
use Rattle.rtsp_uri.specs.Grammar.{IsHost, IsPort}
use Rattle.rtsp_uri.specs.BaseTexts.{ends_at, is_base_text}
use Rattle.rtsp_uri.specs.Swaps.{has_authority, with_rest, swapped}
use Rattle.rtsp_uri.proofs.CutLemmas.{cut_is_spelled}
use Rattle.rtsp_uri.proofs.GrammarLemmas.{same_length, port_digits}
use Rattle.translate_up.specs.Views.{Judged}
use Rattle.translate_up.specs.Upward.{uri_up}
use Rattle.translate_up.specs.Sound.{is_target, IsFit}
use Rattle.translate_up.proofs.VisibleLemmas.{is_visible, all_weaker, all_dropped, all_joined, visible_line, visible_part, digits_visible}

name_byte : (b : ℕ) → is_name_byte b ≡ true → is_rest_byte b ≡ true
name_byte b h = grind (arith, h)

address_byte : (b : ℕ) → is_address_byte b ≡ true → is_rest_byte b ≡ true
address_byte b h = grind (arith, h)

host_visible : (host : List ℕ) → IsHost host → is_visible host ≡ true
host_visible host (inl name) = all_weaker is_name_byte is_rest_byte name_byte host name.1
host_visible host (inr address) =
    let inside : is_visible address.0 ≡ true = all_weaker is_address_byte is_rest_byte address_byte address.0 address.1.1 in
    ap is_visible address.2 ∙ all_joined is_rest_byte address.0 (93 ∷ []) inside refl

port_visible : (text : List ℕ) (port : Option ℕ) → IsPort text port → is_visible text ≡ true
port_visible text None h = ap is_visible h
port_visible text (Some port) h = ap is_visible h.1 ∙ digits_visible h.0 (port_digits h.0 port h.2)

rest_visible : (rest : List ℕ) → is_rest rest ≡ true → is_visible rest ≡ true
rest_visible [] h = refl
rest_visible (b ∷ rest) h = (and_parts (b == 47 || b == 63) (is_visible (b ∷ rest)) h).1

-- what follows seven bytes
behind_seven : (front back : List ℕ) → length front ≡ 7 → drop 7 (front ++ back) ≡ back
behind_seven front back h = ap (λ n. drop n (front ++ back)) (sym h) ∙ drop-append_seam front back

base_at : (text : List ℕ) (places : Option UriPlaces) → places_of (scheme ++ text) ≡ places → ends_at (7 + length text) places ≡ true → is_visible text ≡ true
base_at text None found ends = cc
base_at text (Some places) found ends =
    let spelled = cut_is_spelled (scheme ++ text) places found in
    let parts = spelled.host ++ (spelled.port ++ spelled.rest) in
    let same : text ≡ parts = ap (drop 7) spelled.whole ∙ behind_seven spelled.first parts (same_length spelled.first scheme spelled.is_scheme) in
    ap is_visible same
    ∙ all_joined is_rest_byte spelled.host (spelled.port ++ spelled.rest) (host_visible spelled.host spelled.is_host)
    (all_joined is_rest_byte spelled.port spelled.rest (port_visible spelled.port places.port spelled.is_port) (rest_visible spelled.rest spelled.is_rest))

-- The text of a base is visible.
pub base_visible : (text : List ℕ) → is_base_text text ≡ true → is_visible text ≡ true
base_visible text h =
    base_at text (places_of (scheme ++ text)) refl (and_parts (nat_le (length text) 248) (ends_at (7 + length text) (places_of (scheme ++ text))) h).1

-- the parts of a target, one by one
record Target (uri : List ℕ) : Type 0 where
  pub some : not (length uri == 0) ≡ true
  pub unspaced : is_unspaced uri ≡ true
  pub line : is_line_text uri ≡ true

target_parts : (uri : List ℕ) → is_target uri ≡ true → Target uri
target_parts uri h =
    let both = and_parts (is_part uri) (is_line_text uri) h in
    let part = and_parts (not (length uri == 0)) (is_unspaced uri) both.0 in
    record { some = part.0; unspaced = part.1; line = both.1 }

-- A URI behind another authority.
behind_authority : (to rest : List ℕ) → is_visible to ≡ true → is_unspaced rest ≡ true → is_line_text rest ≡ true → is_target (scheme ++ (to ++ rest)) ≡ true
behind_authority to rest visible unspaced line =
    let part : is_unspaced (to ++ rest) ≡ true = all_joined (λ b. not (b == 32)) to rest (visible_part to visible) unspaced in
    let text : is_line_text (to ++ rest) ≡ true = all_joined (λ b. not (b == 10) && (not (b == 13) && not (b == 0))) to rest (visible_line to visible) line in
    let some : not (length (scheme ++ (to ++ rest)) == 0) ≡ true = grind arith in
    ap (λ t. (t && is_unspaced (to ++ rest)) && is_line_text (to ++ rest)) some ∙ ap (λ t. t && is_line_text (to ++ rest)) part ∙ text

with_target : (to uri : List ℕ) (places : Option UriPlaces) (own : Bool) → is_visible to ≡ true → is_target uri ≡ true →
    is_target (with_rest to uri (cond own (option_map (λ places. drop places.rest uri) places) None)) ≡ true
with_target to uri places false visible target = target
with_target to uri None true visible target = target
with_target to uri (Some places) true visible target =
    let parts = target_parts uri target in
    behind_authority to (drop places.rest uri) visible (all_dropped (λ b. not (b == 32)) places.rest uri parts.unspaced)
    (all_dropped (λ b. not (b == 10) && (not (b == 13) && not (b == 0))) places.rest uri parts.line)

swapped_target : (from to uri : List ℕ) → is_visible to ≡ true → is_target uri ≡ true → is_target (swapped from to uri) ≡ true
swapped_target from to uri visible target = with_target to uri (places_of uri) (has_authority from uri) visible target

star_target : (control : Option (List ℕ)) → IfSome control (λ uri. is_target uri ≡ true) → is_target (unwrap_or control (codes "*")) ≡ true
star_target None h = refl
star_target (Some control) h = h

either_target : (star : Bool) (control : Option (List ℕ)) (uri : List ℕ) → IfSome control (λ uri. is_target uri ≡ true) → is_target uri ≡ true →
    is_target (cond star (unwrap_or control (codes "*")) uri) ≡ true
either_target true control uri c u = star_target control c
either_target false control uri c u = u

-- A URI that goes up fits into a request line.
pub uri_target : (judged : Judged) (uri : List ℕ) → IsFit judged → is_target uri ≡ true → is_target (uri_up judged uri) ≡ true
uri_target judged uri fit target =
    either_target (bytes_eq uri (codes "*")) judged.control (swapped judged.front judged.up uri) fit.control
    (swapped_target judged.front judged.up uri (base_visible judged.up fit.up) target)
