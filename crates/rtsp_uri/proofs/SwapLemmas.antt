-- What the swap does to a URI with the authority of a base.
use Rattle.std.proofs.Common.{◌≡◌, ℕ, ◌+◌, ◌≤◌, true, false, ◌==◌, cond, List, [], ◌∷◌, ◌++◌, length, drop, Option, None, Some, refl, sym, ◌∙◌, ap, append_assoc, arith}
use Rattle.std.specs.Prelude.{option_map}
use Rattle.std.specs.Str.{str_to_ascii_lowercase}
use Rattle.std.proofs.lemmas.Bool.{and_from, eq-eqb}
use Rattle.std.proofs.lemmas.List.{drop_at, drop-take, take-append-le, length-append, length-take}
use Rattle.std.proofs.lemmas.Slice.Eq.{bytes_eq-Decides}
use Rattle.gate_bytes.specs.Tokens.{equal_fold}
use Rattle.rtsp_uri.specs.declared.grammar.UriPlaces.{UriPlaces}
use Rattle.rtsp_uri.specs.declared.base.Base.{Base}
use Rattle.rtsp_uri.specs.Uris.{scheme, is_rest, places_of}
use Rattle.rtsp_uri.specs.Grammar.{Spelled}
use Rattle.rtsp_uri.specs.BaseTexts.{IsBase}
use Rattle.rtsp_uri.specs.Swaps.{port_named, host_at, authority_of, are_one, has_authority, rest_of, with_rest, swapped}
use Rattle.rtsp_uri.proofs.GrammarLemmas.{same_length, spelled_is_cut}
use Rattle.rtsp_uri.proofs.CutLemmas.{cut_is_spelled}
use Rattle.rtsp_uri.proofs.BaseLemmas.{base_authority}

-- the places of a base's host, port and end
abbrev places_in : List ℕ → List ℕ → Option ℕ → UriPlaces
places_in text host port = record { host_end = 7 + length host; port = port; rest = 7 + length text }

no_length : (xs : List ℕ) → length xs ≡ 0 → xs ≡ []
no_length [] h = refl
no_length (x ∷ xs) h = absurd (omega (arith, h))

longer : (text rest : List ℕ) (places : UriPlaces) → places.rest ≡ 7 + length text → is_rest rest ≡ true → Spelled (scheme ++ text) places → Spelled (scheme ++ (text ++ rest)) places
longer text rest places ends r s =
    let seven : length s.first ≡ 7 = same_length s.first scheme s.is_scheme in
    let all : 7 + length text ≡ length (s.first ++ (s.host ++ (s.port ++ s.rest))) = omega (arith, ap length s.whole, length-append scheme text) in
    let none : s.rest ≡ [] = no_length s.rest
    (omega (arith, all, seven, ends, s.rest_at, length-append s.first (s.host ++ (s.port ++ s.rest)), length-append s.host (s.port ++ s.rest), length-append s.port s.rest)) in
    record {
      first = s.first;
      host = s.host;
      port = s.port;
      rest = rest;
      whole =
          ap (λ t. t ++ rest) (s.whole ∙ ap (λ t. s.first ++ (s.host ++ (s.port ++ t))) none)
          ∙ append_assoc s.first (s.host ++ (s.port ++ [])) rest
          ∙ ap (λ t. s.first ++ t) (append_assoc s.host (s.port ++ []) rest ∙ ap (λ t. s.host ++ t) (append_assoc s.port [] rest));
      is_scheme = s.is_scheme;
      is_host = s.is_host;
      is_port = s.is_port;
      is_rest = r;
      host_end = s.host_end;
      rest_at = s.rest_at;
    }

-- a base with a rest behind it is cut where the base ends
pub base_places : (text host : List ℕ) (port : Option ℕ) (rest : List ℕ) → IsBase text host port → is_rest rest ≡ true
    → places_of (scheme ++ (text ++ rest)) ≡ Some (places_in text host port)
base_places text host port rest is r =
    let places = places_in text host port in
    spelled_is_cut (scheme ++ (text ++ rest)) places (longer text rest places refl r (cut_is_spelled (scheme ++ text) places is.places))

host_within : (text host : List ℕ) (port : Option ℕ) → IsBase text host port → length host ≤ length text
host_within text host port is = omega (arith, ap length is.begins, length-take (length host) text)

-- and it has the base's authority
pub base_rest_authority : (text host : List ℕ) (port : Option ℕ) (rest : List ℕ) → IsBase text host port → is_rest rest ≡ true
    → authority_of (scheme ++ (text ++ rest)) ≡ authority_of (scheme ++ text)
base_rest_authority text host port rest is r =
    let uri = scheme ++ (text ++ rest) in
    ap (option_map (λ places. (host_at uri places, port_named places.port))) (base_places text host port rest is r)
    ∙ ap (λ h. Some (h, port_named port)) (drop-take 7 (length host) uri ∙ take-append-le (length host) text rest (host_within text host port is) ∙ is.begins)
    ∙ sym (base_authority text host port is)

same_fold : (xs : List ℕ) → equal_fold xs xs ≡ true
same_fold xs = (bytes_eq-Decides (str_to_ascii_lowercase xs) (str_to_ascii_lowercase xs)).1 refl

one_with_itself : (host : List ℕ) (port : ℕ) → are_one (Some (host, port)) (Some (host, port)) ≡ true
one_with_itself host port = and_from (equal_fold host host) (port == port) (same_fold host) (eq-eqb port port refl)

pub base_has : (text host : List ℕ) (port : Option ℕ) (rest : List ℕ) → IsBase text host port → is_rest rest ≡ true
    → has_authority text (scheme ++ (text ++ rest)) ≡ true
base_has text host port rest is r =
    ap (are_one (authority_of (scheme ++ text))) (base_rest_authority text host port rest is r)
    ∙ ap (λ a. are_one a a) (base_authority text host port is) ∙ one_with_itself host (port_named port)

pub base_rest : (text host : List ℕ) (port : Option ℕ) (rest : List ℕ) → IsBase text host port → is_rest rest ≡ true
    → rest_of (scheme ++ (text ++ rest)) ≡ Some rest
base_rest text host port rest is r =
    let uri = scheme ++ (text ++ rest) in
    ap (option_map (λ places. drop places.rest uri)) (base_places text host port rest is r)
    ∙ ap (λ t. Some t) (drop_at (scheme ++ text) rest (7 + length text) (length-append scheme text))

-- a URI that spells a base's authority as the base does is given another's
pub swap_goes : (from to : Base) (rest : List ℕ) → is_rest rest ≡ true → swapped from.text to.text (scheme ++ (from.text ++ rest)) ≡ scheme ++ (to.text ++ rest)
swap_goes from to rest r =
    let uri = scheme ++ (from.text ++ rest) in
    ap (λ t. with_rest to.text uri (cond t (rest_of uri) None)) (base_has from.text from.host from.port rest from.whole r)
    ∙ ap (with_rest to.text uri) (base_rest from.text from.host from.port rest from.whole r)

-- and back
pub swap_comes_back : (from to : Base) (rest : List ℕ) → is_rest rest ≡ true
    → swapped to.text from.text (swapped from.text to.text (scheme ++ (from.text ++ rest))) ≡ scheme ++ (from.text ++ rest)
swap_comes_back from to rest r = ap (swapped to.text from.text) (swap_goes from to rest r) ∙ swap_goes to from rest r

-- a text without the authority stays
pub swap_keeps : (from to uri : List ℕ) → has_authority from uri ≡ false → swapped from to uri ≡ uri
swap_keeps from to uri h = ap (λ t. with_rest to uri (cond t (rest_of uri) None)) h

-- the rest of a URI is one
rest_is_rest : (uri : List ℕ) (places : UriPlaces) → Spelled uri places → is_rest (drop places.rest uri) ≡ true
rest_is_rest uri places s =
    let seven : length s.first ≡ 7 = same_length s.first scheme s.is_scheme in
    let front = s.first ++ (s.host ++ s.port) in
    let apart : uri ≡ front ++ s.rest =
    s.whole ∙ ap (λ t. s.first ++ t) (sym (append_assoc s.host s.port s.rest)) ∙ sym (append_assoc s.first (s.host ++ s.port) s.rest) in
    let long : length front ≡ places.rest = omega (arith, seven, s.rest_at, length-append s.first (s.host ++ s.port), length-append s.host s.port) in
    ap (λ t. is_rest (drop places.rest t)) apart ∙ ap is_rest (drop_at front s.rest places.rest long) ∙ s.is_rest

-- where a URI has an authority, it has a rest
pub record HasRest (uri : List ℕ) : Type 0 where
  pub rest : List ℕ
  pub is : rest_of uri ≡ Some rest
  pub sound : is_rest rest ≡ true

not_one : (one : Option (List ℕ × ℕ)) → are_one one None ≡ true → ⊥
not_one None h = cc
not_one (Some one) h = cc

has_rest_with : (base uri : List ℕ) (places : Option UriPlaces) → places_of uri ≡ places → has_authority base uri ≡ true → HasRest uri
has_rest_with base uri None e h =
    absurd (not_one (authority_of (scheme ++ base)) (sym (ap (λ o. are_one (authority_of (scheme ++ base)) (option_map (λ places. (host_at uri places, port_named places.port)) o)) e) ∙ h))
has_rest_with base uri (Some places) e h = record {
  rest = drop places.rest uri;
  is = ap (option_map (λ places. drop places.rest uri)) e;
  sound = rest_is_rest uri places (cut_is_spelled uri places e);
}

-- what was swapped has the other authority
pub swap_gives : (from : List ℕ) (to : Base) (uri : List ℕ) → has_authority from uri ≡ true → has_authority to.text (swapped from to.text uri) ≡ true
swap_gives from to uri h =
    let rest = has_rest_with from uri (places_of uri) refl h in
    let goes : swapped from to.text uri ≡ scheme ++ (to.text ++ rest.rest) =
    ap (λ t. with_rest to.text uri (cond t (rest_of uri) None)) h ∙ ap (with_rest to.text uri) rest.is in
    ap (has_authority to.text) goes ∙ base_has to.text to.host to.port rest.rest to.whole rest.sound
