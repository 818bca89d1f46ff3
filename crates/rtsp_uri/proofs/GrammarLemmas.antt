-- What is cut is spelled by the grammar, and what is spelled so is cut.
use Rattle.std.proofs.Common.{◌≡◌, ℕ, ◌+◌, ◌<◌, ◌≤◌, ◌⊎◌, inl, inr, true, false, ◌&&◌, ◌==◌, not, cond, List, [], ◌∷◌, ◌++◌, length, take, drop, Option, None, Some, refl, sym, ◌∙◌, ap, subst, append_assoc, arith}
use Rattle.std.specs.Prelude.{nat_le, nat_lt, option_map}
use Rattle.std.specs.Option.{option_and_then}
use Rattle.std.specs.List.{prefix_len, list_all}
use Rattle.std.specs.Char.{is_ascii_digit, to_ascii_lowercase}
use Rattle.std.specs.Str.{str_to_ascii_lowercase}
use Rattle.std.specs.Str.Parse.{digits_value}
use Rattle.std.proofs.lemmas.Bool.{and_parts, and_from, le-leb, lt-ltb}
use Rattle.std.proofs.lemmas.List.{take_at, drop_at, length-map, length-append}
use Rattle.std.proofs.lemmas.Option.{cond_some, option_and_then_some}
use Rattle.std.proofs.lemmas.Slice.Eq.{bytes_eq-Decides}
use Rattle.gate_bytes.specs.Ascii as ascii
use Rattle.gate_bytes.specs.Tokens.{equal_fold}
use Rattle.gate_bytes.specs.Numbers.{number_in}
use Rattle.rtsp_uri.specs.declared.grammar.UriPlaces.{UriPlaces}
use Rattle.rtsp_uri.specs.Uris.{scheme, has_scheme, is_name_byte, is_address_byte, some_bytes, begins_with, address_len, host_len, port_of, port_part, is_rest, places_with, places_behind, places_of}
use Rattle.rtsp_uri.specs.Grammar.{SomeOf, IsHost, IsPort, Spelled}
use Rattle.rtsp_uri.proofs.FrontLemmas.{Stops, front_whole}

-- texts that are equal without case have one length
pub same_length : (xs ys : List ℕ) → equal_fold xs ys ≡ true → length xs ≡ length ys
same_length xs ys h =
    let same = (bytes_eq-Decides (str_to_ascii_lowercase xs) (str_to_ascii_lowercase ys)).0 h in
    sym (length-map xs to_ascii_lowercase) ∙ ap length same ∙ length-map ys to_ascii_lowercase

-- what follows a host begins no host: it is empty, or begins with one of :/?
abbrev Follows : List ℕ → Type 0
Follows [] = Unit {0}
Follows (b ∷ text) = (b ≡ ascii.colon) ⊎ ((b ≡ ascii.slash) ⊎ (b ≡ ascii.question_mark))

first_of_rest : (b : ℕ) (text : List ℕ) → is_rest (b ∷ text) ≡ true → (b ≡ ascii.slash) ⊎ (b ≡ ascii.question_mark)
first_of_rest b text h = grind (arith, h)

rest_follows : (rest : List ℕ) → is_rest rest ≡ true → Follows rest
rest_follows [] h = tt
rest_follows (b ∷ rest) h = inr (first_of_rest b rest h)

port_follows : (text rest : List ℕ) (port : Option ℕ) → IsPort text port → is_rest rest ≡ true → Follows (text ++ rest)
port_follows text rest None h r = subst Follows (sym (ap (λ t. t ++ rest) h)) (rest_follows rest r)
port_follows text rest (Some port) h r = subst Follows (sym (ap (λ t. t ++ rest) h.1)) (inl refl)

name_stops : (text : List ℕ) → Follows text → Stops is_name_byte text
name_stops [] h = tt
name_stops (b ∷ text) (inl e) = subst (λ c. is_name_byte c ≡ false) (sym e) refl
name_stops (b ∷ text) (inr (inl e)) = subst (λ c. is_name_byte c ≡ false) (sym e) refl
name_stops (b ∷ text) (inr (inr e)) = subst (λ c. is_name_byte c ≡ false) (sym e) refl

some_length : (n : ℕ) → 0 < n → some_bytes n ≡ Some n
some_length n h = ap (λ t. cond t (Some n) None) (lt-ltb 0 n h)

name_first : (b : ℕ) (host : List ℕ) → list_all is_name_byte (b ∷ host) ≡ true → (b == ascii.open_bracket) ≡ false
name_first b host h = grind (arith, h)

-- the length of an address in brackets that stands at the front
address_at : (inside more : List ℕ) (n : ℕ) → n ≡ length inside → 0 < length inside
    → cond (nat_lt 0 n && begins_with ascii.close_bracket (drop n (inside ++ (ascii.close_bracket ∷ more)))) (Some (n + 2)) None ≡ Some (length inside + 2)
address_at inside more n e h =
    let len = length inside in
    ap (λ k. cond (nat_lt 0 k && begins_with ascii.close_bracket (drop k (inside ++ (ascii.close_bracket ∷ more)))) (Some (k + 2)) None) e
    ∙ ap (λ t. cond (t && begins_with ascii.close_bracket (drop len (inside ++ (ascii.close_bracket ∷ more)))) (Some (len + 2)) None) (lt-ltb 0 len h)
    ∙ ap (λ r. cond (begins_with ascii.close_bracket r) (Some (len + 2)) None) (drop_at inside (ascii.close_bracket ∷ more) len refl)

address_found : (inside more : List ℕ) → SomeOf is_address_byte inside → address_len (inside ++ (ascii.close_bracket ∷ more)) ≡ Some (length inside + 2)
address_found inside more h = address_at inside more (prefix_len is_address_byte (inside ++ (ascii.close_bracket ∷ more))) (front_whole is_address_byte inside (ascii.close_bracket ∷ more) h.1 refl) h.0

brackets_found : (inside more : List ℕ) → SomeOf is_address_byte inside → host_len ((ascii.open_bracket ∷ (inside ++ (ascii.close_bracket ∷ []))) ++ more) ≡ Some (length (ascii.open_bracket ∷ (inside ++ (ascii.close_bracket ∷ []))))
brackets_found inside more h =
    let long : length inside + 2 ≡ length (ascii.open_bracket ∷ (inside ++ (ascii.close_bracket ∷ []))) = omega (arith, length-append inside (ascii.close_bracket ∷ [])) in
    ap address_len (append_assoc inside (ascii.close_bracket ∷ []) more) ∙ address_found inside more h ∙ ap (λ n. Some n) long

-- the length of a host that stands at the front
host_found : (host more : List ℕ) → IsHost host → Follows more → host_len (host ++ more) ≡ Some (length host)
host_found [] more (inl h) f = absurd (omega (arith, h.0))
host_found (b ∷ host) more (inl h) f =
    ap (λ t. cond t (address_len (host ++ more)) (some_bytes (prefix_len is_name_byte ((b ∷ host) ++ more)))) (name_first b host h.1)
    ∙ ap some_bytes (front_whole is_name_byte (b ∷ host) more h.1 (name_stops more f)) ∙ some_length (length (b ∷ host)) h.0
host_found host more (inr h) f =
    subst (λ (t : List ℕ). host_len (t ++ more) ≡ Some (length t)) (sym h.2) (brackets_found h.0 more h.1)

digits_stop : (rest : List ℕ) → is_rest rest ≡ true → Stops is_ascii_digit rest
digits_stop [] h = tt
digits_stop (b ∷ rest) h = by_first (first_of_rest b rest h) where
  by_first : (b ≡ ascii.slash) ⊎ (b ≡ ascii.question_mark) → is_ascii_digit b ≡ false
  by_first (inl e) = subst (λ c. is_ascii_digit c ≡ false) (sym e) refl
  by_first (inr e) = subst (λ c. is_ascii_digit c ≡ false) (sym e) refl

number_digits : (text : List ℕ) (n : ℕ) → number_in 5 text ≡ Some n → list_all is_ascii_digit text ≡ true
number_digits text n h =
    (and_parts (not (length text == 0) && nat_le (length text) 5) (list_all is_ascii_digit text)
    (cond_some ((not (length text == 0) && nat_le (length text) 5) && list_all is_ascii_digit text) (digits_value 10 text) n h).0).1

-- a port has digits alone
pub port_digits : (text : List ℕ) (port : ℕ) → port_of text ≡ Some port → list_all is_ascii_digit text ≡ true
port_digits text port h =
    option_and_then_some (λ n. cond (nat_le n 65535) (Some n) None) (number_in 5 text) port h (λ n is _. number_digits text n is)

-- a port, with the length of its digits and the colon
abbrev part : ℕ → ℕ → Option ℕ × ℕ
part digits port = (Some port, 1 + digits)

abbrev part_of : Option ℕ → ℕ → Option (Option ℕ × ℕ)
part_of port bytes = Some (port, bytes)

no_port : (rest : List ℕ) → is_rest rest ≡ true → port_part rest ≡ part_of None 0
no_port [] h = refl
no_port (b ∷ rest) h = by_first (first_of_rest b rest h) where
  by_first : (b ≡ ascii.slash) ⊎ (b ≡ ascii.question_mark) → port_part (b ∷ rest) ≡ part_of None 0
  by_first (inl e) = subst (λ c. port_part (c ∷ rest) ≡ part_of None 0) (sym e) refl
  by_first (inr e) = subst (λ c. port_part (c ∷ rest) ≡ part_of None 0) (sym e) refl

digits_at : (digits rest : List ℕ) (port n : ℕ) → n ≡ length digits → port_of digits ≡ Some port
    → option_map (part n) (port_of (take n (digits ++ rest))) ≡ part_of (Some port) (1 + length digits)
digits_at digits rest port n e h =
    ap (λ k. option_map (part k) (port_of (take k (digits ++ rest)))) e
    ∙ ap (λ t. option_map (part (length digits)) (port_of t)) (take_at digits rest (length digits) refl)
    ∙ ap (option_map (part (length digits))) h

colon_found : (digits rest : List ℕ) (port : ℕ) → port_of digits ≡ Some port → is_rest rest ≡ true
    → port_part ((ascii.colon ∷ digits) ++ rest) ≡ part_of (Some port) (length (ascii.colon ∷ digits))
colon_found digits rest port h r =
    let one : 1 + length digits ≡ length (ascii.colon ∷ digits) = omega arith in
    digits_at digits rest port (prefix_len is_ascii_digit (digits ++ rest)) (front_whole is_ascii_digit digits rest (port_digits digits port h) (digits_stop rest r)) h
    ∙ ap (part_of (Some port)) one

-- the port that stands behind a host
port_found : (text rest : List ℕ) (port : Option ℕ) → IsPort text port → is_rest rest ≡ true → port_part (text ++ rest) ≡ part_of port (length text)
port_found text rest None h r = subst (λ (t : List ℕ). port_part (t ++ rest) ≡ part_of None (length t)) (sym h) (no_port rest r)
port_found text rest (Some port) h r =
    subst (λ (t : List ℕ). port_part (t ++ rest) ≡ part_of (Some port) (length t)) (sym h.1) (colon_found h.0 rest port h.2 r)

-- the parts behind the scheme
body_found : (host port rest : List ℕ) (number : Option ℕ) → IsHost host → IsPort port number → is_rest rest ≡ true
    → places_behind (host ++ (port ++ rest)) ≡ Some (record { host_end = 7 + length host; port = number; rest = 7 + (length host + length port) })
body_found host port rest number h p r =
    let body = host ++ (port ++ rest) in
    let len = length host in
    let behind : drop (len + length port) body ≡ rest =
    ap (drop (len + length port)) (sym (append_assoc host port rest)) ∙ drop_at (host ++ port) rest (len + length port) (length-append host port) in
    ap (option_and_then (λ n. option_and_then (places_with body n) (port_part (drop n body)))) (host_found host (port ++ rest) h (port_follows port rest number p r))
    ∙ ap (λ t. option_and_then (places_with body len) (port_part t)) (drop_at host (port ++ rest) len refl)
    ∙ ap (option_and_then (places_with body len)) (port_found port rest number p r)
    ∙ ap (λ t. cond (is_rest t) (Some (record { host_end = 7 + len; port = number; rest = 7 + (len + length port) })) None) behind
    ∙ ap (λ t. cond t (Some (record { host_end = 7 + len; port = number; rest = 7 + (len + length port) })) None) r

scheme_found : (first body : List ℕ) → equal_fold first scheme ≡ true → (has_scheme (first ++ body) ≡ true) × (drop 7 (first ++ body) ≡ body)
scheme_found first body h =
    let seven : length first ≡ 7 = same_length first scheme h in
    let long : 7 ≤ length (first ++ body) = omega (arith, seven, length-append first body) in (
      and_from (nat_le 7 (length (first ++ body))) (equal_fold (take 7 (first ++ body)) scheme) (le-leb 7 (length (first ++ body)) long) (ap (λ t. equal_fold t scheme) (take_at first body 7 seven) ∙ h),
      drop_at first body 7 seven,
    )

-- what is spelled so is cut
pub spelled_is_cut : (uri : List ℕ) (places : UriPlaces) → Spelled uri places → places_of uri ≡ Some places
spelled_is_cut uri places s =
    let body = s.host ++ (s.port ++ s.rest) in
    let found = scheme_found s.first body s.is_scheme in
    ap places_of s.whole
    ∙ ap (λ t. cond t (places_behind (drop 7 (s.first ++ body))) None) found.0
    ∙ ap places_behind found.1 ∙ body_found s.host s.port s.rest places.port s.is_host s.is_port s.is_rest
    ∙ ap (λ n. Some (record { host_end = n; port = places.port; rest = 7 + (length s.host + length s.port) })) (sym s.host_end)
    ∙ ap (λ n. Some (record { host_end = places.host_end; port = places.port; rest = n })) (sym s.rest_at)
