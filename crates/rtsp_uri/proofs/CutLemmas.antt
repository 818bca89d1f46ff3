-- What is cut is spelled by the grammar.
use Rattle.std.proofs.Common.{◌≡◌, ℕ, suc, ◌+◌, ◌<◌, ◌≤◌, inl, inr, Bool, true, false, ◌&&◌, cond, List, [], ◌∷◌, ◌++◌, length, take, drop, Option, None, Some, refl, sym, ◌∙◌, ap, subst, append_assoc, arith}
use Rattle.std.specs.Prelude.{nat_le, nat_lt, option_map}
use Rattle.std.specs.Option.{option_and_then}
use Rattle.std.specs.List.{prefix_len}
use Rattle.std.specs.Char.{is_ascii_digit}
use Rattle.std.proofs.lemmas.Bool.{and_parts, ltb-true}
use Rattle.std.proofs.lemmas.List.{take_at, length-append, length-take-le, take-append-drop, drop-drop}
use Rattle.std.proofs.lemmas.List.Sums.{prefix_len-le-length}
use Rattle.std.proofs.lemmas.Option.{cond_some, option_and_then_some, same_Some}
use Rattle.gate_bytes.specs.Ascii.{colon, open_bracket, close_bracket}
use Rattle.gate_bytes.specs.Tokens.{equal_fold}
use Rattle.rtsp_uri.specs.declared.grammar.UriPlaces.{UriPlaces}
use Rattle.rtsp_uri.specs.Uris.{scheme, has_scheme, is_name_byte, is_address_byte, some_bytes, begins_with, address_len, host_len, port_of, port_part, is_rest, places_with, places_behind, places_of}
use Rattle.rtsp_uri.specs.Grammar.{SomeOf, IsHost, IsPort, Spelled}
use Rattle.rtsp_uri.proofs.FrontLemmas.{front_kind}

when_some : {A : Type 0} (t : Bool) (o : Option A) (x : A) → cond t o None ≡ Some x → (t ≡ true) × (o ≡ Some x)
when_some true o x h = (refl, h)
when_some false o x h = cc

first_apart : (byte : ℕ) (text : List ℕ) → begins_with byte text ≡ true → text ≡ byte ∷ drop 1 text
first_apart byte [] h = cc
first_apart byte (b ∷ text) h = let same : b ≡ byte = grind (arith, h) in ap (λ c. c ∷ text) same

-- a host at the front of a text
pub record HostAt (text : List ℕ) (len : ℕ) : Type 0 where
  pub is : IsHost (take len text)
  pub within : len ≤ length text

name_host : (text : List ℕ) (len : ℕ) → some_bytes (prefix_len is_name_byte text) ≡ Some len → HostAt text len
name_host text len h =
    let n = prefix_len is_name_byte text in
    let found = cond_some (nat_lt 0 n) n len h in
    let some : 0 < n = ltb-true 0 n found.0 in
    let fits : n ≤ length text = prefix_len-le-length is_name_byte text in
    let host : SomeOf is_name_byte (take n text) = (omega (arith, some, length-take-le n text fits), front_kind is_name_byte text) in
    subst (HostAt text) found.1 (record { is = inl host; within = fits })

-- an address, and the bracket behind it
brackets_host : (inside : List ℕ) (len : ℕ) → address_len inside ≡ Some len → HostAt (open_bracket ∷ inside) len
brackets_host inside len h =
    let n = prefix_len is_address_byte inside in
    let found = cond_some (nat_lt 0 n && begins_with close_bracket (drop n inside)) (n + 2) len h in
    let tests = and_parts (nat_lt 0 n) (begins_with close_bracket (drop n inside)) found.0 in
    let some : 0 < n = ltb-true 0 n tests.0 in
    let fits : n ≤ length inside = prefix_len-le-length is_address_byte inside in
    let front : length (take n inside) ≡ n = length-take-le n inside fits in
    let more = drop 1 (drop n inside) in
    let apart : (take n inside ++ (close_bracket ∷ [])) ++ more ≡ inside =
    append_assoc (take n inside) (close_bracket ∷ []) more ∙ ap (λ t. take n inside ++ t) (sym (first_apart close_bracket (drop n inside) tests.1)) ∙ take-append-drop n inside in
    let long : length (open_bracket ∷ (take n inside ++ (close_bracket ∷ []))) ≡ n + 2 = omega (arith, length-append (take n inside) (close_bracket ∷ []), front) in
    let taken : take (n + 2) (open_bracket ∷ inside) ≡ open_bracket ∷ (take n inside ++ (close_bracket ∷ [])) =
    ap (λ t. take (n + 2) (open_bracket ∷ t)) (sym apart) ∙ take_at (open_bracket ∷ (take n inside ++ (close_bracket ∷ []))) more (n + 2) long in
    let address : SomeOf is_address_byte (take n inside) = (omega (arith, some, front), front_kind is_address_byte inside) in
    let within : n + 2 ≤ length (open_bracket ∷ inside) = omega (arith, ap length (sym apart), length-append (take n inside ++ (close_bracket ∷ [])) more, length-append (take n inside) (close_bracket ∷ []), front) in
    subst (HostAt (open_bracket ∷ inside)) found.1 (record { is = inr (take n inside, address, taken); within = within })

host_with : (text : List ℕ) (len : ℕ) (t : Bool) → begins_with open_bracket text ≡ t
    → cond t (address_len (drop 1 text)) (some_bytes (prefix_len is_name_byte text)) ≡ Some len → HostAt text len
host_with text len false e h = name_host text len h
host_with text len true e h = subst (λ t. HostAt t len) (sym (first_apart open_bracket text e)) (brackets_host (drop 1 text) len h)

-- what is taken for a host is one
host_is : (text : List ℕ) (len : ℕ) → host_len text ≡ Some len → HostAt text len
host_is text len h = host_with text len (begins_with open_bracket text) refl h

-- a port at the front of a text, or none
pub record PortAt (text : List ℕ) (port : Option ℕ) (len : ℕ) : Type 0 where
  pub is : IsPort (take len text) port
  pub within : len ≤ length text

abbrev part : ℕ → ℕ → Option ℕ × ℕ
part digits port = (Some port, 1 + digits)

map_some : {A B : Type 0} (f : A → B) (o : Option A) (y : B) → option_map f o ≡ Some y → (x : A) × (o ≡ Some x) × (f x ≡ y)
map_some f None y h = cc
map_some f (Some x) y h = (x, refl, same_Some (f x) y h)

colon_port : (more : List ℕ) (q : Option ℕ × ℕ)
    → option_map (part (prefix_len is_ascii_digit more)) (port_of (take (prefix_len is_ascii_digit more) more)) ≡ Some q → PortAt (colon ∷ more) q.0 q.1
colon_port more q h =
    let n = prefix_len is_ascii_digit more in
    let found = map_some (part n) (port_of (take n more)) q h in
    let fits : n ≤ length more = prefix_len-le-length is_ascii_digit more in
    let one : 1 + n ≡ suc n = omega arith in
    let taken : take (1 + n) (colon ∷ more) ≡ colon ∷ take n more = ap (λ k. take k (colon ∷ more)) one in
    let within : 1 + n ≤ length (colon ∷ more) = omega (arith, fits) in
    subst (λ (p : Option ℕ × ℕ). PortAt (colon ∷ more) p.0 p.1) found.2 (record { is = (take n more, taken, found.1); within = within })

port_with : (text : List ℕ) (q : Option ℕ × ℕ) (t : Bool) → begins_with colon text ≡ t
    → cond t (option_map (part (prefix_len is_ascii_digit (drop 1 text))) (port_of (take (prefix_len is_ascii_digit (drop 1 text)) (drop 1 text)))) (Some (None, 0)) ≡ Some q
    → PortAt text q.0 q.1
port_with text q false e h = subst (λ (p : Option ℕ × ℕ). PortAt text p.0 p.1) (same_Some (None, 0) q h) (record { is = refl; within = omega arith })
port_with text q true e h = subst (λ t. PortAt t q.0 q.1) (sym (first_apart colon text e)) (colon_port (drop 1 text) q h)

-- what is taken for a port is one
port_is : (text : List ℕ) (q : Option ℕ × ℕ) → port_part text ≡ Some q → PortAt text q.0 q.1
port_is text q h = port_with text q (begins_with colon text) refl h

-- the parts of a text at these lengths, one after another
parts_apart : (uri : List ℕ) (h p : ℕ)
    → uri ≡ take 7 uri ++ (take h (drop 7 uri) ++ (take p (drop h (drop 7 uri)) ++ drop (h + p) (drop 7 uri)))
parts_apart uri h p =
    let body = drop 7 uri in
    sym (take-append-drop 7 uri)
    ∙ ap (λ t. take 7 uri ++ t) (sym (take-append-drop h body)
    ∙ ap (λ t. take h body ++ t) (sym (take-append-drop p (drop h body)) ∙ ap (λ t. take p (drop h body) ++ t) (drop-drop p h body)))

spelled_with : (uri : List ℕ) (h : ℕ) (q : Option ℕ × ℕ) (places : UriPlaces) → has_scheme uri ≡ true → host_len (drop 7 uri) ≡ Some h
    → port_part (drop h (drop 7 uri)) ≡ Some q → places_with (drop 7 uri) h q ≡ Some places → Spelled uri places
spelled_with uri h q places begins host port found =
    let body = drop 7 uri in
    let scheme_is = and_parts (nat_le 7 (length uri)) (equal_fold (take 7 uri) scheme) begins in
    let host_at = host_is body h host in
    let port_at = port_is (drop h body) q port in
    let rest_is = cond_some (is_rest (drop (h + q.1) body)) (record { host_end = 7 + h; port = q.0; rest = 7 + (h + q.1) }) places found in
    let host_long = length-take-le h body host_at.within in
    let port_long = length-take-le q.1 (drop h body) port_at.within in
    subst (Spelled uri) rest_is.1 (record {
      first = take 7 uri;
      host = take h body;
      port = take q.1 (drop h body);
      rest = drop (h + q.1) body;
      whole = parts_apart uri h q.1;
      is_scheme = scheme_is.1;
      is_host = host_at.is;
      is_port = port_at.is;
      is_rest = rest_is.0;
      host_end = ap (λ n. 7 + n) (sym host_long);
      rest_at = omega (arith, host_long, port_long);
    })

-- what is cut is spelled so
pub cut_is_spelled : (uri : List ℕ) (places : UriPlaces) → places_of uri ≡ Some places → Spelled uri places
cut_is_spelled uri places h =
    let body = drop 7 uri in
    let begins = when_some (has_scheme uri) (places_behind body) places h in
    option_and_then_some (λ n. option_and_then (places_with body n) (port_part (drop n body))) (host_len body) places begins.1 (λ n host others.
    option_and_then_some (places_with body n) (port_part (drop n body)) places others (λ q port found.
    spelled_with uri n q places begins.0 host port found))
