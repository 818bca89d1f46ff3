-- The channels of a SETUP are put in at their place.
use Rattle.std.proofs.Common.{◌≡◌, ℕ, suc, ◌≤◌, Bool, true, false, cond, List, [], ◌∷◌, length, refl, ◌∙◌, ap, arith}
use Rattle.std.specs.Prelude.{codes}
use Rattle.std.specs.List.{insert}
use Rattle.std.specs.Str.{bytes_eq}
use Rattle.rtsp_head.specs.declared.header.Header.{Header}
use Rattle.rtsp_transport.specs.declared.channels.Pair.{Pair}
use Rattle.translate_up.specs.Upward.{transport_header, transport_place, headers_with_transport}

-- a header with channels, by their text
abbrev named : List ℕ → Header
named value = record { name = codes "Transport"; value = value }

-- the place is in the list or at its end
within_by : (test : Bool) (more most : ℕ) → more ≤ most → cond test 0 (suc more) ≤ suc most
within_by true more most within = omega arith
within_by false more most within = omega (arith, within)

pub place_within : (headers : List Header) → transport_place headers ≤ length headers
place_within [] = omega arith
place_within (header ∷ headers) = within_by (bytes_eq header.name (codes "Accept-Ranges")) (transport_place headers) (length headers) (place_within headers)

-- The channels stand there.
put_by : (test : Bool) (pair : Pair) (header : Header) (headers : List Header) → insert headers (transport_place headers) (transport_header pair) ≡ headers_with_transport pair headers →
    insert (header ∷ headers) (cond test 0 (suc (transport_place headers))) (transport_header pair)
    ≡ cond test (transport_header pair ∷ header ∷ headers) (header ∷ headers_with_transport pair headers)
put_by true pair header headers rest = refl
put_by false pair header headers rest = ap (λ (hs : List Header). header ∷ hs) rest

pub put_in : (pair : Pair) (headers : List Header) → insert headers (transport_place headers) (transport_header pair) ≡ headers_with_transport pair headers
put_in pair [] = refl
put_in pair (header ∷ headers) = put_by (bytes_eq header.name (codes "Accept-Ranges")) pair header headers (put_in pair headers)

-- a header that was put in by its parts
pub put_at : (pair : Pair) (headers all : List Header) (place : ℕ) (value : List ℕ) → all ≡ insert headers place (named value) → place ≡ transport_place headers → value ≡ (transport_header pair).value →
    all ≡ headers_with_transport pair headers
put_at pair headers all place value put at is =
    put ∙ ap (λ (n : ℕ). insert headers n (named value)) at ∙ ap (λ (v : List ℕ). insert headers (transport_place headers) (named v)) is ∙ put_in pair headers
