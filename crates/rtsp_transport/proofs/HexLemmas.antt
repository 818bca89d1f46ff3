-- Written hexadecimal digits: which bytes they are, and what they write.
use Rattle.std.proofs.Common.{◌≡◌, ℕ, ◌+◌, ◌*◌, ◌/◌, ◌%◌, ◌<◌, Bool, true, ◌==◌, ◌&&◌, List, [], ◌∷◌, length, map, Some, refl, sym, ◌∙◌, ap, arith}
use Rattle.std.specs.List.{list_all}
use Rattle.std.specs.Char.{is_ascii_digit, is_ascii_hexdigit, digit_value}
use Rattle.std.specs.Str.Parse.{digits_value}
use Rattle.std.proofs.lemmas.Bool.{and_parts, eqb-true, agree_below, agree_below_at}
use Rattle.rtsp_transport.specs.declared.ssrc.TheConstants.{HEX_PLACES}
use Rattle.rtsp_transport.specs.Sources.{hex_digit, source_digits, source_number}
use Rattle.rtsp_transport.proofs.SourceLemmas.{hex_range}

-- What holds of each hexadecimal digit below 128 holds of all bytes of a text of them.
pub hex_all : (q : ℕ → Bool) (text : List ℕ) → agree_below is_ascii_hexdigit (λ b. is_ascii_hexdigit b && q b) 128 ≡ true →
    list_all is_ascii_hexdigit text ≡ true → list_all q text ≡ true
hex_all q [] agrees h = refl
hex_all q (b ∷ text) agrees h =
    let parts = and_parts (is_ascii_hexdigit b) (list_all is_ascii_hexdigit text) h in
    let same : is_ascii_hexdigit b ≡ (is_ascii_hexdigit b && q b) = agree_below_at is_ascii_hexdigit (λ b. is_ascii_hexdigit b && q b) 128 b agrees (hex_range b parts.0) in
    let here : q b ≡ true = (and_parts (is_ascii_hexdigit b) (q b) (sym same ∙ parts.0)).1 in
    let rest : list_all q text ≡ true = hex_all q text agrees parts.1 in
    ap (λ t. t && list_all q text) here ∙ rest

-- decimal digits are hexadecimal ones
pub digits_hex : (text : List ℕ) → list_all is_ascii_digit text ≡ true → list_all is_ascii_hexdigit text ≡ true
digits_hex [] h = refl
digits_hex (b ∷ text) h =
    let parts = and_parts (is_ascii_digit b) (list_all is_ascii_digit text) h in
    let rest : list_all is_ascii_hexdigit text ≡ true = digits_hex text parts.1 in
    grind arith

digit_test : ℕ → Bool
digit_test n = (digit_value (hex_digit n) == n) && is_ascii_hexdigit (hex_digit n)

all_digits : agree_below (λ n. true) digit_test 16 ≡ true
unfolding digit_test
all_digits = refl

-- A digit is one, and counts what it was written for.
pub digit_sound : (n : ℕ) → n < 16 → (digit_value (hex_digit n) ≡ n) × (is_ascii_hexdigit (hex_digit n) ≡ true)
unfolding digit_test
digit_sound n h =
    let same : true ≡ digit_test n = agree_below_at (λ n. true) digit_test 16 n all_digits h in
    let parts = and_parts (digit_value (hex_digit n) == n) (is_ascii_hexdigit (hex_digit n)) (sym same) in
    (eqb-true (digit_value (hex_digit n)) n parts.0, parts.1)

below_16 : (n p : ℕ) → n / p % 16 < 16
below_16 n p = omega arith

places_hex : (n : ℕ) (places : List ℕ) → list_all is_ascii_hexdigit (map (λ place. hex_digit (n / place % 16)) places) ≡ true
places_hex n [] = refl
places_hex n (p ∷ places) = ap (λ t. t && list_all is_ascii_hexdigit (map (λ place. hex_digit (n / place % 16)) places)) (digit_sound (n / p % 16) (below_16 n p)).1 ∙ places_hex n places

-- the digits of a source are hexadecimal ones
pub source_hex : (n : ℕ) → list_all is_ascii_hexdigit (source_digits n) ≡ true
unfolding source_digits
source_hex n = places_hex n HEX_PLACES

-- what each digit counts
counts : (n p : ℕ) → digit_value (hex_digit (n / p % 16)) ≡ n / p % 16
counts n p = (digit_sound (n / p % 16) (below_16 n p)).0

-- the digits of a number that fits, put together
places_sum : (n : ℕ) → n < 4294967296 →
    (((((((0 * 16 + n / 268435456 % 16) * 16 + n / 16777216 % 16) * 16 + n / 1048576 % 16) * 16 + n / 65536 % 16) * 16 + n / 4096 % 16) * 16 + n / 256 % 16) * 16 + n / 16 % 16) * 16 + n / 1 % 16 ≡ n
places_sum n small =
    let one : 0 * 16 + n / 268435456 % 16 ≡ n / 268435456 = omega arith in
    let two : n / 268435456 * 16 + n / 16777216 % 16 ≡ n / 16777216 = omega arith in
    let three : n / 16777216 * 16 + n / 1048576 % 16 ≡ n / 1048576 = omega arith in
    let four : n / 1048576 * 16 + n / 65536 % 16 ≡ n / 65536 = omega arith in
    let five : n / 65536 * 16 + n / 4096 % 16 ≡ n / 4096 = omega arith in
    let six : n / 4096 * 16 + n / 256 % 16 ≡ n / 256 = omega arith in
    let seven : n / 256 * 16 + n / 16 % 16 ≡ n / 16 = omega arith in
    let last : n / 16 * 16 + n / 1 % 16 ≡ n = omega arith in
    rw (one, two, three, four, five, six, seven, last) refl

-- the digits of a source write it
source_value : (n : ℕ) → n < 4294967296 → digits_value 16 (source_digits n) ≡ n
unfolding source_digits
source_value n small = rw (counts n 268435456, counts n 16777216, counts n 1048576, counts n 65536, counts n 4096, counts n 256, counts n 16, counts n 1) (places_sum n small)

source_length : (n : ℕ) → length (source_digits n) ≡ 8
unfolding source_digits
source_length n = omega arith

-- a written source is read
pub source_read : (n : ℕ) → n < 4294967296 → source_number (source_digits n) ≡ Some n
source_read n small =
    let long : (length (source_digits n) == 8) ≡ true = ap (λ k. k == 8) (source_length n) in
    let digits : list_all is_ascii_hexdigit (source_digits n) ≡ true = source_hex n in
    rw (long, digits) (ap Some (source_value n small))
