-- A fraction is read back.
use Rattle.std.proofs.Common.{◌≡◌, ℕ, ◌^◌, ◌<◌, ◌≤◌, Bool, true, false, ◌&&◌, cond, List, [], ◌∷◌, ◌++◌, length, take, refl, sym, ◌∙◌, ap, arith}
use Rattle.std.specs.Prelude.{codes}
use Rattle.std.specs.List.{list_all}
use Rattle.std.specs.Char.{is_ascii_digit}
use Rattle.std.specs.Str.Parse.{digits_value}
use Rattle.std.proofs.lemmas.Bool.{and_parts}
use Rattle.rtsp_range.specs.Parts.{counted_digits}
use Rattle.rtsp_range.specs.RangeText.{padded, is_zero_digit, without_zeros}
use Rattle.rtsp_range.proofs.PadLemmas.{padded_digits, padded_long, padded_value}

-- zeros alone are the first of enough zeros
zeros_again : (digits zeros : List ℕ) → list_all is_zero_digit digits ≡ true → list_all is_zero_digit zeros ≡ true → length digits ≤ length zeros → take (length digits) zeros ≡ digits
zeros_again [] zeros h z long = refl
zeros_again (b ∷ digits) [] h z long = absurd (omega (arith, long))
zeros_again (b ∷ digits) (c ∷ zeros) h z long =
    let parts = and_parts (is_zero_digit b) (list_all is_zero_digit digits) h in
    let others = and_parts (is_zero_digit c) (list_all is_zero_digit zeros) z in
    let rest : take (length digits) zeros ≡ digits = zeros_again digits zeros parts.1 others.1 (omega (arith, long)) in
    let first : c ≡ b = grind (arith, parts.0, others.0) in
    grind (arith, rest, first)

-- The zeros that were taken off come back.
all_again : (digits zeros : List ℕ) → list_all is_zero_digit zeros ≡ true → length digits ≤ length zeros → take (length digits) (without_zeros digits ++ zeros) ≡ digits
all_again [] zeros z long = refl
all_again (b ∷ digits) zeros z long =
    step (list_all is_zero_digit (b ∷ digits)) refl (all_again digits zeros z (omega (arith, long))) where
      step : (all : Bool) → list_all is_zero_digit (b ∷ digits) ≡ all → take (length digits) (without_zeros digits ++ zeros) ≡ digits → take (length (b ∷ digits)) (cond all [] (b ∷ without_zeros digits) ++ zeros) ≡ b ∷ digits
      step true e rest = zeros_again (b ∷ digits) zeros e z long
      step false e rest = ap (λ t. b ∷ t) rest

-- what is left of digits are digits
digits_left : (digits : List ℕ) → list_all is_ascii_digit digits ≡ true → list_all is_ascii_digit (without_zeros digits) ≡ true
digits_left [] h = refl
digits_left (b ∷ digits) h =
    let parts = and_parts (is_ascii_digit b) (list_all is_ascii_digit digits) h in
    step (list_all is_zero_digit (b ∷ digits)) parts.0 (digits_left digits parts.1) where
      step : (all : Bool) → is_ascii_digit b ≡ true → list_all is_ascii_digit (without_zeros digits) ≡ true → list_all is_ascii_digit (cond all [] (b ∷ without_zeros digits)) ≡ true
      step true first rest = refl
      step false first rest = ap (λ t. t && list_all is_ascii_digit (without_zeros digits)) first ∙ rest

pub nanos_digits : (nanos : ℕ) → list_all is_ascii_digit (without_zeros (padded 9 nanos)) ≡ true
nanos_digits nanos = digits_left (padded 9 nanos) (padded_digits 9 nanos)

-- The nine digits are those of the number.
pub nanos_again : (nanos : ℕ) → nanos < 10 ^ 9 → digits_value 10 (counted_digits (without_zeros (padded 9 nanos))) ≡ nanos
nanos_again nanos small =
    let long : length (padded 9 nanos) ≡ 9 = padded_long 9 nanos in
    let nine : counted_digits (without_zeros (padded 9 nanos)) ≡ padded 9 nanos =
    ap (λ n. take n (without_zeros (padded 9 nanos) ++ codes "000000000")) (sym long) ∙ all_again (padded 9 nanos) (codes "000000000") refl (omega (arith, long)) in
    ap (digits_value 10) nine ∙ padded_value 9 nanos small
