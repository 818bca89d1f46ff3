-- One digit more of a decimal number.
use Rattle.std.proofs.Common.{◌≡◌, ℕ, ◌+◌, ◌-◌, ◌*◌, ◌^◌, ◌<◌, ◌≤◌, ◌==◌, ◌&&◌, not, Bool, true, false, cond, Some, None, refl, List, [], ◌∷◌, length, take, get_or, ◌∙◌, ap, arith}
use Rattle.std.specs.Prelude.{nat_le, IfSome}
use Rattle.std.specs.List.{list_all}
use Rattle.std.specs.Char.{is_ascii_digit, digit_value}
use Rattle.std.specs.Str.Parse.{digits_value}
use Rattle.std.proofs.lemmas.List.{length-take}
use Rattle.std.proofs.lemmas.List.Folds.{list_all_more}
use Rattle.std.proofs.lemmas.Int.Digits.{digits_value_more}
use Rattle.std.proofs.lemmas.Str.{digit_value_digit}
use Rattle.std.proofs.lemmas.Str.Parse.{IsDigitsTest, IsNumeralModel, numerals_by_value, digits_value_short}
use Rattle.std.proofs.lemmas.Bool.{leb-true}
use Rattle.std.proofs.Common.{rules}
use Rattle.gate_bytes.specs.Numbers.{number_in}

digits_test : IsDigitsTest (λ ds. list_all is_ascii_digit ds ≡ true)
digits_test = search rules

own : IsNumeralModel (λ ds. list_all is_ascii_digit ds ≡ true) (digits_value 10)
own = numerals_by_value _ digits_test

digit_of : (c : ℕ) → is_ascii_digit c ≡ true → digit_value c ≡ c - 48
digit_of c h =
    let one : list_all is_ascii_digit (c ∷ []) ≡ true = grind (arith, h) in
    let sum : digit_value c + 48 ≡ c = digit_value_digit c (digits_test.parts c [] one).0 in
    omega (arith, sum)

-- After one digit more there are only digits, the value is theirs, and it is small.
pub record ReadsDigit (text : List ℕ) (i : ℕ) : Type 0 where
  pub digits : list_all is_ascii_digit (take (i + 1) text) ≡ true
  pub value : digits_value 10 (take (i + 1) text) ≡ digits_value 10 (take i text) * 10 + (get_or text i 0 - 48)
  pub small : digits_value 10 (take (i + 1) text) < 10 ^ 19

pub digit_step : (text : List ℕ) (i : ℕ) → i < length text → length text ≤ 19 → list_all is_ascii_digit (take i text) ≡ true
    → is_ascii_digit (get_or text i 0) ≡ true → ReadsDigit text i
digit_step text i h short before now =
    let digits : list_all is_ascii_digit (take (i + 1) text) ≡ true = list_all_more is_ascii_digit text i 0 h ∙ grind (arith, before, now) in
    let digit : digit_value (get_or text i 0) ≡ get_or text i 0 - 48 = digit_of (get_or text i 0) now in
    record {
      digits = digits;
      value = digits_value_more 10 text i h ∙ ap (λ d. digits_value 10 (take i text) * 10 + d) digit;
      small = digits_value_short own (take (i + 1) text) 19 digits (omega (arith, length-take (i + 1) text));
    }

small_with : (most : ℕ) (text : List ℕ) (some short digits : Bool) → nat_le (length text) most ≡ short → list_all is_ascii_digit text ≡ digits
    → IfSome (cond ((some && short) && digits) (Some (digits_value 10 text)) None) (λ n. n < 10 ^ most)
small_with most text true true true s d = digits_value_short own text most d (leb-true (length text) most s)
small_with most text true true false s d = tt
small_with most text true false digits s d = tt
small_with most text false short digits s d = tt

-- a number of so many digits is below that power of ten
pub number_small : (most : ℕ) (text : List ℕ) → IfSome (number_in most text) (λ n. n < 10 ^ most)
number_small most text = small_with most text (not (length text == 0)) (nat_le (length text) most) (list_all is_ascii_digit text) refl refl
