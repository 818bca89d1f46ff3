-- Numbers of three digits.
use Rattle.std.proofs.Common.{◌≡◌, ℕ, ◌<◌, ◌≤◌, Bool, true, false, ◌&&◌, not, ◌==◌, nat_le, cond, List, length, None, Some, refl, rules, arith}
use Rattle.std.specs.List.{list_all}
use Rattle.std.specs.Char.{is_ascii_digit}
use Rattle.std.specs.Str.Parse.{digits_value}
use Rattle.std.proofs.lemmas.Str.Parse.{IsNumeralModel, numerals_by_value, digits_value_short}
use Rattle.gate_bytes.specs.Numbers.{number_in}

pub own : IsNumeralModel (λ ds. list_all is_ascii_digit ds ≡ true) (digits_value 10)
own = numerals_by_value _ (search rules)

digits_short : (text : List ℕ) (n : ℕ) (within digits : Bool) → nat_le (length text) 3 ≡ within → list_all is_ascii_digit text ≡ digits →
    cond ((not (length text == 0) && within) && digits) (Some (digits_value 10 text)) None ≡ Some n → n < 1000
digits_short text n true true w d h = let small : length text ≤ 3 = grind arith in let bound = digits_value_short own text 3 d small in grind arith
digits_short text n true false w d h = grind arith
digits_short text n false digits w d h = grind arith

-- three digits stay below a thousand
pub number_small : (text : List ℕ) (n : ℕ) → number_in 3 text ≡ Some n → n < 1000
number_small text n h = digits_short text n (nat_le (length text) 3) (list_all is_ascii_digit text) refl refl h
