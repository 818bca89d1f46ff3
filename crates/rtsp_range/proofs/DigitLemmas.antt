-- One digit more of a number, and of a fraction.
use Rattle.std.proofs.Common.{◌≡◌, ℕ, zero, suc, ◌+◌, ◌-◌, ◌*◌, ◌^◌, ◌<◌, ◌≤◌, ◌&&◌, min, Bool, true, false, refl, List, [], ◌∷◌, ◌++◌, length, take, get_or, sym, ◌∙◌, ap, arith, rules}
use Rattle.std.specs.Prelude.{codes, nat_lt}
use Rattle.std.specs.List.{list_all}
use Rattle.std.specs.Char.{is_ascii_digit, digit_value}
use Rattle.std.specs.Str.Parse.{digits_value}
use Rattle.std.proofs.lemmas.Bool.{and_parts}
use Rattle.std.proofs.lemmas.List.{length-take, length-append, get_or-take, get_or_append_left, get_or-append_right, get_or_past, get_or_default, take_all}
use Rattle.std.proofs.lemmas.List.Folds.{list_all-append, list_all_more}
use Rattle.std.proofs.lemmas.Int.Digits.{digits_value_more}
use Rattle.std.proofs.lemmas.Str.{digit_value_digit}
use Rattle.std.proofs.lemmas.Str.Parse.{IsDigitsTest, IsNumeralModel, numerals_by_value, digits_value_short}
use Rattle.rtsp_range.specs.Parts.{counted_digits}
use Rattle.rtsp_range.specs.CappedTimes.{most_seconds}

digits_test : IsDigitsTest (λ ds. list_all is_ascii_digit ds ≡ true)
digits_test = search rules

-- the digits and their value, as std's lemmas ask for them
pub own : IsNumeralModel (λ ds. list_all is_ascii_digit ds ≡ true) (digits_value 10)
own = numerals_by_value _ digits_test

pub digit_of : (c : ℕ) → is_ascii_digit c ≡ true → (48 ≤ c) × (c ≤ 57) × (digit_value c ≡ c - 48)
digit_of c h =
    let one : list_all is_ascii_digit (c ∷ []) ≡ true = grind (arith, h) in
    let range = (digits_test.parts c [] one).0 in
    let sum : digit_value c + 48 ≡ c = digit_value_digit c range in
    (omega (arith, range.0), omega (arith, range.1), omega (arith, sum))

-- After one digit more there are only digits, and the value is theirs, up to the most that counts.
pub record ReadsDigit (text : List ℕ) (i number : ℕ) : Type 0 where
  pub digits : list_all is_ascii_digit (take (i + 1) text) ≡ true
  pub value : min (number * 10 + (get_or text i 0 - 48)) most_seconds ≡ min (digits_value 10 (take (i + 1) text)) most_seconds

kept_small : (number all digit : ℕ) → number ≡ min all most_seconds → min (number * 10 + digit) most_seconds ≡ min (all * 10 + digit) most_seconds
kept_small number all digit h = omega arith

pub digit_step : (text : List ℕ) (i number : ℕ) → i < length text → list_all is_ascii_digit (take i text) ≡ true → number ≡ min (digits_value 10 (take i text)) most_seconds
    → is_ascii_digit (get_or text i 0) ≡ true → ReadsDigit text i number
digit_step text i number h before value now =
    let digits : list_all is_ascii_digit (take (i + 1) text) ≡ true = list_all_more is_ascii_digit text i 0 h ∙ grind (arith, before, now) in
    let digit : digit_value (get_or text i 0) ≡ get_or text i 0 - 48 = (digit_of (get_or text i 0) now).2 in
    let all : digits_value 10 (take (i + 1) text) ≡ digits_value 10 (take i text) * 10 + (get_or text i 0 - 48) =
    digits_value_more 10 text i h ∙ ap (λ d. digits_value 10 (take i text) * 10 + d) digit in
    record {
      digits = digits;
      value = kept_small number (digits_value 10 (take i text)) (get_or text i 0 - 48) value ∙ ap (λ n. min n most_seconds) (sym all);
    }

pub all_take : (n : ℕ) (text : List ℕ) → list_all is_ascii_digit text ≡ true → list_all is_ascii_digit (take n text) ≡ true
all_take zero text h = refl
all_take (suc n) [] h = refl
all_take (suc n) (b ∷ text) h =
    let parts = and_parts (is_ascii_digit b) (list_all is_ascii_digit text) h in
    let rest : list_all is_ascii_digit (take n text) ≡ true = all_take n text parts.1 in
    grind arith

zero_at : (j : ℕ) → j < 9 → get_or (codes "000000000") j 48 ≡ 48
zero_at zero h = refl
zero_at (suc zero) h = refl
zero_at (suc (suc zero)) h = refl
zero_at (suc (suc (suc zero))) h = refl
zero_at (suc (suc (suc (suc zero)))) h = refl
zero_at (suc (suc (suc (suc (suc zero))))) h = refl
zero_at (suc (suc (suc (suc (suc (suc zero)))))) h = refl
zero_at (suc (suc (suc (suc (suc (suc (suc zero))))))) h = refl
zero_at (suc (suc (suc (suc (suc (suc (suc (suc zero)))))))) h = refl
zero_at (suc (suc (suc (suc (suc (suc (suc (suc (suc j))))))))) h = absurd (omega arith)

-- a digit, or a zero where it is missing
digit_with : (digits : List ℕ) (i : ℕ) (there : Bool) → nat_lt i (length digits) ≡ there → i < 9 → get_or (digits ++ codes "000000000") i 48 ≡ get_or digits i 48
digit_with digits i true t h = get_or_append_left digits (codes "000000000") 48 i (grind arith)
digit_with digits i false t h =
    let past : length digits ≤ i = grind arith in
    get_or-append_right digits (codes "000000000") (length digits) i 48 refl past ∙ zero_at (i - length digits) (omega arith)
    ∙ sym (get_or_past digits i 48 past)

pub nine_long : (digits : List ℕ) → length (counted_digits digits) ≡ 9
nine_long digits = omega (arith, length-take 9 (digits ++ codes "000000000"), length-append digits (codes "000000000"))

pub nine_all : (digits : List ℕ) → list_all is_ascii_digit digits ≡ true → list_all is_ascii_digit (counted_digits digits) ≡ true
nine_all digits h = all_take 9 (digits ++ codes "000000000") (list_all-append is_ascii_digit digits (codes "000000000") ∙ ap (λ t. t && true) h)

-- After one of the nine digits more the value is theirs, and small.
pub record ReadsNine (digits : List ℕ) (i : ℕ) : Type 0 where
  pub value : digits_value 10 (take (i + 1) (counted_digits digits)) ≡ digits_value 10 (take i (counted_digits digits)) * 10 + digit_value (get_or digits i 48)
  pub small : digits_value 10 (take (i + 1) (counted_digits digits)) < 10 ^ 9

pub nine_step : (digits : List ℕ) (i : ℕ) → list_all is_ascii_digit digits ≡ true → i < 9 → ReadsNine digits i
nine_step digits i h below =
    let nine = counted_digits digits in
    let within : i < length nine = omega (arith, nine_long digits) in
    let same : get_or nine i 48 ≡ get_or digits i 48 = get_or-take 9 (digits ++ codes "000000000") i 48 below ∙ digit_with digits i _ refl below in
    record {
      value = digits_value_more 10 nine i within ∙ ap (λ d. digits_value 10 (take i nine) * 10 + digit_value d) (get_or_default nine i 0 48 within ∙ same);
      small = digits_value_short own (take (i + 1) nine) 9 (all_take (i + 1) nine (nine_all digits h)) (omega (arith, length-take (i + 1) nine, nine_long digits));
    }

-- nine are all
pub nine_whole : (digits : List ℕ) (n : ℕ) → 9 ≤ n → take n (counted_digits digits) ≡ counted_digits digits
nine_whole digits n h = take_all n (counted_digits digits) (omega (arith, nine_long digits))
