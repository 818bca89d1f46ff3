-- Hexadecimal digits, read and written one after another.
use Rattle.std.proofs.Common.{◌≡◌, ℕ, ◌+◌, ◌*◌, ◌^◌, ◌<◌, ◌≤◌, Bool, true, ◌&&◌, ◌||◌, nat_le, nat_lt, inl, inr, List, [], ◌∷◌, ◌++◌, length, take, get_or, map, refl, sym, ◌∙◌, ap, append_assoc, arith}
use Rattle.std.specs.List.{list_all}
use Rattle.std.specs.Int.{is_in_range}
use Rattle.std.specs.Char.{is_ascii_hexdigit, digit_value}
use Rattle.std.specs.Str.Parse.{digits_value, AllDigits}
use Rattle.std.proofs.lemmas.Bool.{and_parts, or_cases, leb-true, ltb-true, agree_below, agree_below_at}
use Rattle.std.proofs.lemmas.List.{length-take, take_more, map-append}
use Rattle.std.proofs.lemmas.List.Folds.{list_all_more}
use Rattle.std.proofs.lemmas.Int.Digits.{digits_value_more, digits_value-lt}
use Rattle.std.proofs.Math.Nat.{pow-le-pow_right}

pub hex_range : (b : ℕ) → is_ascii_hexdigit b ≡ true → b < 128
hex_range b h =
    elim (or_cases (is_in_range 48 57 b || is_in_range 65 70 b) (is_in_range 97 102 b) h) [
      | inl low ↦ elim (or_cases (is_in_range 48 57 b) (is_in_range 65 70 b) low) [
        | inl p ↦ let most : b ≤ 57 = leb-true b 57 (and_parts (nat_le 48 b) (nat_le b 57) p).1 in omega arith
        | inr p ↦ let most : b ≤ 70 = leb-true b 70 (and_parts (nat_le 65 b) (nat_le b 70) p).1 in omega arith
      ]
      | inr p ↦ let most : b ≤ 102 = leb-true b 102 (and_parts (nat_le 97 b) (nat_le b 102) p).1 in omega arith
    ]

hex_test : ℕ → Bool
hex_test b = is_ascii_hexdigit b && nat_lt (digit_value b) 16

hex_agrees : agree_below is_ascii_hexdigit hex_test 128 ≡ true
unfolding hex_test
hex_agrees = refl

-- a hexadecimal digit counts less than 16
pub hex_small : (b : ℕ) → is_ascii_hexdigit b ≡ true → digit_value b < 16
unfolding hex_test
hex_small b h =
    let same : is_ascii_hexdigit b ≡ hex_test b = agree_below_at is_ascii_hexdigit hex_test 128 b hex_agrees (hex_range b h) in
    ltb-true (digit_value b) 16 (and_parts (is_ascii_hexdigit b) (nat_lt (digit_value b) 16) (sym same ∙ h)).1

hex_digits : (text : List ℕ) → list_all is_ascii_hexdigit text ≡ true → AllDigits 16 text
hex_digits [] h = tt
hex_digits (b ∷ text) h =
    let parts = and_parts (is_ascii_hexdigit b) (list_all is_ascii_hexdigit text) h in
    (hex_small b parts.0, hex_digits text parts.1)

-- After one digit more there are only digits, the value is theirs, and it is small.
pub record ReadsHex (text : List ℕ) (i : ℕ) : Type 0 where
  pub digits : list_all is_ascii_hexdigit (take (i + 1) text) ≡ true
  pub value : digits_value 16 (take (i + 1) text) ≡ digits_value 16 (take i text) * 16 + digit_value (get_or text i 0)
  pub small : digits_value 16 (take (i + 1) text) < 16 ^ 8

pub hex_step : (text : List ℕ) (i : ℕ) → i < length text → length text ≡ 8 → list_all is_ascii_hexdigit (take i text) ≡ true
    → is_ascii_hexdigit (get_or text i 0) ≡ true → ReadsHex text i
hex_step text i h eight before now =
    let digits : list_all is_ascii_hexdigit (take (i + 1) text) ≡ true = list_all_more is_ascii_hexdigit text i 0 h ∙ grind (arith, before, now) in
    let short : length (take (i + 1) text) ≤ 8 = omega (arith, length-take (i + 1) text) in
    let bound : digits_value 16 (take (i + 1) text) < 16 ^ length (take (i + 1) text) = digits_value-lt 16 (take (i + 1) text) (hex_digits (take (i + 1) text) digits) in
    let most : 16 ^ length (take (i + 1) text) ≤ 16 ^ 8 = pow-le-pow_right (omega arith) short in
    record { digits = digits; value = digits_value_more 16 text i h; small = omega (arith, bound, most) }

-- One digit more was written.
pub digits_more : (f : ℕ → ℕ) (places old new start : List ℕ) (i digit : ℕ) → i < length places → old ≡ start ++ map f (take i places) →
    new ≡ old ++ (digit ∷ []) → digit ≡ f (get_or places i 0) → new ≡ start ++ map f (take (i + 1) places)
digits_more f places old new start i digit h before step one =
    step ∙ ap (λ t. t ++ (digit ∷ [])) before ∙ append_assoc start (map f (take i places)) (digit ∷ [])
    ∙ ap (λ d. start ++ (map f (take i places) ++ (d ∷ []))) one
    ∙ ap (λ t. start ++ t) (sym (ap (map f) (take_more places i 0 h) ∙ map-append f (take i places) (get_or places i 0 ∷ [])))
