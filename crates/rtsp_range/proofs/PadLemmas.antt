-- A padded number is read back.
use Rattle.std.proofs.Common.{◌≡◌, ℕ, zero, suc, ◌+◌, ◌*◌, ◌^◌, ◌<◌, ◌/◌, ◌%◌, true, ◌&&◌, List, [], ◌∷◌, ◌++◌, length, get_or, refl, sym, ◌∙◌, ap, arith}
use Rattle.std.specs.List.{list_all}
use Rattle.std.specs.Char.{is_ascii_digit, digit_value}
use Rattle.std.specs.Str.Parse.{digits_value}
use Rattle.std.proofs.lemmas.List.{length-append, take_all}
use Rattle.std.proofs.lemmas.List.Folds.{list_all-append}
use Rattle.std.proofs.lemmas.Int.Digits.{digits_value_more}
use Rattle.std.proofs.Math.Seq.{take-append_seam, get_or-append_seam}
use Rattle.rtsp_range.specs.RangeText.{padded}
use Rattle.rtsp_range.proofs.DigitLemmas.{digit_of}

-- one digit more at the end
pub digits_value-end : (text : List ℕ) (b : ℕ) → digits_value 10 (text ++ (b ∷ [])) ≡ digits_value 10 text * 10 + digit_value b
digits_value-end text b =
    let long : length (text ++ (b ∷ [])) ≡ length text + 1 = length-append text (b ∷ []) in
    ap (digits_value 10) (sym (take_all (length text + 1) (text ++ (b ∷ [])) (omega (arith, long))))
    ∙ digits_value_more 10 (text ++ (b ∷ [])) (length text) (omega (arith, long))
    ∙ ap (λ t. digits_value 10 t * 10 + digit_value (get_or (text ++ (b ∷ [])) (length text) 0)) (take-append_seam text (b ∷ []))
    ∙ ap (λ d. digits_value 10 text * 10 + digit_value d) (get_or-append_seam text b [] 0)

is_digit : (n : ℕ) → n < 10 → is_ascii_digit (48 + n) ≡ true
is_digit n h = grind (arith, h)

pub padded_digits : (width number : ℕ) → list_all is_ascii_digit (padded width number) ≡ true
unfolding padded
padded_digits zero number = refl
padded_digits (suc width) number =
    list_all-append is_ascii_digit (padded width (number / 10)) ((48 + number % 10) ∷ [])
    ∙ ap (λ t. t && (is_ascii_digit (48 + number % 10) && true)) (padded_digits width (number / 10))
    ∙ ap (λ t. t && true) (is_digit (number % 10) (omega arith))

pub padded_long : (width number : ℕ) → length (padded width number) ≡ width
unfolding padded
padded_long zero number = refl
padded_long (suc width) number =
    omega (arith, length-append (padded width (number / 10)) ((48 + number % 10) ∷ []), padded_long width (number / 10))

pub padded_value : (width number : ℕ) → number < 10 ^ width → digits_value 10 (padded width number) ≡ number
unfolding padded
padded_value zero number h = omega (arith, h)
padded_value (suc width) number h =
    let digit : digit_value (48 + number % 10) ≡ number % 10 =
    (digit_of (48 + number % 10) (is_digit (number % 10) (omega arith))).2 ∙ omega arith in
    let front : digits_value 10 (padded width (number / 10)) ≡ number / 10 = padded_value width (number / 10) (omega (arith, h)) in
    digits_value-end (padded width (number / 10)) (48 + number % 10) ∙ omega (arith, digit, front)
