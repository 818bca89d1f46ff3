-- Padded numbers without the zeros at their end.
use Rattle.std.proofs.Common.{◌≡◌, ℕ, zero, suc, ◌+◌, ◌-◌, ◌<◌, ◌≤◌, ◌/◌, ◌%◌, true, false, List, [], ◌∷◌, ◌++◌, refl, sym, ◌∙◌, ap, append_assoc, arith}
use Rattle.std.specs.List.{list_all}
use Rattle.std.proofs.lemmas.List.Folds.{list_all-append}
use Rattle.rtsp_range.specs.RangeText.{padded, is_zero_digit, without_zeros}

-- a zero at the end goes
pub without_zeros-zero : (xs : List ℕ) (b : ℕ) → is_zero_digit b ≡ true → without_zeros (xs ++ (b ∷ [])) ≡ without_zeros xs
without_zeros-zero [] b h = grind (arith, h)
without_zeros-zero (x ∷ xs) b h =
    let rest : without_zeros (xs ++ (b ∷ [])) ≡ without_zeros xs = without_zeros-zero xs b h in
    let all : list_all is_zero_digit (xs ++ (b ∷ [])) ≡ list_all is_zero_digit xs = list_all-append is_zero_digit xs (b ∷ []) ∙ grind (arith, h) in
    grind (arith, rest, all)

-- another byte at the end keeps all
pub without_zeros-other : (xs : List ℕ) (b : ℕ) → is_zero_digit b ≡ false → without_zeros (xs ++ (b ∷ [])) ≡ xs ++ (b ∷ [])
without_zeros-other [] b h = grind (arith, h)
without_zeros-other (x ∷ xs) b h =
    let rest : without_zeros (xs ++ (b ∷ [])) ≡ xs ++ (b ∷ []) = without_zeros-other xs b h in
    let all : list_all is_zero_digit (xs ++ (b ∷ [])) ≡ false = list_all-append is_zero_digit xs (b ∷ []) ∙ grind (arith, h) in
    grind (arith, rest, all)

-- the last digit apart
pub padded_step : (width number : ℕ) → 0 < width → padded width number ≡ padded (width - 1) (number / 10) ++ ((48 + number % 10) ∷ [])
unfolding padded
padded_step zero number h = absurd (omega arith)
padded_step (suc width) number h =
    let same : suc width - 1 ≡ width = omega arith in
    ap (λ w. padded w (number / 10) ++ ((48 + number % 10) ∷ [])) (sym same)

-- a last digit that is 0 goes
pub zero_goes : (width number : ℕ) → 0 < width → number % 10 ≡ 0 → without_zeros (padded (width - 1) (number / 10)) ≡ without_zeros (padded width number)
zero_goes width number h last =
    sym (ap without_zeros (padded_step width number h) ∙ without_zeros-zero (padded (width - 1) (number / 10)) (48 + number % 10) (grind (arith, last)))

-- another last digit keeps all
pub digit_stays : (width number : ℕ) → 0 < width → 0 < number % 10 → without_zeros (padded width number) ≡ padded width number
digit_stays width number h last =
    ap without_zeros (padded_step width number h) ∙ without_zeros-other (padded (width - 1) (number / 10)) (48 + number % 10) (grind (arith, last)) ∙ sym (padded_step width number h)

pub none_stays : (number : ℕ) → padded 0 number ≡ []
unfolding padded
none_stays number = refl

-- no digit is no zero either
pub none_at : (width number : ℕ) → width ≤ 0 → padded width number ≡ without_zeros (padded width number)
unfolding padded
none_at zero number h = refl
none_at (suc width) number h = absurd (omega arith)

-- A number is written when its last digit is.
pub padded_more : (old front all : List ℕ) (width number : ℕ) → 0 < width → front ≡ old ++ padded (width - 1) (number / 10) → all ≡ front ++ ((48 + number % 10) ∷ []) → all ≡ old ++ padded width number
padded_more old front all width number h first last =
    last ∙ ap (λ t. t ++ ((48 + number % 10) ∷ [])) first ∙ append_assoc old (padded (width - 1) (number / 10)) ((48 + number % 10) ∷ []) ∙ sym (ap (λ t. old ++ t) (padded_step width number h))
