-- A test of each row of the table of codes is a rule at each code.
use Rattle.std.proofs.Common.{◌≡◌, ℕ, zero, suc, ◌+◌, ◌-◌, ◌<◌, ◌≤◌, ◌&&◌, Bool, true, false, cond, List, [], ◌∷◌, Option, None, Some, refl, subst, arith}
use Rattle.std.specs.Prelude.{nat_le, unwrap_or}
use Rattle.std.proofs.lemmas.Bool.{leb-true, leb-false}
use Rattle.rtsp_status.specs.Codes.{CodeRow, code_rows, holds, code_in, code_one}
use Rattle.rtsp_status.specs.Reasons.{has_reason}

-- the test holds of so many codes, of which the first is this one
abbrev all_from : (ℕ → Bool) → ℕ → ℕ → Bool
all_from test first zero = true
all_from test first (suc n) = test first && all_from test (first + 1) n

-- the test holds of what the codes of a row become
abbrev row_test : (ℕ → Bool) → ℕ → ℕ → Option ℕ → Bool
row_test test first last None = all_from test first (last + 1 - first)
row_test test first last (Some one) = test one

left_of : (a b : Bool) → (a && b) ≡ true → a ≡ true
left_of true b h = refl
left_of false b h = h

right_of : (a b : Bool) → (a && b) ≡ true → b ≡ true
right_of true b h = h
right_of false b h = absurd (grind (arith, h))

-- a code is the first of some or one of the others
first_or_more : (test : ℕ → Bool) (first code : ℕ) (t : Bool) → nat_le (first + 1) code ≡ t → first ≤ code → test first ≡ true
    → (first + 1 ≤ code → test code ≡ true) → test code ≡ true
first_or_more test first code true e low this more = more (leb-true (first + 1) code e)
first_or_more test first code false e low this more =
    let same : first ≡ code = omega (arith, low, leb-false (first + 1) code e) in
    subst (λ c. test c ≡ true) same this

one_from : (test : ℕ → Bool) (n first code : ℕ) → all_from test first n ≡ true → first ≤ code → code < first + n → test code ≡ true
one_from test zero first code h low high = absurd (omega (arith, low, high))
one_from test (suc n) first code h low high =
    first_or_more test first code (nat_le (first + 1) code) refl low (left_of (test first) (all_from test (first + 1) n) h)
    (λ above. one_from test n (first + 1) code (right_of (test first) (all_from test (first + 1) n) h) above (omega (arith, high)))

told_with : (test : ℕ → Bool) (first last : ℕ) (told : Option ℕ) (code other : ℕ) (t : Bool) → (nat_le first code && nat_le code last) ≡ t
    → row_test test first last told ≡ true → test other ≡ true → test (cond t (unwrap_or told code) other) ≡ true
told_with test first last told code other false e h rest = rest
told_with test first last (Some one) code other true e h rest = h
told_with test first last None code other true e h rest =
    let low : first ≤ code = leb-true first code (left_of (nat_le first code) (nat_le code last) e) in
    let high : code ≤ last = leb-true code last (right_of (nat_le first code) (nat_le code last) e) in
    one_from test (last + 1 - first) first code h low (omega (arith, low, high))

abbrev rows_test : (ℕ → Bool) → List CodeRow → Bool
rows_test test [] = test 502
rows_test test (row ∷ more) = row_test test row.first row.last row.told && rows_test test more

told_in : (test : ℕ → Bool) (table : List CodeRow) (code : ℕ) → rows_test test table ≡ true → test (code_in table code) ≡ true
told_in test [] code h = h
told_in test (row ∷ more) code h =
    let this = row_test test row.first row.last row.told in
    told_with test row.first row.last row.told code (code_in more code) (holds row code) refl
    (left_of this (rows_test test more) h) (told_in test more code (right_of this (rows_test test more) h))

-- what a code becomes has a reason
pub told_has_reason : (code : ℕ) → has_reason (code_one code) ≡ true
told_has_reason code = told_in has_reason code_rows code refl
