-- What taking the blanks off the end does to a text that ends with a given byte.
use Rattle.std.proofs.Common.{◌≡◌, ℕ, ◌+◌, ◌-◌, ◌<◌, true, false, List, [], ◌∷◌, ◌++◌, length, take, get_or, sym, ◌∙◌, ap, arith}
use Rattle.std.specs.List.{list_all}
use Rattle.std.proofs.lemmas.List.Folds.{list_all-append}
use Rattle.std.proofs.lemmas.List.{take_more}
use Rattle.std.proofs.Math.Seq.{take-length}
use Rattle.gate_bytes.specs.Tokens.{is_blank, without_end}

-- a blank at the end goes
pub without_end-blank : (xs : List ℕ) (b : ℕ) → is_blank b ≡ true → without_end (xs ++ (b ∷ [])) ≡ without_end xs
without_end-blank [] b h = grind (arith, h)
without_end-blank (x ∷ xs) b h =
    let rest : without_end (xs ++ (b ∷ [])) ≡ without_end xs = without_end-blank xs b h in
    let all : list_all is_blank (xs ++ (b ∷ [])) ≡ list_all is_blank xs = list_all-append is_blank xs (b ∷ []) ∙ grind (arith, h) in
    grind (arith, rest, all)

-- another byte at the end keeps all
pub without_end-other : (xs : List ℕ) (b : ℕ) → is_blank b ≡ false → without_end (xs ++ (b ∷ [])) ≡ xs ++ (b ∷ [])
without_end-other [] b h = grind (arith, h)
without_end-other (x ∷ xs) b h =
    let rest : without_end (xs ++ (b ∷ [])) ≡ xs ++ (b ∷ []) = without_end-other xs b h in
    let all : list_all is_blank (xs ++ (b ∷ [])) ≡ false = list_all-append is_blank xs (b ∷ []) ∙ grind (arith, h) in
    grind (arith, rest, all)

-- a text that isn't empty is what stands before its last byte, and that byte
pub last_apart : (xs : List ℕ) → 0 < length xs → xs ≡ take (length xs - 1) xs ++ (get_or xs (length xs - 1) 0 ∷ [])
last_apart xs h =
    let at : length xs - 1 < length xs = omega arith in
    let more : length xs - 1 + 1 ≡ length xs = omega arith in
    sym (take-length xs) ∙ ap (λ n. take n xs) (sym more) ∙ take_more xs (length xs - 1) 0 at

-- where the last byte is a blank, what stands before it gives the same
pub front_kept : (xs : List ℕ) → 0 < length xs → is_blank (get_or xs (length xs - 1) 0) ≡ true → without_end (take (length xs - 1) xs) ≡ without_end xs
front_kept xs h blank = sym (ap without_end (last_apart xs h) ∙ without_end-blank (take (length xs - 1) xs) (get_or xs (length xs - 1) 0) blank)

-- where the last byte is no blank, all is kept
pub all_kept : (xs : List ℕ) → 0 < length xs → is_blank (get_or xs (length xs - 1) 0) ≡ false → without_end xs ≡ xs
all_kept xs h other = ap without_end (last_apart xs h) ∙ without_end-other (take (length xs - 1) xs) (get_or xs (length xs - 1) 0) other ∙ sym (last_apart xs h)
