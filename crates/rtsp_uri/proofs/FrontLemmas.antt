-- The longest front of a text whose bytes are of one kind.
use Rattle.std.proofs.Common.{◌≡◌, ℕ, suc, ◌+◌, Bool, true, false, cond, List, [], ◌∷◌, ◌++◌, length, take, refl, ◌∙◌, ap, arith}
use Rattle.std.specs.List.{prefix_len, list_all}
use Rattle.std.proofs.lemmas.Bool.{and_parts, and_from}

-- the first byte, where there is one, is of another kind
abbrev pub Stops : (ℕ → Bool) → List ℕ → Type 0
Stops kind [] = Unit {0}
Stops kind (b ∷ text) = kind b ≡ false

-- the front is what stands before that byte
pub front_whole : (kind : ℕ → Bool) (xs ys : List ℕ) → list_all kind xs ≡ true → Stops kind ys → prefix_len kind (xs ++ ys) ≡ length xs
front_whole kind [] [] h s = refl
front_whole kind [] (y ∷ ys) h s = ap (λ t. cond t (1 + prefix_len kind ys) 0) s
front_whole kind (x ∷ xs) ys h s =
    let parts = and_parts (kind x) (list_all kind xs) h in
    let more : prefix_len kind (xs ++ ys) ≡ length xs = front_whole kind xs ys parts.1 s in
    ap (λ t. cond t (1 + prefix_len kind (xs ++ ys)) 0) parts.0 ∙ omega (arith, more)

kind_step : (kind : ℕ → Bool) (x : ℕ) (xs : List ℕ) (n : ℕ) (t : Bool) → kind x ≡ t → list_all kind (take n xs) ≡ true
    → list_all kind (take (cond t (1 + n) 0) (x ∷ xs)) ≡ true
kind_step kind x xs n false e more = refl
kind_step kind x xs n true e more =
    let one : 1 + n ≡ suc n = omega arith in
    ap (λ k. list_all kind (take k (x ∷ xs))) one ∙ and_from (kind x) (list_all kind (take n xs)) e more

-- its bytes are of the kind
pub front_kind : (kind : ℕ → Bool) (xs : List ℕ) → list_all kind (take (prefix_len kind xs) xs) ≡ true
front_kind kind [] = refl
front_kind kind (x ∷ xs) = kind_step kind x xs (prefix_len kind xs) (kind x) refl (front_kind kind xs)
