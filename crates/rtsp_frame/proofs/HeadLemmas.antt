-- What the definitions of empty lines and heads say of a longer text.
use Rattle.std.proofs.Common.{◌≡◌, ℕ, zero, suc, ◌<◌, ◌≤◌, Bool, true, false, cond, ◌&&◌, ◌||◌, eqb, not, List, [], ◌∷◌, ◌++◌, length, take, drop, Option, Some, None, refl, ap, ◌∙◌, arith}
use Rattle.std.specs.Option.{option_map}
use Rattle.gate_bytes.specs.Ascii as ascii
use Rattle.rtsp_head.specs.Items.{blank_lines, head_from, head_len}

-- a number less than before is a number less after
plus_one_more : (o p : Option ℕ) (n : ℕ) → ((k : ℕ) → o ≡ Some k → p ≡ Some k) → option_map suc o ≡ Some n → option_map suc p ≡ Some n
plus_one_more None p n f h = cc
plus_one_more (Some k) p n f h = ap (option_map suc) (f k refl) ∙ h

turn_more : (b : Bool) (o p : Option ℕ) (n : ℕ) → ((k : ℕ) → o ≡ Some k → p ≡ Some k) → cond b (Some 1) (option_map suc o) ≡ Some n → cond b (Some 1) (option_map suc p) ≡ Some n
turn_more true o p n f h = h
turn_more false o p n f h = plus_one_more o p n f h

-- no head ends in nothing
turn_last : (b : Bool) (n : ℕ) (p : Option ℕ) → cond b (Some 1) None ≡ Some n → cond b (Some 1) p ≡ Some n
turn_last true n p h = h
turn_last false n p h = cc

-- a head that has ended stays
pub head_from_more : (xs ys : List ℕ) (starts : Bool) (n : ℕ) → head_from starts xs ≡ Some n → head_from starts (xs ++ ys) ≡ Some n
head_from_more [] ys starts n h = cc
head_from_more (b ∷ []) ys starts n h = turn_last (eqb b ascii.lf && starts) n _ h
head_from_more (b ∷ c ∷ xs) ys starts n h =
    turn_more (eqb b ascii.lf && starts) _ _ n (λ k at. head_from_more (c ∷ xs) ys _ k at) h

turn_fits : (b : Bool) (o : Option ℕ) (m n : ℕ) → ((k : ℕ) → o ≡ Some k → (0 < k) × (k ≤ m)) → cond b (Some 1) (option_map suc o) ≡ Some n → (0 < n) × (n ≤ suc m)
turn_fits true o m n f h = let e : 1 ≡ n = cc in (omega arith, omega arith)
turn_fits false None m n f h = cc
turn_fits false (Some k) m n f h = let e : suc k ≡ n = cc in let g : (0 < k) × (k ≤ m) = f k refl in (omega arith, omega arith)

-- a head has a byte, and its bytes have come
pub head_from_fits : (xs : List ℕ) (starts : Bool) (n : ℕ) → head_from starts xs ≡ Some n → (0 < n) × (n ≤ length xs)
head_from_fits [] starts n h = cc
head_from_fits (b ∷ xs) starts n h =
    turn_fits (eqb b ascii.lf && starts) _ (length xs) n (λ k at. head_from_fits xs _ k at) h

-- the front of a longer text begins with that of the text
pub front_grows : (n : ℕ) (xs ys : List ℕ) → (more : List ℕ) × (take n (xs ++ ys) ≡ take n xs ++ more)
front_grows zero xs ys = ([], refl)
front_grows (suc n) [] ys = (take (suc n) ys, refl)
front_grows (suc n) (x ∷ xs) ys =
    let later = front_grows n xs ys in (later.0, ap (λ (l : List ℕ). x ∷ l) later.1)

-- a head within the first bytes stays
pub head_within_more : (most : ℕ) (xs ys : List ℕ) (n : ℕ) → head_len (take most xs) ≡ Some n → head_len (take most (xs ++ ys)) ≡ Some n
head_within_more most xs ys n h =
    let grown = front_grows most xs ys in
    ap head_len grown.1 ∙ head_from_more (take most xs) grown.0 true n h

-- whether the first byte decides that no empty line stands here
abbrev pub decided : List ℕ → Bool
decided [] = false
decided (b ∷ []) = not (eqb b ascii.cr)
decided (b ∷ c ∷ xs) = true

blank_last : (ten cr lf : Bool) (k b : ℕ) → eqb b ascii.cr ≡ cr → decided (drop (cond (ten || (cr && false)) 1 0) (b ∷ [])) ≡ true → cond (ten || (cr && lf)) (suc k) 0 ≡ cond (ten || (cr && false)) 1 0
blank_last true cr lf k b e h = cc
blank_last false true lf k b e h = cc (ap not e)
blank_last false false lf k b e h = refl

blank_turn : (t : Bool) (b : ℕ) (xs : List ℕ) (m n : ℕ) → (decided (drop n xs) ≡ true → m ≡ n) → decided (drop (cond t (suc n) 0) (b ∷ xs)) ≡ true → cond t (suc m) 0 ≡ cond t (suc n) 0
blank_turn true b xs m n f h = ap suc (f h)
blank_turn false b xs m n f h = refl

-- empty lines stay, where what follows them is no lone CR
pub blank_lines_more : (xs ys : List ℕ) → decided (drop (blank_lines xs) xs) ≡ true → blank_lines (xs ++ ys) ≡ blank_lines xs
blank_lines_more [] ys h = cc
blank_lines_more (b ∷ []) ys h = blank_last (eqb b ascii.lf) (eqb b ascii.cr) _ _ b refl h
blank_lines_more (b ∷ c ∷ xs) ys h =
    blank_turn (eqb b ascii.lf || (eqb b ascii.cr && eqb c ascii.lf)) b (c ∷ xs) _ _ (blank_lines_more (c ∷ xs) ys) h

blank_turn_fits : (t : Bool) (m n : ℕ) → n ≤ m → cond t (suc n) 0 ≤ suc m
blank_turn_fits true m n h = omega arith
blank_turn_fits false m n h = omega arith

pub blank_lines_fit : (xs : List ℕ) → blank_lines xs ≤ length xs
blank_lines_fit [] = omega arith
blank_lines_fit (b ∷ xs) = blank_turn_fits _ (length xs) (blank_lines xs) (blank_lines_fit xs)
