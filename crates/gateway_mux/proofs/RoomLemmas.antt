-- The room that is kept goes with what changes.
use Rattle.std.proofs.Common.{◌≡◌, ◌≢◌, ◌∙◌, ℕ, ◌+◌, ◌≤◌, ◌==◌, ◌||◌, ◌&&◌, not, Bool, true, false, cond, List, [], ◌∷◌, refl, sym, ap, subst, arith}
use Rattle.std.proofs.lemmas.Bool.{eq-eqb, eqb-true}
use Rattle.gateway_mux.specs.Room.{is_in, IsOnce, sum_of}

true_is_false : true ≡ false → ⊥
true_is_false e = cc

-- One that is not among them changes no sum.
sum_out : (f g : ℕ → ℕ) (i j : ℕ) (more : List ℕ) (t : Bool) → ((k : ℕ) → k ≢ i → f k ≡ g k) → (j == i) ≡ t → (t || is_in i more) ≡ false → (is_in i more ≡ false → sum_of f more ≡ sum_of g more)
    → f j + sum_of f more ≡ g j + sum_of g more
sum_out f g i j more true same e out rest = cc
sum_out f g i j more false same e out rest =
    ap (λ n. n + sum_of f more) (same j (λ is. true_is_false (sym (eq-eqb j i is) ∙ e))) ∙ ap (λ n. g j + n) (rest out)

pub sum_same : (f g : ℕ → ℕ) (i : ℕ) (roster : List ℕ) → ((j : ℕ) → j ≢ i → f j ≡ g j) → is_in i roster ≡ false → sum_of f roster ≡ sum_of g roster
sum_same f g i [] same out = refl
sum_same f g i (j ∷ more) same out = sum_out f g i j more (j == i) same refl out (sum_same f g i more same)

pub sum_all : (f g : ℕ → ℕ) (roster : List ℕ) → ((i : ℕ) → f i ≡ g i) → sum_of f roster ≡ sum_of g roster
sum_all f g [] same = refl
sum_all f g (i ∷ more) same = ap (λ n. n + sum_of f more) (same i) ∙ ap (λ n. g i + n) (sum_all f g more same)

-- One that is among them once changes it by what it counts.
sum_in : (f g : ℕ → ℕ) (i j : ℕ) (more : List ℕ) (t : Bool) → ((k : ℕ) → k ≢ i → f k ≡ g k) → (j == i) ≡ t → is_in j more ≡ false → (t || is_in i more) ≡ true
    → (is_in i more ≡ true → sum_of f more + g i ≡ sum_of g more + f i)
    → (f j + sum_of f more) + g i ≡ (g j + sum_of g more) + f i
sum_in f g i j more true same e out here rest =
    let is : j ≡ i = eqb-true j i e in
    let others : sum_of f more ≡ sum_of g more = sum_same f g i more same (ap (λ n. is_in n more) (sym is) ∙ out) in
    ap (λ n. (f j + n) + g i) others
    ∙ ap (λ n. (f n + sum_of g more) + g i) is
    ∙ swap (f i) (sum_of g more) (g i)
    ∙ ap (λ n. (g n + sum_of g more) + f i) (sym is)
  where
    swap : (a b c : ℕ) → (a + b) + c ≡ (c + b) + a
    swap a b c = grind arith
sum_in f g i j more false same e out here rest =
    let now : f j ≡ g j = same j (λ is. true_is_false (sym (eq-eqb j i is) ∙ e)) in
    let more_now : sum_of f more + g i ≡ sum_of g more + f i = rest here in
    ap (λ n. (n + sum_of f more) + g i) now ∙ add (g j) (sum_of f more) (g i) (sum_of g more) (f i) more_now
  where
    add : (a b c d e : ℕ) → b + c ≡ d + e → (a + b) + c ≡ (a + d) + e
    add a b c d e h = grind arith

pub sum_changes : (f g : ℕ → ℕ) (i : ℕ) (roster : List ℕ) → IsOnce roster → ((j : ℕ) → j ≢ i → f j ≡ g j) → is_in i roster ≡ true → sum_of f roster + g i ≡ sum_of g roster + f i
sum_changes f g i [] once same here = cc
sum_changes f g i (j ∷ more) once same here = sum_in f g i j more (j == i) same refl once.0 here (sum_changes f g i more once.1 same)

-- One is taken out.
abbrev pub without : ℕ → List ℕ → List ℕ
without i [] = []
without i (j ∷ more) = cond (j == i) (without i more) (j ∷ without i more)

both_false : (t : Bool) → (not t && false) ≡ false
both_false true = refl
both_false false = refl

in_rest : (i k j : ℕ) (more : List ℕ) → is_in k (without i more) ≡ (not (i == k) && is_in k more) → is_in k (without i (j ∷ more)) ≡ (not (i == k) && ((j == k) || is_in k more))
in_rest i k j more rest = by (j == i) refl
  where
    taken : j ≡ i → (s : Bool) → (i == k) ≡ s → (not s && is_in k more) ≡ (not s && ((j == k) || is_in k more))
    taken is true d = refl
    taken is false d = ap (λ t. t || is_in k more) (sym (ap (λ n. n == k) is ∙ d))

    left : (j == i) ≡ false → (s t : Bool) → (i == k) ≡ s → (j == k) ≡ t → (t || (not s && is_in k more)) ≡ (not s && (t || is_in k more))
    left ne true true d f = absurd (true_is_false (sym (eq-eqb j i (eqb-true j k f ∙ sym (eqb-true i k d))) ∙ ne))
    left ne true false d f = refl
    left ne false true d f = refl
    left ne false false d f = refl

    by : (t : Bool) → (j == i) ≡ t → is_in k (cond t (without i more) (j ∷ without i more)) ≡ (not (i == k) && ((j == k) || is_in k more))
    by true e = rest ∙ taken (eqb-true j i e) (i == k) refl
    by false e = ap (λ t. (j == k) || t) rest ∙ left e (i == k) (j == k) refl refl

pub in_without : (i k : ℕ) (roster : List ℕ) → is_in k (without i roster) ≡ (not (i == k) && is_in k roster)
in_without i k [] = sym (both_false (i == k))
in_without i k (j ∷ more) = in_rest i k j more (in_without i k more)

once_rest : (i j : ℕ) (more : List ℕ) (t : Bool) → (is_in j more ≡ false) → IsOnce (without i more) → IsOnce (cond t (without i more) (j ∷ without i more))
once_rest i j more true out rest = rest
once_rest i j more false out rest = (in_without i j more ∙ ap (λ t. not (i == j) && t) out ∙ both_false (i == j), rest)

pub once_without : (i : ℕ) (roster : List ℕ) → IsOnce roster → IsOnce (without i roster)
once_without i [] once = tt
once_without i (j ∷ more) once = once_rest i j more (j == i) once.0 (once_without i more once.1)

sum_rest : (f g : ℕ → ℕ) (i j : ℕ) (more : List ℕ) (t : Bool) → (j == i) ≡ t → ((k : ℕ) → k ≢ i → f k ≡ g k) → sum_of g (without i more) ≤ sum_of f more
    → sum_of g (cond t (without i more) (j ∷ without i more)) ≤ f j + sum_of f more
sum_rest f g i j more true e same low = omega (arith, low)
sum_rest f g i j more false e same low =
    subst (λ (n : ℕ). n + sum_of g (without i more) ≤ f j + sum_of f more) (same j (λ is. true_is_false (sym (eq-eqb j i is) ∙ e)))
    (omega (arith, low))

pub sum_without : (f g : ℕ → ℕ) (i : ℕ) (roster : List ℕ) → ((k : ℕ) → k ≢ i → f k ≡ g k) → sum_of g (without i roster) ≤ sum_of f roster
sum_without f g i [] same = omega arith
sum_without f g i (j ∷ more) same = sum_rest f g i j more (j == i) refl same (sum_without f g i more same)

-- What one of them counts is part of the sum.
at_least : (f : ℕ → ℕ) (i j : ℕ) (more : List ℕ) (t : Bool) → (j == i) ≡ t → (t || is_in i more) ≡ true → (is_in i more ≡ true → f i ≤ sum_of f more) → f i ≤ f j + sum_of f more
at_least f i j more true e here rest = subst (λ (n : ℕ). f i ≤ f n + sum_of f more) (sym (eqb-true j i e)) (omega arith)
at_least f i j more false e here rest = let low : f i ≤ sum_of f more = rest here in omega (arith, low)

pub sum_at_least : (f : ℕ → ℕ) (i : ℕ) (roster : List ℕ) → is_in i roster ≡ true → f i ≤ sum_of f roster
sum_at_least f i [] here = cc
sum_at_least f i (j ∷ more) here = at_least f i j more (j == i) refl here (sum_at_least f i more)
