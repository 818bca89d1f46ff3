-- A set of numbers, as `lives` sees it.
use Rattle.std.proofs.Common.{◌≡◌, ◌∙◌, ℕ, ◌<◌, ◌==◌, ◌&&◌, ◌||◌, not, Bool, true, false, cond, refl, sym, ap}
use Rattle.std.specs.declared.cmp.Ordering.{Ordering}
use Rattle.std.specs.declared.cmp.Ordering.TheVariants.{Less, Equal, Greater}
use Rattle.std.specs.Ordering.{nat_cmp, is_eq, is_gt}
use Rattle.std.specs.Cmp.{nat_cmp_is}
use Rattle.std.specs.BTreeMap.{is_at}
use Rattle.std.specs.BTreeSet.{BTreeSet, contains, IsLowerBound}
use Rattle.std.proofs.lemmas.Bool.{eq-eqb, ne_eqb}
use Rattle.std.proofs.lemmas.Map.Lookups.{exact_unsigned}

is_equal : (o : Ordering) → is_eq o ≡ true → o ≡ Equal
is_equal Less h = cc
is_equal Equal h = refl
is_equal Greater h = cc

at_itself : (n : ℕ) → is_at (nat_cmp n) n ≡ true
at_itself n = ap is_eq (sym (nat_cmp_is n n Equal refl))

-- the test of a number is that of equality
pub at_is : (conn i : ℕ) → is_at (nat_cmp conn) i ≡ (conn == i)
at_is conn i = by (is_at (nat_cmp conn) i) refl
  where
    by : (here : Bool) → is_at (nat_cmp conn) i ≡ here → here ≡ (conn == i)
    by true is = sym (eq-eqb conn i (exact_unsigned conn i (is_equal (nat_cmp conn i) is)))
    by false is = sym (ne_eqb conn i (λ same. let itself : is_at (nat_cmp conn) conn ≡ false = ap (λ n. is_at (nat_cmp conn) n) same ∙ is in let one = at_itself conn in cc))

-- with one number more, or less
pub with_one : (here was : Bool) → cond here true was ≡ (here || was)
with_one true was = refl
with_one false was = refl

without_one : (here was : Bool) → cond here false was ≡ (not here && was)
without_one true was = refl
without_one false was = refl

pub added : (old new : BTreeSet ℕ) (conn : ℕ) → ((q : ℕ) → contains nat_cmp new q ≡ cond (is_at (nat_cmp conn) q) true (contains nat_cmp old q))
    → (i : ℕ) → contains nat_cmp new i ≡ (conn == i || contains nat_cmp old i)
added old new conn updates i = updates i ∙ ap (λ b. cond b true (contains nat_cmp old i)) (at_is conn i) ∙ with_one (conn == i) (contains nat_cmp old i)

pub removed : (old new : BTreeSet ℕ) (conn : ℕ) → ((q : ℕ) → contains nat_cmp new q ≡ cond (is_at (nat_cmp conn) q) false (contains nat_cmp old q))
    → (i : ℕ) → contains nat_cmp new i ≡ (not (conn == i) && contains nat_cmp old i)
removed old new conn updates i = updates i ∙ ap (λ b. cond b false (contains nat_cmp old i)) (at_is conn i) ∙ without_one (conn == i) (contains nat_cmp old i)

-- none is below the lowest
pub none_below : (s : BTreeSet ℕ) (conn : ℕ) → IsLowerBound nat_cmp s conn → (i : ℕ) → i < conn → contains nat_cmp s i ≡ false
none_below s conn lowest i below = by (contains nat_cmp s i) refl
  where
    by : (has : Bool) → contains nat_cmp s i ≡ has → contains nat_cmp s i ≡ false
    by false is = is
    by true is =
        let over : is_gt (nat_cmp conn i) ≡ true = ap is_gt (sym (nat_cmp_is conn i Greater below)) in
        let not_over = lowest i is in
        cc
