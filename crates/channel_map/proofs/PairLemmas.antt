-- Lemmas on the table of pairs.
use Rattle.std.proofs.Common.{◌≡◌, ◌≢◌, ◌∙◌, ℕ, suc, zero, ◌+◌, ◌-◌, ◌<◌, ◌≤◌, ◌==◌, Bool, true, false, not, List, [], ◌∷◌, length, replicate, Option, Some, None, is_some, IsSome, inl, inr, if◌then◌else◌, refl, sym, ap, subst, arith, set, get_or-set_same, get_or-set_other, length-set}
use Rattle.std.proofs.lemmas.Bool.{eqb-true, eqb-false, eq-eqb, ne_eqb, cases_lt}
use Rattle.std.proofs.lemmas.List.Sums.{count_by-le-length, sum_by-cons}
use Rattle.channel_map.specs.declared.map.Held.{Held}
use Rattle.channel_map.specs.declared.map.Freed.TheVariants.{Nothing, Pair}
use Rattle.channel_map.specs.declared.map.TheConstants.{PAIRS}
use Rattle.channel_map.specs.Pairs.{IsTable, held_at, is_free, kept, first_free, lowest_free, held_count}

-- nothing stands in a table of nothing
pub held_at-replicate : (n p : ℕ) → held_at p (replicate n None) ≡ None
held_at-replicate zero p = refl
held_at-replicate (suc n) zero = refl
held_at-replicate (suc n) (suc p) = held_at-replicate n p

-- where the number at hand is not free, the first free one is the first further on
first_free-suc : (more at : ℕ) (free : ℕ → Bool) → free at ≡ false → first_free (suc more) at free ≡ first_free more (at + 1) free
first_free-suc more at free taken = rw taken

pub first_free_more : (n at : ℕ) (free : ℕ → Bool) → at < n → free at ≡ false → first_free (n - at) at free ≡ first_free (n - (at + 1)) (at + 1) free
first_free_more n at free low taken =
    let more : n - at ≡ suc (n - (at + 1)) = omega arith in rw more (first_free-suc (n - (at + 1)) at free taken)

-- where the number at hand is free, it is the first
pub first_free_here : (n at : ℕ) (free : ℕ → Bool) → at < n → free at ≡ true → first_free (n - at) at free ≡ Some at
first_free_here n at free low here = let more : n - at ≡ suc (n - (at + 1)) = omega arith in rw (more, here)

-- the first free number is one of those that were looked at, and is free
below_by : (b : Bool) (at n p : ℕ) (rest : Option ℕ) → (rest ≡ Some p → p < at + 1 + n) → (if b then Some at else rest) ≡ Some p → p < at + suc n
below_by true at n p rest later is = let e : at ≡ p = cc in omega arith
below_by false at n p rest later is = let low : p < at + 1 + n = later is in omega arith

pub first_free_below : (n at : ℕ) (free : ℕ → Bool) (p : ℕ) → first_free n at free ≡ Some p → p < at + n
first_free_below zero at free p is = cc
first_free_below (suc n) at free p is = below_by (free at) at n p (first_free n (at + 1) free) (first_free_below n (at + 1) free p) is

free_by : (b : Bool) (at p : ℕ) (free : ℕ → Bool) (rest : Option ℕ) → free at ≡ b → (rest ≡ Some p → free p ≡ true) → (if b then Some at else rest) ≡ Some p → free p ≡ true
free_by true at p free rest said later is = let e : at ≡ p = cc in cc
free_by false at p free rest said later is = later is

pub first_free_is_free : (n at : ℕ) (free : ℕ → Bool) (p : ℕ) → first_free n at free ≡ Some p → free p ≡ true
first_free_is_free zero at free p is = cc
first_free_is_free (suc n) at free p is = free_by (free at) at p free (first_free n (at + 1) free) refl (first_free_is_free n (at + 1) free p) is

-- where none is found, none of those that were looked at is free
none_by : (b : Bool) (at k : ℕ) (free : ℕ → Bool) (rest : Option ℕ) → free at ≡ b → (rest ≡ None → at + 1 ≤ k → free k ≡ false) → (if b then Some at else rest) ≡ None → at ≤ k → free k ≡ false
none_by true at k free rest said later is low = cc
none_by false at k free rest said later is low = by_place (k == at) refl where
  by_place : (same : Bool) → (k == at) ≡ same → free k ≡ false
  by_place true e = let here : k ≡ at = eqb-true k at e in cc
  by_place false e = let apart : k ≢ at = eqb-false k at e in later is (omega arith)

pub first_free_none : (n at : ℕ) (free : ℕ → Bool) (k : ℕ) → first_free n at free ≡ None → at ≤ k → k < at + n → free k ≡ false
first_free_none zero at free k is low high = absurd (omega arith)
first_free_none (suc n) at free k is low high =
    none_by (free at) at k free (first_free n (at + 1) free) refl (λ none above. first_free_none n (at + 1) free k none above (omega arith)) is low

-- every pair is held exactly where as many are held as there are
all_held : (b : Bool) → not b ≡ false → b ≡ true
all_held true h = refl
all_held false h = cc

count-held : (held : Held) (table : List (Option Held)) → held_count (Some held ∷ table) ≡ 1 + held_count table
count-held held table = sum_by-cons (λ place. if is_some place then 1 else 0) (Some held) table

pub count-full : (table : List (Option Held)) → ((k : ℕ) → k < length table → is_free (held_at k table) ≡ false) → held_count table ≡ length table
count-full [] all = refl
count-full (None ∷ table) all = let contradiction : true ≡ false = all 0 (omega arith) in cc
count-full (Some held ∷ table) all = let rest : held_count table ≡ length table = count-full table (λ k low. all (suc k) (omega arith)) in omega (arith, count-held held table)

pub full-count : (table : List (Option Held)) (k : ℕ) → held_count table ≡ length table → k < length table → is_free (held_at k table) ≡ false
full-count [] k full low = absurd (omega arith)
full-count (None ∷ table) k full low = absurd (omega (arith, count_by-le-length is_some table))
full-count (Some held ∷ table) zero full low = refl
full-count (Some held ∷ table) (suc k) full low = full-count table k (omega (arith, count-held held table)) (omega arith)

-- the lowest free pair is one, and it is free; where there is none, all are held
pub lowest_free_below : (free : ℕ → Bool) (p : ℕ) → lowest_free free ≡ Some p → p < PAIRS
unfolding lowest_free
lowest_free_below free p is = first_free_below PAIRS 0 free p is

pub lowest_free_is_free : (free : ℕ → Bool) (p : ℕ) → lowest_free free ≡ Some p → free p ≡ true
unfolding lowest_free
lowest_free_is_free free p is = first_free_is_free PAIRS 0 free p is

pub none_when_full : (table : List (Option Held)) → length table ≡ PAIRS → lowest_free (λ p. is_free (held_at p table)) ≡ None → held_count table ≡ PAIRS
unfolding lowest_free
none_when_full table size none =
    count-full table (λ k low. first_free_none PAIRS 0 (λ p. is_free (held_at p table)) k none (omega arith) (omega arith)) ∙ size

pub full_when_none : (table : List (Option Held)) (p : ℕ) → length table ≡ PAIRS → lowest_free (λ p. is_free (held_at p table)) ≡ Some p → held_count table ≡ PAIRS → true ≡ false
full_when_none table p size is full =
    let low : p < length table = rw size (lowest_free_below (λ p. is_free (held_at p table)) p is) in
    sym (lowest_free_is_free (λ p. is_free (held_at p table)) p is) ∙ full-count table p (full ∙ sym size) low

-- the pair's place is written, and no other
pub held_at-set : (table : List (Option Held)) (pair p : ℕ) (place : Option Held) → pair < length table
    → held_at p (set table pair place) ≡ (if p == pair then place else held_at p table)
held_at-set table pair p place low = set_by (p == pair) refl where
  set_by : (same : Bool) → (p == pair) ≡ same → held_at p (set table pair place) ≡ (if p == pair then place else held_at p table)
  set_by true e = let here : p ≡ pair = eqb-true p pair e in rw e (rw here (get_or-set_same table pair place None low))
  set_by false e = rw e (get_or-set_other table pair p place None (eqb-false p pair e))

-- a table of all pairs is looked at whole
pub lowest_free_by : (n : ℕ) (free : ℕ → Bool) → n ≡ PAIRS → lowest_free free ≡ first_free n 0 free
unfolding lowest_free
lowest_free_by n free size = let P : ℕ → Type 0 = λ k. first_free PAIRS 0 free ≡ first_free k 0 free in subst P (sym size) refl

-- the table stays one where what is written at a place speaks of its pair
pub written-table : (table : List (Option Held)) (pair : ℕ) (place : Option Held) → IsTable table → pair < length table → ((held : Held) → place ≡ Some held → held.pair ≡ pair) → IsTable (set table pair place)
written-table table pair place is low own = record {
  size = length-set table pair place ∙ is.size;
  own = λ p there at. own_by (p == pair) p there refl (sym (held_at-set table pair p place low) ∙ at);
} where
  own_by : (same : Bool) (p : ℕ) (there : Held) → (p == pair) ≡ same → (if p == pair then place else held_at p table) ≡ Some there → there.pair ≡ p
  own_by true p there e at = let here : p ≡ pair = eqb-true p pair e in own there (rw e at at) ∙ sym here
  own_by false p there e at = let one : held_at p table ≡ Some there = rw e at at in is.own p there one

-- past the table nothing is held
pub held_at-past : (table : List (Option Held)) (p : ℕ) → length table ≤ p → held_at p table ≡ None
held_at-past [] p past = refl
held_at-past (place ∷ table) zero past = absurd (omega arith)
held_at-past (place ∷ table) (suc p) past = held_at-past table p (omega arith)

-- tests that agree find the same
pub first_free_same : (n at : ℕ) (f g : ℕ → Bool) → ((p : ℕ) → f p ≡ g p) → first_free n at f ≡ first_free n at g
first_free_same zero at f g same = refl
first_free_same (suc n) at f g same = rw (same at, first_free_same n (at + 1) f g same)

pub lowest_free_same : (f g : ℕ → Bool) → ((p : ℕ) → f p ≡ g p) → lowest_free f ≡ lowest_free g
unfolding lowest_free
lowest_free_same f g same = first_free_same PAIRS 0 f g same

-- where nothing is freed, each pair stays as it is
pub kept-Nothing : (place : Option Held) → kept Nothing place ≡ place
kept-Nothing None = refl
kept-Nothing (Some held) = refl

-- what is held stands in the table
pub held-within : (table : List (Option Held)) (p : ℕ) → IsSome (held_at p table) → p < length table
held-within table p some = elim (cases_lt p (length table)) [
  | inl low ↦ low
  | inr past ↦ let nobody : held_at p table ≡ None = held_at-past table p past in let contradiction : false ≡ true = rw nobody at some in cc
]

-- where one pair is freed, it alone is not held
same_by : (pair : ℕ) (place : Option Held) → ((held : Held) → place ≡ Some held → held.pair ≡ pair) → kept (Pair pair) place ≡ None
same_by pair None own = refl
same_by pair (Some held) own = rw (eq-eqb held.pair pair (own held refl)) refl

other_by : (pair p : ℕ) (place : Option Held) → p ≢ pair → ((held : Held) → place ≡ Some held → held.pair ≡ p) → kept (Pair pair) place ≡ place
other_by pair p None apart own = refl
other_by pair p (Some held) apart own = let far : held.pair ≢ pair = λ e. apart (sym (own held refl) ∙ e) in rw (ne_eqb held.pair pair far) refl

pub kept-Pair_same : (table : List (Option Held)) (pair : ℕ) → IsTable table → kept (Pair pair) (held_at pair table) ≡ None
kept-Pair_same table pair is = same_by pair (held_at pair table) (is.own pair)

pub kept-Pair_other : (table : List (Option Held)) (pair p : ℕ) → IsTable table → p ≢ pair → kept (Pair pair) (held_at p table) ≡ held_at p table
kept-Pair_other table pair p is apart = other_by pair p (held_at p table) apart (is.own p)

-- a pair past the table is not held, so that nothing is freed with it
pub kept-Pair_past : (table : List (Option Held)) (pair p : ℕ) → IsTable table → length table ≤ pair → kept (Pair pair) (held_at p table) ≡ held_at p table
kept-Pair_past table pair p is past = past_by (p == pair) refl where
  past_by : (same : Bool) → (p == pair) ≡ same → kept (Pair pair) (held_at p table) ≡ held_at p table
  past_by true e = let here : p ≡ pair = eqb-true p pair e in rw (here, held_at-past table pair past) refl
  past_by false e = kept-Pair_other table pair p is (eqb-false p pair e)

pub lowest_free-Nothing : (table : List (Option Held)) → lowest_free (λ p. is_free (kept Nothing (held_at p table))) ≡ lowest_free (λ p. is_free (held_at p table))
lowest_free-Nothing table = lowest_free_same _ _ (λ p. ap is_free (kept-Nothing (held_at p table)))
