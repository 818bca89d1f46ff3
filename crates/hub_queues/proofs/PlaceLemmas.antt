-- One place of the hub's connections is set.
use Rattle.std.proofs.Common.{◌≡◌, ◌≢◌, ◌∙◌, ℕ, ◌<◌, ◌≤◌, Bool, true, false, ◌==◌, List, length, Option, Some, None, refl, sym, ap, subst, inl, inr, Box, Global, arith}
use Rattle.std.specs.Prelude.{slice_set}
use Rattle.std.specs.List.{slice_get}
use Rattle.std.proofs.lemmas.Bool.{eqb-true, eq-eqb}
use Rattle.std.proofs.lemmas.List.{get_or-set_same, get_or-set_other, length-set}
use Rattle.std.proofs.lemmas.Option.{slice_get_cases, slice_get-get_or, slice_get_past, slice_get_within}
use Rattle.hub_queues.specs.declared.line.HubConnection.{HubConnection}
use Rattle.hub_queues.specs.declared.line.Place.{Place}
use Rattle.hub_queues.specs.declared.line.Place.TheVariants.{Seated}
use Rattle.hub_queues.specs.Places.{line_of, receipt_of, line_at, receipt_at, Changes, LineChanges}

other_number : (k i : ℕ) → (k == i) ≡ false → i ≢ k
other_number k i other same = let is : (k == i) ≡ true = eq-eqb k i (sym same) in cc

pub found_here : {A : Type 0} (xs : List A) (k i : ℕ) (x v : A) → slice_get xs k ≡ Some x → (k == i) ≡ true → slice_get (slice_set xs k v) i ≡ Some v
found_here xs k i x v is here =
    let within : k < length xs = slice_get_within xs k x is in
    ap (λ n. slice_get (slice_set xs k v) n) (sym (eqb-true k i here))
    ∙ slice_get-get_or (slice_set xs k v) k v (omega (arith, length-set xs k v))
    ∙ ap (λ y. Some y) (get_or-set_same xs k v v within)

pub found_other : {A : Type 0} (xs : List A) (k i : ℕ) (v : A) → (k == i) ≡ false → slice_get (slice_set xs k v) i ≡ slice_get xs i
found_other xs k i v other = elim (slice_get_cases xs i).1 [
  | inl w ↦
      slice_get-get_or (slice_set xs k v) i w.0 (let less : i < length xs = w.1 in omega (arith, length-set xs k v))
      ∙ ap (λ y. Some y) (get_or-set_other xs k i v w.0 (other_number k i other) ∙ w.3)
      ∙ sym w.2
  | inr w ↦ slice_get_past (slice_set xs k v) i (let past : length xs ≤ i = w.0 in omega (arith, length-set xs k v)) ∙ sym w.1
]

pub set_changes : (change : HubConnection → HubConnection → Type 0) (places : List Place) (k : ℕ) (place now : Place) → slice_get places k ≡ Some place → Changes true change (line_of (Some place)) (line_of (Some now)) → receipt_of (Some now) ≡ receipt_of (Some place)
    → LineChanges k change places (slice_set places k now)
set_changes change places k place now is changes receipt = record {
  lines = λ i. lines_by i (k == i) refl;
  receipts = λ i. receipts_by i (k == i) refl;
  size = length-set places k now;
}
  where
    lines_by : (i : ℕ) (here : Bool) → (k == i) ≡ here → Changes (k == i) change (line_at places i) (line_at (slice_set places k now) i)
    lines_by i true same =
        let old : slice_get places i ≡ Some place = ap (λ n. slice_get places n) (sym (eqb-true k i same)) ∙ is in
        let new : slice_get (slice_set places k now) i ≡ Some now = found_here places k i place now is same in
        subst (λ b. Changes b change (line_at places i) (line_at (slice_set places k now) i)) (sym same)
        (subst (λ (o : Option Place). Changes true change (line_of o) (line_at (slice_set places k now) i)) (sym old)
        (subst (λ (o : Option Place). Changes true change (line_of (Some place)) (line_of o)) (sym new) changes))
    lines_by i false same = subst (λ b. Changes b change (line_at places i) (line_at (slice_set places k now) i)) (sym same) (ap line_of (found_other places k i now same))

    receipts_by : (i : ℕ) (here : Bool) → (k == i) ≡ here → receipt_at (slice_set places k now) i ≡ receipt_at places i
    receipts_by i true same =
        let old : slice_get places i ≡ Some place = ap (λ n. slice_get places n) (sym (eqb-true k i same)) ∙ is in
        ap receipt_of (found_here places k i place now is same) ∙ receipt ∙ ap receipt_of (sym old)
    receipts_by i false same = ap receipt_of (found_other places k i now same)

-- No place has the number.
pub none_changes : (change : HubConnection → HubConnection → Type 0) (places : List Place) (k : ℕ) → slice_get places k ≡ None → LineChanges k change places places
none_changes change places k is = record { lines = λ i. by i (k == i) refl; receipts = λ i. refl; size = refl }
  where
    by : (i : ℕ) (here : Bool) → (k == i) ≡ here → Changes here change (line_at places i) (line_at places i)
    by i true same =
        let none : line_at places i ≡ None = ap (λ n. line_at places n) (sym (eqb-true k i same)) ∙ ap line_of is in
        subst (λ (o : Option HubConnection). Changes true change o o) (sym none) refl
    by i false same = refl

-- A place that has a line changes by it.
pub seated_changes : (change : HubConnection → HubConnection → Type 0) (place : Place) (boxed : Box HubConnection Global) (line now : HubConnection) → place ≡ Seated boxed → line ≡ boxed.value → change line now → Changes true change (line_of (Some place)) (Some now)
seated_changes change place boxed line now is same changes =
    subst (λ (p : Place). Changes true change (line_of (Some p)) (Some now)) (sym is) (now, refl, subst (λ (l : HubConnection). change l now) same changes)
