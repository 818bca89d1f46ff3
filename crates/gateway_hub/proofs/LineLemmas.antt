-- Lines and receipts after a change of one line.
use Rattle.std.proofs.Common.{◌≡◌, ◌∙◌, ℕ, Bool, true, false, ◌==◌, List, length, Option, Some, None, refl, sym, ap, subst, inl, inr}
use Rattle.std.specs.Prelude.{◌⊎◌}
use Rattle.gateway_claim.specs.declared.event.Closed.{Closed}
use Rattle.gateway_claim.specs.declared.event.Closed.TheVariants.{Nobody, One, All}
use Rattle.gateway_claim.specs.declared.event.ToClient.{ToClient}
use Rattle.hub_queues.specs.declared.receipt.Close.{Close}
use Rattle.hub_queues.specs.declared.line.HubConnection.{HubConnection}
use Rattle.hub_queues.specs.declared.line.Place.{Place}
use Rattle.hub_queues.specs.Places.{line_at, receipt_at, Changes, LineChanges, CountsItem, Closes, PutsBytes, ClosesOne, HandsOut}
use Rattle.gateway_hub.specs.Desks.{CountsOne}

-- a line that is there now was there, and was changed so or not at all
abbrev pub WasBefore : {A : Type 0} → Bool → (A → A → Type 0) → Option A → A → Type 0
WasBefore {A = A} here change before now = (was : A) × (before ≡ Some was) × (((here ≡ true) × change was now) ⊎ ((here ≡ false) × (now ≡ was)))

some_same : {A : Type 0} (one other : A) → Some one ≡ Some other → one ≡ other
some_same one other is = cc

was_before_by : {A : Type 0} (here : Bool) (change : A → A → Type 0) (before after : Option A) (now : A) → Changes here change before after → after ≡ Some now → WasBefore here change before now
was_before_by false change before after now changes is = (now, sym changes ∙ is, inr (refl, refl))
was_before_by true change None after now changes is = absurd (cc)
was_before_by {A = A} true change (Some line) after now changes is =
    (line, refl, inl (refl, subst (λ (l : A). change line l) (some_same changes.0 now (sym changes.1 ∙ is)) changes.2))

pub was_before : (conn : ℕ) (change : HubConnection → HubConnection → Type 0) (before after : List Place) → LineChanges conn change before after
    → (i : ℕ) (now : HubConnection) → line_at after i ≡ Some now → WasBefore (conn == i) change (line_at before i) now
was_before conn change before after changes i now is = was_before_by (conn == i) change (line_at before i) (line_at after i) now (changes.lines i) is

-- this part of each line is as before
abbrev pub KeepsPart : {X : Type 0} → (HubConnection → X) → List Place → List Place → Type 0
KeepsPart part before after = (i : ℕ) (now : HubConnection) → line_at after i ≡ Some now → (was : HubConnection) × (line_at before i ≡ Some was) × (part now ≡ part was)

pub part_kept : {X : Type 0} (part : HubConnection → X) (conn : ℕ) (change : HubConnection → HubConnection → Type 0) (before after : List Place) → ((was now : HubConnection) → change was now → part now ≡ part was)
    → LineChanges conn change before after → KeepsPart part before after
part_kept part conn change before after same changes i now is =
    let w = was_before conn change before after changes i now is in
    (w.0, w.1, elim w.2 [ inl c ↦ same w.0 now c.1 | inr e ↦ ap part e.1 ])

pub part_same : {X : Type 0} (part : HubConnection → X) (before after : List Place) → after ≡ before → KeepsPart part before after
part_same part before after same i now is = (now, ap (λ (l : List Place). line_at l i) (sym same) ∙ is, refl)

pub part_twice : {X : Type 0} (part : HubConnection → X) (before between after : List Place) → KeepsPart part before between → KeepsPart part between after → KeepsPart part before after
part_twice part before between after first next i now is =
    let b = next i now is in
    let a = first i b.0 b.1 in
    (a.0, a.1, b.2 ∙ a.2)

-- the parts of a line that each change keeps
pub record KeepsRest (before after : List Place) : Type 0 where
  pub receipts : (i : ℕ) → receipt_at after i ≡ receipt_at before i
  pub size : length after ≡ length before

rest_of : (conn : ℕ) (change : HubConnection → HubConnection → Type 0) (before after : List Place) → LineChanges conn change before after → KeepsRest before after
rest_of conn change before after changes = record { receipts = changes.receipts; size = changes.size }

rest_same : (before after : List Place) → after ≡ before → KeepsRest before after
rest_same before after same = record { receipts = λ i. ap (λ (l : List Place). receipt_at l i) same; size = ap (λ (l : List Place). length l) same }

pub rest_twice : (before between after : List Place) → KeepsRest before between → KeepsRest between after → KeepsRest before after
rest_twice before between after first next = record { receipts = λ i. next.receipts i ∙ first.receipts i; size = next.size ∙ first.size }

pub count_rest : (asker : Option ℕ) (before after : List Place) → CountsOne asker before after → KeepsRest before after
count_rest None before after same = rest_same before after same
count_rest (Some conn) before after changes = rest_of conn CountsItem before after changes

pub count_part : {X : Type 0} (part : HubConnection → X) (asker : Option ℕ) (before after : List Place) → ((was now : HubConnection) → CountsItem was now → part now ≡ part was) → CountsOne asker before after → KeepsPart part before after
count_part part None before after same counts = part_same part before after counts
count_part part (Some conn) before after same counts = part_kept part conn CountsItem before after same counts

pub close_rest : (heard : Bool) (closed : Closed) (before after : List Place) → ClosesOne heard closed before after → KeepsRest before after
close_rest heard Nobody before after same = rest_same before after same
close_rest heard (One conn why) before after changes = rest_of conn _ before after changes
close_rest heard All before after same = rest_same before after same

pub close_part : {X : Type 0} (part : HubConnection → X) (heard : Bool) (closed : Closed) (before after : List Place) → ((c : Close) (was now : HubConnection) → Closes c was now → part now ≡ part was)
    → ClosesOne heard closed before after → KeepsPart part before after
close_part part heard Nobody before after same closes = part_same part before after closes
close_part part heard (One conn why) before after same closes = part_kept part conn _ before after (same _) closes
close_part part heard All before after same closes = part_same part before after closes

pub hand_rest : (piece : Option ToClient) (refused : Option ℕ) (before after : List Place) → HandsOut piece refused before after → KeepsRest before after
hand_rest None refused before after hands = rest_same before after hands.1
hand_rest (Some piece) refused before after hands = rest_of piece.conn _ before after hands.2

pub hand_part : {X : Type 0} (part : HubConnection → X) (piece : Option ToClient) (refused : Option ℕ) (before after : List Place) → ((bytes : List ℕ) (full : Bool) (was now : HubConnection) → PutsBytes bytes full was now → part now ≡ part was)
    → HandsOut piece refused before after → KeepsPart part before after
hand_part part None refused before after same hands = part_same part before after hands.1
hand_part part (Some piece) refused before after same hands = part_kept part piece.conn _ before after (same piece.bytes hands.0) hands.2
