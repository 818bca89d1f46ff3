-- All connections of a hub are over.
use Rattle.std.proofs.Common.{◌≡◌, ◌∙◌, ℕ, zero, suc, ◌≤◌, Bool, true, false, ◌&&◌, not, List, [], ◌∷◌, length, Option, Some, None, refl, sym, ap, subst, inl, inr, arith}
use Rattle.std.specs.Prelude.{is_some, is_none, nat_le}
use Rattle.std.specs.List.{slice_get, list_all}
use Rattle.std.proofs.lemmas.Bool.{leb-true, le-leb}
use Rattle.std.proofs.lemmas.Option.{slice_get_cases, slice_get_within}
use Rattle.gateway_claim.specs.Happenings.{HistoryEntry, entered, is_alive}
use Rattle.gateway_claim.specs.Cores.{ever_entered}
use Rattle.gateway_claim.proofs.AskLemmas.{never_part}
use Rattle.hub_queues.specs.declared.ending.Ending.{Ending}
use Rattle.gateway_hub.specs.declared.desk.Fall.{Fall}
use Rattle.gateway_hub.specs.Desks.{fall_heard}
use Rattle.hub_queues.specs.declared.receipt.Close.{Close}
use Rattle.hub_queues.specs.declared.receipt.Receipt.{Receipt}
use Rattle.hub_queues.specs.declared.line.Place.{Place}
use Rattle.hub_queues.specs.declared.line.Place.TheVariants.{Seated, Retired}
use Rattle.hub_queues.specs.Closes.{close_in}
use Rattle.gateway_hub.specs.Close.{is_place_over, IsOver, AreOver, TellsOver}
use Rattle.gate_transcript.specs.declared.entry.Entry.{Entry as Noted}
use Rattle.gateway_hub.specs.declared.desk.Desk.{Desk}
use Rattle.gateway_hub.specs.Keeps.{IsReceipt, AreNumbered, Keeps}
use Rattle.hub_queues.specs.Places.{line_of, line_at, receipt_of, receipt_at}
use Rattle.gateway_hub.specs.Receipts.{receipts_of, receipt_in, HasReceipt, ClosesWith}
use Rattle.gateway_hub.specs.Retire.{receipt_for}
use Rattle.gateway_hub.proofs.RetireLemmas.{life_so}
use Rattle.gateway_hub.proofs.HistoryLemmas.{alive_unclosed}

-- What holds of all holds of each, and what holds of each holds of all.
and_parts : (a b : Bool) → (a && b) ≡ true → (a ≡ true) × (b ≡ true)
and_parts true b is = (refl, is)
and_parts false b is = absurd (cc)

and_both : (a b : Bool) → a ≡ true → b ≡ true → (a && b) ≡ true
and_both true b is other = other
and_both false b is other = absurd (cc)

at_each : {A : Type 0} (p : A → Bool) (xs : List A) (i : ℕ) (x : A) → list_all p xs ≡ true → slice_get xs i ≡ Some x → p x ≡ true
at_each p [] i x all is = absurd (let within = slice_get_within [] i x is in omega arith)
at_each p (y ∷ xs) zero x all is = let first = (and_parts (p y) (list_all p xs) all).0 in let same : Some y ≡ Some x = is in cc
at_each p (y ∷ xs) (suc i) x all is = at_each p xs i x (and_parts (p y) (list_all p xs) all).1 is

from_each : {A : Type 0} (p : A → Bool) (xs : List A) → ((i : ℕ) (x : A) → slice_get xs i ≡ Some x → p x ≡ true) → list_all p xs ≡ true
from_each p [] each = refl
from_each p (x ∷ xs) each = and_both (p x) (list_all p xs) (each zero x refl) (from_each p xs (λ i. each (suc i)))

-- Who is closed is not alive, and the other way round.
not_false : (a : Bool) → not a ≡ true → a ≡ false
not_false true is = cc
not_false false is = refl

closed_some : (close : Option Close) (alive : Bool) → alive ≡ is_none close → alive ≡ false → is_some close ≡ true
closed_some None alive is dead = cc
closed_some (Some close) alive is dead = refl

closed_dead : (close : Option Close) (alive : Bool) → alive ≡ is_none close → is_some close ≡ true → not alive ≡ true
closed_dead None alive is some = cc
closed_dead (Some close) alive is some = ap not is

ever : (i : ℕ) (T : List HistoryEntry) → entered i T ≡ true → ever_entered i T ≡ true
ever i T en = by (ever_entered i T) refl
  where
    by : (b : Bool) → ever_entered i T ≡ b → ever_entered i T ≡ true
    by true is = is
    by false is = let never = never_part T i is in absurd (cc)

-- It is told exactly whether all are over.
pub tells_over : (told : Bool) (places : List Place) (fall : Option Fall) (ending : Option Ending) (T : List HistoryEntry) → AreNumbered (length places) T → ((i : ℕ) (receipt : Receipt) → receipt_at places i ≡ Some receipt → IsReceipt i receipt fall ending T)
    → told ≡ list_all (is_place_over T) places → TellsOver told places T
tells_over told places fall ending T numbered receipts is = record {
  over = λ yes i en. over_by (sym is ∙ yes) i en (slice_get places i) refl;
  told_so = λ all. is ∙ from_each (is_place_over T) places (λ i place at. told_by all i place at);
}
  where
    over_by : list_all (is_place_over T) places ≡ true → (i : ℕ) → ever_entered i T ≡ true → (found : Option Place) → slice_get places i ≡ found → IsOver i places T
    over_by all i en None at = elim (slice_get_cases places i).1 [
      | inl w ↦ let some = w.2 in absurd (cc)
      | inr w ↦ let never = numbered.new i w.0 in absurd (cc)
    ]
    over_by all i en (Some (Seated line)) at = let no : false ≡ true = at_each (is_place_over T) places i (Seated line) all at in absurd (cc)
    over_by all i en (Some (Retired receipt)) at =
        let own = and_parts (not (is_alive receipt.conn T)) (nat_le receipt.arrived receipt.pushed && nat_le receipt.taken receipt.handed) (at_each (is_place_over T) places i (Retired receipt) all at) in
        let counts = and_parts (nat_le receipt.arrived receipt.pushed) (nat_le receipt.taken receipt.handed) own.1 in
        let number : receipt.conn ≡ i = (receipts i receipt (ap receipt_of at)).tells.conn in
        let dead : is_alive i T ≡ false = subst (λ (n : ℕ). is_alive n T ≡ false) number (not_false (is_alive receipt.conn T) own.0) in
        record {
          receipt = receipt;
          retired = ap receipt_of at;
          closed = closed_some (close_in i T) (is_alive i T) (alive_unclosed i T (numbered.old i (slice_get_within places i (Retired receipt) at))) dead;
          arrived = leb-true receipt.arrived receipt.pushed counts.0;
          taken = leb-true receipt.taken receipt.handed counts.1;
        }

    told_by : AreOver places T → (i : ℕ) (place : Place) → slice_get places i ≡ Some place → is_place_over T place ≡ true
    told_by all i (Seated line) at =
        let o = all i (ever i T (numbered.old i (slice_get_within places i (Seated line) at))) in
        let none : receipt_at places i ≡ None = ap receipt_of at in
        let some = o.retired in
        absurd (cc)
    told_by all i (Retired receipt) at =
        let en = numbered.old i (slice_get_within places i (Retired receipt) at) in
        let o = all i (ever i T en) in
        let here : receipt_at places i ≡ Some receipt = ap receipt_of at in
        let some = o.retired in
        let same : o.receipt ≡ receipt = cc in
        let number : receipt.conn ≡ i = (receipts i receipt here).tells.conn in
        and_both (not (is_alive receipt.conn T)) (nat_le receipt.arrived receipt.pushed && nat_le receipt.taken receipt.handed)
        (subst (λ (n : ℕ). not (is_alive n T) ≡ true) (sym number) (closed_dead (close_in i T) (is_alive i T) (alive_unclosed i T en) o.closed))
        (and_both (nat_le receipt.arrived receipt.pushed) (nat_le receipt.taken receipt.handed)
        (le-leb receipt.arrived receipt.pushed (subst (λ (r : Receipt). r.arrived ≤ r.pushed) same o.arrived))
        (le-leb receipt.taken receipt.handed (subst (λ (r : Receipt). r.taken ≤ r.handed) same o.taken)))

-- A hub is closed.
pub closes_with : (stands : List HistoryEntry → Type 0) (told : Option (List Noted)) (faults : ℕ) (desk : Desk) (T : List HistoryEntry) → Keeps stands told faults desk T → ClosesWith told desk (receipts_of desk) T
closes_with stands told faults desk T k = record {
  noted = k.underway.noted;
  each = λ i en. each_by i en (slice_get desk.places.items i) refl;
  others = λ i never. ap (receipt_in i (fall_heard desk.fall) desk.ending) (others_by i never (slice_get desk.places.items i) refl);
  count = refl;
  bound = k.underway.numbered.bound;
}
  where
    each_by : (i : ℕ) → ever_entered i T ≡ true → (found : Option Place) → slice_get desk.places.items i ≡ found → HasReceipt i desk (receipts_of desk) T
    each_by i en None at = elim (slice_get_cases desk.places.items i).1 [
      | inl w ↦ let some = w.2 in absurd (cc)
      | inr w ↦ let never = k.underway.numbered.new i w.0 in absurd (cc)
    ]
    each_by i en (Some (Seated line)) at =
        let here : line_at desk.places.items i ≡ Some line.value = ap line_of at in
        record {
          receipt = receipt_for i line.value 0 0 (fall_heard desk.fall) desk.ending;
          here = ap (receipt_in i (fall_heard desk.fall) desk.ending) at;
          tells = life_so i 0 0 line.value stands told faults desk T here k;
          kept = inr (record { seated = (line.value, here); pushed = refl; taken = refl });
        }
    each_by i en (Some (Retired receipt)) at = record {
      receipt = receipt;
      here = ap (receipt_in i (fall_heard desk.fall) desk.ending) at;
      tells = (k.underway.receipts i receipt (ap receipt_of at)).tells;
      kept = inl (ap receipt_of at);
    }

    others_by : (i : ℕ) → ever_entered i T ≡ false → (found : Option Place) → slice_get desk.places.items i ≡ found → slice_get desk.places.items i ≡ None
    others_by i never None at = at
    others_by i never (Some place) at =
        let en = ever i T (k.underway.numbered.old i (slice_get_within desk.places.items i place at)) in
        absurd (cc)
