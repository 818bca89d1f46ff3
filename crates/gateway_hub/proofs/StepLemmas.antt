-- One event more: what a hub keeps of its lines.
use Rattle.std.proofs.Common.{◌≡◌, ◌∙◌, ℕ, ◌<◌, ◌≤◌, ◌+◌, Bool, true, false, cond, ◌==◌, List, [], ◌∷◌, ◌++◌, length, Option, Some, None, refl, sym, ap, subst, inl, inr, arith}
use Rattle.std.specs.Prelude.{is_some}
use Rattle.std.specs.Option.{option_or}
use Rattle.std.proofs.lemmas.List.{append-nil, length-append}
use Rattle.rtsp_head.specs.declared.item.Item.{Item}
use Rattle.rtsp_head.specs.Items.{Shape}
use Rattle.client_ports.specs.declared.parcel.Parcel.{Parcel}
use Rattle.client_ports.specs.declared.parcel.Parcel.TheVariants as parcels
use Rattle.client_ports.specs.declared.taker.Taker.{Taker}
use Rattle.client_ports.specs.Ends.{taken_of}
use Rattle.gateway_claim.specs.declared.event.Closed.{Closed}
use Rattle.gateway_claim.specs.declared.event.Closed.TheVariants.{Nobody, One, All}
use Rattle.gateway_claim.specs.declared.event.Outcome.{Outcome}
use Rattle.gateway_claim.specs.Happenings.{Happening, HistoryEntry, enters, takes, ends, lags, hears, up_ends, entered}
use Rattle.hub_queues.specs.declared.line.HubConnection.{HubConnection}
use Rattle.hub_queues.specs.declared.line.Place.{Place}
use Rattle.hub_queues.specs.Closes.{is_heard, closing, close_in, fall_by, fall_in, fall_close}
use Rattle.gateway_hub.specs.Notes.{asker_noted}
use Rattle.hub_queues.specs.Parcels.{items_in, waiting, arrival_here, arrivals, coming}
use Rattle.hub_queues.specs.Places.{line_at, CountsItem, ClosesOne}
use Rattle.gateway_hub.specs.Desks.{CountsOne}
use Rattle.gateway_hub.specs.Keeps.{TookItems}
use Rattle.gateway_hub.proofs.OrderLemmas.{Orders}
use Rattle.gateway_hub.proofs.HistoryLemmas.{entry, ClosesTo, close_more}
use Rattle.gateway_hub.proofs.LineLemmas.{was_before, KeepsPart}

-- The items among some parcels are no more than the parcels.
pub items_fewer : (put : List Parcel) → length (items_in put) ≤ length put
items_fewer [] = omega arith
items_fewer (parcels.Item item ∷ put) = let h = items_fewer put in omega arith
items_fewer (parcels.Bytes text ∷ put) = let h = items_fewer put in omega arith

-- the part of a line that an event keeps: what its client sent
abbrev pub incoming : HubConnection → Taker × Option Item
incoming line = (line.inward, line.first)

pub took_same : (before after : List Place) (came : List HistoryEntry) → KeepsPart incoming before after → TookItems before came → TookItems after came
took_same before after came kept took i now is =
    let w = kept i now is in
    subst (λ (p : Taker × Option Item). arrivals i came ++ waiting p.1 ≡ items_in (taken_of p.0)) (sym w.2) (took i w.0 w.1)

-- A line counts its arrivals.
abbrev pub CountsArrivals : List Place → List HistoryEntry → Type 0
CountsArrivals places history = (i : ℕ) (line : HubConnection) → line_at places i ≡ Some line → line.arrived ≡ length (arrivals i history)

here_none : (i : ℕ) (h : Happening) → asker_noted h ≡ None → arrival_here i h ≡ []
here_none i (enters conn) is = refl
here_none i (takes conn shape) is = cc
here_none i (ends conn) is = refl
here_none i (lags conn) is = refl
here_none i (hears shape) is = refl
here_none i (up_ends why) is = refl

here_other : (i conn : ℕ) (h : Happening) → asker_noted h ≡ Some conn → (conn == i) ≡ false → arrival_here i h ≡ []
here_other i conn (enters c) is other = cc
here_other i conn (takes c shape) is other = let same : c ≡ conn = cc in ap (λ (n : ℕ). cond (n == i) (shape ∷ []) []) same ∙ ap (λ b. cond b (shape ∷ []) []) other
here_other i conn (ends c) is other = cc
here_other i conn (lags c) is other = cc
here_other i conn (hears s) is other = cc
here_other i conn (up_ends why) is other = cc

here_one : (i conn : ℕ) (h : Happening) → asker_noted h ≡ Some conn → (conn == i) ≡ true → length (arrival_here i h) ≡ 1
here_one i conn (enters c) is other = cc
here_one i conn (takes c shape) is same = let e : c ≡ conn = cc in ap (λ (n : ℕ). length (cond (n == i) (shape ∷ []) [])) e ∙ ap (λ b. length (cond b (shape ∷ []) [])) same
here_one i conn (ends c) is other = cc
here_one i conn (lags c) is other = cc
here_one i conn (hears s) is other = cc
here_one i conn (up_ends why) is other = cc

more_arrived : (i : ℕ) (T : List HistoryEntry) (h : Happening) (o : Outcome) → length (arrivals i (entry h o ∷ T)) ≡ length (arrivals i T) + length (arrival_here i h)
more_arrived i T h o = length-append (arrivals i T) (arrival_here i h)

pub arrived_more : (before after : List Place) (T : List HistoryEntry) (h : Happening) (o : Outcome) → TookItems before (coming h ∷ T) → CountsArrivals before T → CountsOne (asker_noted h) before after → CountsArrivals after (entry h o ∷ T)
arrived_more before after T h o took counts counted = by (asker_noted h) refl counted
  where
    by : (asker : Option ℕ) → asker_noted h ≡ asker → CountsOne asker before after → CountsArrivals after (entry h o ∷ T)
    by None is same i line at =
        counts i line (ap (λ (l : List Place). line_at l i) (sym same) ∙ at)
        ∙ ap (λ (l : List Shape). length l) (sym (append-nil (arrivals i T)) ∙ ap (λ (l : List Shape). arrivals i T ++ l) (sym (here_none i h is)))
    by (Some conn) is changes i line at =
        let w = was_before conn CountsItem before after changes i line at in
        let n = more_arrived i T h o in
        let k = counts i w.0 w.1 in
        elim w.2 [
          | inl c ↦
              let one = here_one i conn h is c.0 in
              let fits = items_fewer (taken_of w.0.inward) in
              let all = ap (λ (l : List Shape). length l) (took i w.0 w.1) in
              let sizes = length-append (arrivals i (coming h ∷ T)) (waiting w.0.first) in
              let m = more_arrived i T h (coming h).outcome in
              let room = w.0.inward.counted in
              let less : w.0.arrived < w.0.inward.count = omega arith in
              let up = c.1.arrived less in
              omega arith
          | inr e ↦
              ap (λ (l : HubConnection). l.arrived) e.1
              ∙ k
              ∙ ap (λ (l : List Shape). length l) (sym (append-nil (arrivals i T)) ∙ ap (λ (l : List Shape). arrivals i T ++ l) (sym (here_other i conn h is e.0)))
        ]

-- A line knows its close.
abbrev pub KnowsCloses : List Place → Option Bool → List HistoryEntry → Type 0
KnowsCloses places fall history = (i : ℕ) (line : HubConnection) → line_at places i ≡ Some line → close_in i history ≡ option_or line.close (fall_close fall)

pub closes_more : (before after : List Place) (fall fell : Option Bool) (T : List HistoryEntry) (h : Happening) (o : Outcome) → Orders T h o → ((i : ℕ) (line : HubConnection) → line_at before i ≡ Some line → entered i T ≡ true) → fall ≡ fall_in T
    → KnowsCloses before fall T → ClosesOne (is_heard h) o.closed before after → fell ≡ option_or fall (fall_by (is_some o.fault) (is_heard h)) → KnowsCloses after fell (entry h o ∷ T)
closes_more before after fall fell T h o orders en knows closes closed falls = by o.closed refl closed
  where
    by : (c : Closed) → o.closed ≡ c → ClosesOne (is_heard h) c before after → KnowsCloses after fell (entry h o ∷ T)
    by Nobody is e i line at =
        let was : line_at before i ≡ Some line = ap (λ (l : List Place). line_at l i) (sym e) ∙ at in
        close_more i T h o line.close fall orders (en i line was) knows (closes i line was) line.close fell falls
        (λ c same. subst (ClosesTo i (is_heard h) line.close line.close) (sym is ∙ same) refl)
    by All is e i line at =
        let was : line_at before i ≡ Some line = ap (λ (l : List Place). line_at l i) (sym e) ∙ at in
        close_more i T h o line.close fall orders (en i line was) knows (closes i line was) line.close fell falls
        (λ c same. subst (ClosesTo i (is_heard h) line.close line.close) (sym is ∙ same) refl)
    by (One conn why) is changes i line at =
        let w = was_before conn _ before after changes i line at in
        close_more i T h o w.0.close fall orders (en i w.0 w.1) knows (closes i w.0 w.1) line.close fell falls
        (λ c same. subst (ClosesTo i (is_heard h) w.0.close line.close) (sym is ∙ same)
        (elim w.2 [
          | inl x ↦ x.1.close ∙ ap (λ b. cond b (option_or w.0.close (Some (closing why (is_heard h)))) w.0.close) (sym x.0)
          | inr x ↦ ap (λ (l : HubConnection). l.close) x.1 ∙ ap (λ b. cond b (option_or w.0.close (Some (closing why (is_heard h)))) w.0.close) (sym x.0)
        ]))
