-- What is in line changes, and nothing else.
use Rattle.std.proofs.Common.{◌≡◌, ◌∙◌, ℕ, ◌<◌, ◌≤◌, Bool, true, false, cond, ◌==◌, List, [], ◌∷◌, ◌++◌, length, Option, Some, None, refl, sym, ap, subst, inl, inr, arith}
use Rattle.std.specs.Option.{option_or}
use Rattle.std.proofs.lemmas.Bool.{eqb-true, eq-eqb}
use Rattle.std.proofs.lemmas.List.{append-nil}
use Rattle.gate_outside.specs.Causes.{Rose}
use Rattle.gate_transcript.specs.declared.entry.Entry.{Entry as Noted}
use Rattle.gate_transcript.specs.declared.recorder.NoteFault.{NoteFault}
use Rattle.gate_transcript.specs.declared.recorder.NoteFault.TheVariants as notes
use Rattle.rtsp_head.specs.declared.item.Item.{Item}
use Rattle.rtsp_head.specs.Items.{Shape}
use Rattle.rtsp_head.specs.Shapes.{shape_of}
use Rattle.client_ports.specs.declared.parcel.Parcel.{Parcel}
use Rattle.client_ports.specs.declared.putter.Putter.{Putter}
use Rattle.client_ports.specs.Ends.{put_of, taken_of, fulls_of}
use Rattle.gateway_claim.specs.declared.event.Event.{Event}
use Rattle.gateway_claim.specs.declared.event.Event.TheVariants as events
use Rattle.gateway_claim.specs.Happenings.{Happening, HistoryEntry, takes, is_alive}
use Rattle.hub_queues.specs.declared.ending.Ending.{Ending}
use Rattle.hub_queues.specs.declared.ending.Ending.TheVariants.{Stopped}
use Rattle.gateway_hub.specs.declared.fault.HubFault.{HubFault}
use Rattle.hub_queues.specs.declared.ending.StopWhy.TheVariants as stops
use Rattle.hub_queues.specs.declared.receipt.Close.{Close}
use Rattle.hub_queues.specs.declared.line.HubConnection.{HubConnection}
use Rattle.hub_queues.specs.declared.line.Place.{Place}
use Rattle.hub_queues.specs.declared.server.Server.{Server}
use Rattle.gateway_hub.specs.declared.desk.Desk.{Desk}
use Rattle.hub_queues.specs.Closes.{fall_close}
use Rattle.gateway_hub.specs.Desks.{fall_heard}
use Rattle.gateway_hub.proofs.SettleLemmas.{excused_as, receipt_as}
use Rattle.hub_queues.specs.Parcels.{items_in, waiting, arrival_here, arrivals, heard_items, coming}
use Rattle.hub_queues.specs.Places.{line_at, receipt_at, Changes, LineChanges, FetchesLine, PutsFirst}
use Rattle.gateway_hub.specs.Keeps.{TookItems, TookServerItems, IsHanded, IsHandedUp, AreNumbered, Underway, ArePortsSettled, EndsRightly, Keeps, is_server_excused}
use Rattle.gateway_hub.specs.Take.{IsUntaken, HasInHand}
use Rattle.gateway_hub.specs.Calls.{GivesBack, Refuses, Stays, Fails, IsEmptyLine}
use Rattle.gateway_hub.proofs.LineLemmas.{was_before, KeepsPart, part_kept}
use Rattle.gateway_hub.proofs.TakeLemmas.{living_line}
use Rattle.gateway_hub.proofs.OweLemmas.{ends_later, stop_keeps}

-- what a line's end in the port for its client did
abbrev pub put_and_fulls : HubConnection → List Parcel × ℕ
put_and_fulls line = (put_of line.outward, fulls_of line.outward)

-- Only what is in line changed.
pub record OnlyInward (before now : Desk) : Type 0 where
  pub arrived : KeepsPart (λ (l : HubConnection). l.arrived) before.places.items now.places.items
  pub close : KeepsPart (λ (l : HubConnection). l.close) before.places.items now.places.items
  pub outward : KeepsPart put_and_fulls before.places.items now.places.items
  pub receipts : (i : ℕ) → receipt_at now.places.items i ≡ receipt_at before.places.items i
  pub size : length now.places.items ≡ length before.places.items
  pub server : now.server.outward ≡ before.server.outward
  pub fall : now.fall ≡ before.fall
  pub ending : now.ending ≡ before.ending

pub underway_inward : (stands : List HistoryEntry → Type 0) (told : Option (List Noted)) (before now : Desk) (came coming_now T : List HistoryEntry) → OnlyInward before now → TookItems now.places.items coming_now → TookServerItems now.server coming_now → Underway stands told before came T
    → Underway stands told now coming_now T
underway_inward stands told before now came coming_now T only took took_up u = record {
  stood = u.stood;
  noted = u.noted;
  took = took;
  took_up = took_up;
  arrived = λ i line at. let w = only.arrived i line at in w.2 ∙ u.arrived i w.0 w.1;
  closed = λ i line at.
      let w = only.close i line at in
      u.closed i w.0 w.1 ∙ ap (λ (c : Option Close). option_or c (fall_close (fall_heard before.fall))) (sym w.2) ∙ ap (λ (f : Option Bool). option_or line.close (fall_close f)) (sym (ap fall_heard only.fall));
  fell = ap fall_heard only.fall ∙ u.fell;
  handed = λ i line at. let w = only.outward i line at in subst (λ (p : List Parcel × ℕ). IsHanded i p.0 p.1 T) (sym w.2) (u.handed i w.0 w.1);
  up_handed = subst (λ (p : Putter). IsHandedUp (put_of p) (fulls_of p) T) (sym only.server) u.up_handed;
  receipts = λ i receipt at. receipt_as i receipt before.fall now.fall before.ending now.ending T only.fall only.ending (u.receipts i receipt (sym (only.receipts i) ∙ at));
  numbered = subst (λ (n : ℕ). AreNumbered n T) (sym only.size) u.numbered;
}

pub settled_inward : (before now : Desk) (client : Option ℕ) (server : Bool) (T : List HistoryEntry) → OnlyInward before now → ArePortsSettled client server before T → ArePortsSettled client server now T
settled_inward before now client server T only s = record {
  clients = λ i line at some.
      let w = only.outward i line at in
      excused_as i client before.fall now.fall before.ending now.ending T only.fall only.ending (s.clients i w.0 w.1 (subst (λ (p : List Parcel × ℕ). 0 < p.1) w.2 some));
  up = λ some. subst (λ (e : Option Ending). is_server_excused server e T ≡ true) (sym only.ending) (s.up (subst (λ (p : Putter). 0 < fulls_of p) only.server some));
}

pub cause_inward : (faults : ℕ) (before now : Desk) (T : List HistoryEntry) → OnlyInward before now → EndsRightly faults (length before.places.items) before.ending T → EndsRightly faults (length now.places.items) now.ending T
cause_inward faults before now T only is = subst (λ (n : ℕ). EndsRightly faults n now.ending T) (sym only.size) (subst (λ (e : Option Ending). EndsRightly faults (length before.places.items) e T) (sym only.ending) is)

-- A line's item was fetched.
next_inward : (conn : ℕ) (item : Option Item) (before now : Desk) → LineChanges conn (FetchesLine item) before.places.items now.places.items → now.server ≡ before.server → now.fall ≡ before.fall → now.ending ≡ before.ending → OnlyInward before now
next_inward conn item before now changes server fall ending = record {
  arrived = part_kept (λ (l : HubConnection). l.arrived) conn (FetchesLine item) before.places.items now.places.items (λ w n f. f.arrived) changes;
  close = part_kept (λ (l : HubConnection). l.close) conn (FetchesLine item) before.places.items now.places.items (λ w n f. f.close) changes;
  outward = part_kept put_and_fulls conn (FetchesLine item) before.places.items now.places.items (λ w n f. ap (λ (p : Putter). (put_of p, fulls_of p)) f.outward) changes;
  receipts = changes.receipts;
  size = changes.size;
  server = ap (λ (s : Server). s.outward) server;
  fall = fall;
  ending = ending;
}

-- what a line has after its item was fetched
after_fetch : (conn i : ℕ) (item : Item) → (conn == i) ≡ true → arrival_here i (takes conn (shape_of item)) ≡ shape_of item ∷ []
after_fetch conn i item here = ap (λ b. cond b (shape_of item ∷ []) []) here

took_next : (conn : ℕ) (item : Item) (before now : List Place) (T : List HistoryEntry) → LineChanges conn (FetchesLine (Some item)) before now → TookItems before T → TookItems now (coming (takes conn (shape_of item)) ∷ T)
took_next conn item before now T changes took i line at =
    let w = was_before conn (FetchesLine (Some item)) before now changes i line at in
    elim w.2 [
      | inl c ↦
          ap (λ (l : List Shape). (arrivals i T ++ l) ++ waiting line.first) (after_fetch conn i item c.0)
          ∙ ap (λ (f : Option Item). (arrivals i T ++ shape_of item ∷ []) ++ waiting f) c.1.fetches.none
          ∙ append-nil (arrivals i T ++ shape_of item ∷ [])
          ∙ c.1.fetches.items (arrivals i T) (took i w.0 w.1)
      | inr e ↦
          ap (λ (b : Bool). (arrivals i T ++ cond b (shape_of item ∷ []) []) ++ waiting line.first) e.0
          ∙ ap (λ (l : List Shape). l ++ waiting line.first) (append-nil (arrivals i T))
          ∙ subst (λ (l : HubConnection). arrivals i T ++ waiting l.first ≡ items_in (taken_of l.inward)) (sym e.1) (took i w.0 w.1)
    ]

took_none : (conn : ℕ) (before now : List Place) (T : List HistoryEntry) → LineChanges conn (FetchesLine None) before now → TookItems before T → TookItems now T
took_none conn before now T changes took i line at =
    let w = was_before conn (FetchesLine None) before now changes i line at in
    elim w.2 [
      | inl c ↦ ap (λ (f : Option Item). arrivals i T ++ waiting f) c.1.fetches.none ∙ c.1.fetches.items (arrivals i T) (took i w.0 w.1)
      | inr e ↦ subst (λ (l : HubConnection). arrivals i T ++ waiting l.first ≡ items_in (taken_of l.inward)) (sym e.1) (took i w.0 w.1)
    ]

forward_by : (here : Bool) (change : HubConnection → HubConnection → Type 0) (line : HubConnection) (now : Option HubConnection) → Changes here change (Some line) now → (new : HubConnection) × (now ≡ Some new)
forward_by false change line now changes = (line, changes)
forward_by true change line now changes = (changes.0, changes.1)

pub line_forward : (conn i : ℕ) (change : HubConnection → HubConnection → Type 0) (before now : List Place) → LineChanges conn change before now → (line : HubConnection) → line_at before i ≡ Some line → (new : HubConnection) × (line_at now i ≡ Some new)
line_forward conn i change before now changes line at =
    forward_by (conn == i) change line (line_at now i) (subst (λ (l : Option HubConnection). Changes (conn == i) change l (line_at now i)) at (changes.lines i))

-- An item comes from a connection that has a line.
no_arrival : (conn i : ℕ) (shape : Shape) (places : List Place) → (line : HubConnection) × (line_at places conn ≡ Some line) → line_at places i ≡ None → arrival_here i (takes conn shape) ≡ []
no_arrival conn i shape places has none = by (conn == i) refl
  where
    by : (here : Bool) → (conn == i) ≡ here → cond here (shape ∷ []) [] ≡ []
    by false other = refl
    by true same = let some : line_at places i ≡ Some has.0 = ap (λ n. line_at places n) (sym (eqb-true conn i same)) ∙ has.1 in absurd (cc)

-- A client's item is in hand.
pub in_hand : (conn : ℕ) (item : Item) (stands : List HistoryEntry → Type 0) (told : Option (List Noted)) (faults : ℕ) (before now : Desk) (T : List HistoryEntry) → LineChanges conn (FetchesLine (Some item)) before.places.items now.places.items → now.server ≡ before.server → now.fall ≡ before.fall
    → now.ending ≡ before.ending → before.ending ≡ None → is_alive conn T ≡ true → Keeps stands told faults before T → HasInHand (takes conn (shape_of item)) stands told faults now T
in_hand conn item stands told faults before now T changes server fall ending still_open alive k =
    let only = next_inward conn (Some item) before now changes server fall ending in
    let line = living_line before.places.items before.fall before.ending T conn k.underway.numbered (k.underway.receipts conn) still_open alive in
    record {
      underway = underway_inward stands told before now T (coming (takes conn (shape_of item)) ∷ T) T only (took_next conn item before.places.items now.places.items T changes k.underway.took)
          (ap (λ (l : List Shape). l ++ waiting now.server.first) (append-nil (heard_items T)) ∙ subst (λ (s : Server). TookServerItems s T) (sym server) k.underway.took_up) k.underway;
      settled = settled_inward before now None false T only k.settled;
      cause = cause_inward faults before now T only k.cause;
      still_open = ending ∙ still_open;
      early = refl;
      seated = λ i none. no_arrival conn i (shape_of item) now.places.items (line_forward conn conn (FetchesLine (Some item)) before.places.items now.places.items changes line.0 line.1) none;
    }

-- Nothing was in line.
pub none_in_line : (conn : ℕ) (stands : List HistoryEntry → Type 0) (told : Option (List Noted)) (faults : ℕ) (before now : Desk) (T : List HistoryEntry) → LineChanges conn (FetchesLine None) before.places.items now.places.items → now.server ≡ before.server → now.fall ≡ before.fall
    → now.ending ≡ before.ending → Keeps stands told faults before T → Keeps stands told faults now T
none_in_line conn stands told faults before now T changes server fall ending k =
    let only = next_inward conn None before now changes server fall ending in
    record {
      underway = underway_inward stands told before now T T T only (took_none conn before.places.items now.places.items T changes k.underway.took) (subst (λ (s : Server). TookServerItems s T) (sym server) k.underway.took_up) k.underway;
      settled = settled_inward before now None false T only k.settled;
      cause = cause_inward faults before now T only k.cause;
      owed = λ c is. absurd (cc);
      owed_up = λ is. absurd (cc);
    }

here_false : (conn : ℕ) → (conn == conn) ≡ false → ⊥
here_false conn is = let here = eq-eqb conn conn refl in cc

fetched_line : (conn : ℕ) (item : Option Item) (before now : List Place) → LineChanges conn (FetchesLine item) before now → (line : HubConnection) → line_at now conn ≡ Some line → (was : HubConnection) × FetchesLine item was line
fetched_line conn item before now changes line at =
    let w = was_before conn (FetchesLine item) before now changes conn line at in
    elim w.2 [ inl c ↦ (w.0, c.1) | inr e ↦ absurd (here_false conn e.0) ]

pub empty_line : (conn : ℕ) (stands : List HistoryEntry → Type 0) (told : Option (List Noted)) (faults : ℕ) (before now : Desk) (T : List HistoryEntry) → LineChanges conn (FetchesLine None) before.places.items now.places.items → before.ending ≡ None → is_alive conn T ≡ true
    → Keeps stands told faults before T → IsEmptyLine conn now.places.items
empty_line conn stands told faults before now T changes still_open alive k =
    let line = living_line before.places.items before.fall before.ending T conn k.underway.numbered (k.underway.receipts conn) still_open alive in
    let new = line_forward conn conn (FetchesLine None) before.places.items now.places.items changes line.0 line.1 in
    let f = fetched_line conn None before.places.items now.places.items changes new.0 new.1 in
    record { line = new.0; at = new.1; none = f.1.fetches.none; empty = f.1.fetches.empty refl }

-- An item is put back.
took_back : (conn : ℕ) (item : Item) (before now : List Place) (T : List HistoryEntry) → LineChanges conn (PutsFirst item) before now → ((line : HubConnection) → line_at before conn ≡ Some line → line.first ≡ None) → TookItems before (coming (takes conn (shape_of item)) ∷ T) → TookItems now T
took_back conn item before now T changes free took i line at =
    let w = was_before conn (PutsFirst item) before now changes i line at in
    elim w.2 [
      | inl c ↦
          let none : w.0.first ≡ None = free w.0 (ap (λ n. line_at before n) (eqb-true conn i c.0) ∙ w.1) in
          ap (λ (f : Option Item). arrivals i T ++ waiting f) c.1.first
          ∙ ap (λ (l : List Shape). arrivals i T ++ l) (sym (after_fetch conn i item c.0))
          ∙ sym (append-nil (arrivals i T ++ arrival_here i (takes conn (shape_of item))))
          ∙ ap (λ (f : Option Item). (arrivals i T ++ arrival_here i (takes conn (shape_of item))) ++ waiting f) (sym none)
          ∙ took i w.0 w.1
          ∙ ap (λ t. items_in (taken_of t)) (sym c.1.inward)
      | inr e ↦
          ap (λ (l : HubConnection). arrivals i T ++ waiting l.first) e.1
          ∙ ap (λ (l : List Shape). l ++ waiting w.0.first) (sym (append-nil (arrivals i T)) ∙ ap (λ (b : Bool). arrivals i T ++ cond b (shape_of item ∷ []) []) (sym e.0))
          ∙ took i w.0 w.1
          ∙ ap (λ (l : HubConnection). items_in (taken_of l.inward)) (sym e.1)
    ]

back_inward : (conn : ℕ) (item : Item) (before now : Desk) → GivesBack (events.Client conn item) before now → OnlyInward before now
back_inward conn item before now back = record {
  arrived = part_kept (λ (l : HubConnection). l.arrived) conn (PutsFirst item) before.places.items now.places.items (λ w n f. f.arrived) back.lines;
  close = part_kept (λ (l : HubConnection). l.close) conn (PutsFirst item) before.places.items now.places.items (λ w n f. f.close) back.lines;
  outward = part_kept put_and_fulls conn (PutsFirst item) before.places.items now.places.items (λ w n f. ap (λ (p : Putter). (put_of p, fulls_of p)) f.outward) back.lines;
  receipts = back.lines.receipts;
  size = back.lines.size;
  server = ap (λ (s : Server). s.outward) back.server;
  fall = back.fall;
  ending = back.ending;
}

-- What was kept is kept after an event that was not taken.
underway_untaken : (fault : NoteFault) (stood stands : List HistoryEntry → Type 0) (told tells : Option (List Noted)) (faults later : ℕ) (before mid now : Desk) (T : List HistoryEntry) → IsUntaken fault stood stands told tells faults later before mid → Underway stood told now T T → Underway stands tells now T T
underway_untaken fault stood stands told tells faults later before mid now T untaken u = record {
  stood = untaken.stays T u.stood;
  noted = untaken.notes T u.noted;
  took = u.took;
  took_up = u.took_up;
  arrived = u.arrived;
  closed = u.closed;
  fell = u.fell;
  handed = u.handed;
  up_handed = u.up_handed;
  receipts = u.receipts;
  numbered = u.numbered;
}

pub rose_some : (before now : ℕ) → Rose before now → 0 < now
rose_some before now rose = omega arith

pub refused_keeps : (fault : NoteFault) (answer : HubFault) (h : Happening) (stood stands : List HistoryEntry → Type 0) (told tells : Option (List Noted)) (faults later : ℕ) (before mid back now : Desk) (T : List HistoryEntry) → HasInHand h stood told faults before T
    → IsUntaken fault stood stands told tells faults later before mid → faults ≤ later → OnlyInward before back → TookItems back.places.items T → TookServerItems back.server T → Refuses fault answer back now → Keeps stands tells later now T
refused_keeps fault answer h stood stands told tells faults later before mid back now T hand untaken more only took took_up refuses = by fault untaken.rose refuses
  where
    kept : Keeps stands tells later back T
    kept = record {
      underway = underway_untaken fault stood stands told tells faults later before mid back T untaken (underway_inward stood told before back (coming h ∷ T) T T only took took_up hand.underway);
      settled = settled_inward before back None false T only hand.settled;
      cause = ends_later faults later (length back.places.items) back.ending T more (cause_inward faults before back T only hand.cause);
      owed = λ c is. absurd (cc);
      owed_up = λ is. absurd (cc);
    }

    by : (f : NoteFault) → (f ≡ notes.Failed → Rose faults later) → Refuses f answer back now → Keeps stands tells later now T
    by notes.Memory rose r = subst (λ (d : Desk). Keeps stands tells later d T) (sym r.1) kept
    by notes.Failed rose r = stop_keeps stands tells later back now stops.Record r.1 (λ _. rose_some faults later (rose refl)) (λ no_spent. absurd (cc)) T kept

pub fails_so : (fault : NoteFault) (answer : HubFault) (kept keeps : List HistoryEntry → Type 0) (ending : Option Ending) (back now : Desk) → Refuses fault answer back now → ending ≡ None → back.ending ≡ None → Stays kept keeps → Fails answer kept keeps ending now.ending
fails_so notes.Memory answer kept keeps ending back now refuses none back_none stays =
    subst (λ (a : HubFault). Fails a kept keeps ending now.ending) (sym refuses.0) (none, stays, ap (λ (d : Desk). d.ending) refuses.1 ∙ back_none)
fails_so notes.Failed answer kept keeps ending back now refuses none back_none stays =
    subst (λ (a : HubFault). Fails a kept keeps ending now.ending) (sym refuses.0) (none, stays, refuses.1.ending ∙ ap (λ (e : Option Ending). option_or e (Some (Stopped stops.Record))) back_none)

-- A client's item was refused.
pub client_refused : (conn : ℕ) (item : Item) (fault : NoteFault) (answer : HubFault) (event : Event) (stood stands : List HistoryEntry → Type 0) (told tells : Option (List Noted)) (faults later : ℕ) (start before mid back now : Desk) (alive : (T : List HistoryEntry) → stood T → is_alive conn T ≡ true)
    → LineChanges conn (FetchesLine (Some item)) start.places.items before.places.items → before.server ≡ start.server → before.fall ≡ start.fall → before.ending ≡ start.ending → start.ending ≡ None
    → event ≡ events.Client conn item → IsUntaken fault stood stands told tells faults later before mid → faults ≤ later → GivesBack event mid back → Refuses fault answer back now
    → Fails answer (Keeps stood told faults start) (Keeps stands tells later now) start.ending now.ending
client_refused conn item fault answer event stood stands told tells faults later start before mid back now alive changes server fall ending still_open is untaken more gives refuses =
    let back_from : GivesBack (events.Client conn item) before back = subst (λ (d : Desk). GivesBack (events.Client conn item) d back) untaken.same_desk (subst (λ (e : Event). GivesBack e mid back) is gives) in
    let only = back_inward conn item before back back_from in
    fails_so fault answer (Keeps stood told faults start) (Keeps stands tells later now) start.ending back now refuses still_open (only.ending ∙ ending ∙ still_open)
    (λ T k.
    let hand = in_hand conn item stood told faults start before T changes server fall ending still_open (alive T k.underway.stood) k in
    refused_keeps fault answer (takes conn (shape_of item)) stood stands told tells faults later before mid back now T hand untaken more only
    (took_back conn item before.places.items back.places.items T back_from.lines (λ line at. (fetched_line conn (Some item) start.places.items before.places.items changes line at).1.fetches.none) hand.underway.took)
    (subst (λ (s : Server). TookServerItems s T) (sym back_from.server) (ap (λ (l : List Shape). l ++ waiting before.server.first) (sym (append-nil (heard_items T))) ∙ hand.underway.took_up))
    refuses)
