-- The server's item is taken or put back, an event that no item is comes, or a connection can't enter: no line changes.
use Rattle.std.proofs.Common.{◌≡◌, ◌∙◌, ℕ, ◌≤◌, true, false, List, [], ◌∷◌, ◌++◌, length, Option, Some, None, Ok, refl, sym, ap, subst}
use Rattle.std.specs.Prelude.{is_some}
use Rattle.std.specs.Global.{Vec}
use Rattle.std.proofs.lemmas.List.{append-nil}
use Rattle.gate_outside.specs.Causes.{Rose}
use Rattle.gate_transcript.specs.declared.entry.Entry.{Entry as Noted}
use Rattle.gate_transcript.specs.declared.recorder.NoteFault.{NoteFault}
use Rattle.gate_transcript.specs.declared.recorder.NoteFault.TheVariants as notes
use Rattle.rtsp_head.specs.declared.item.Item.{Item}
use Rattle.rtsp_head.specs.Items.{Shape}
use Rattle.rtsp_head.specs.Shapes.{shape_of}
use Rattle.client_ports.specs.Ends.{taken_of}
use Rattle.gateway_claim.specs.declared.event.Event.{Event}
use Rattle.gateway_claim.specs.declared.event.Event.TheVariants as events
use Rattle.gateway_claim.specs.Happenings.{Happening, HistoryEntry, ends, hears}
use Rattle.gateway_hub.specs.declared.fault.HubFault.{HubFault}
use Rattle.hub_queues.specs.declared.ending.StopWhy.TheVariants as stops
use Rattle.hub_queues.specs.declared.line.HubConnection.{HubConnection}
use Rattle.hub_queues.specs.declared.line.Place.{Place}
use Rattle.hub_queues.specs.declared.server.Server.{Server}
use Rattle.gateway_hub.specs.declared.desk.Desk.{Desk}
use Rattle.gateway_hub.specs.Notes.{TellsNotes, StillTells}
use Rattle.hub_queues.specs.Parcels.{items_in, waiting, arrival_here, arrivals, heard_here, heard_items, coming}
use Rattle.hub_queues.specs.Places.{line_at, receipt_at}
use Rattle.hub_queues.specs.Servers.{FetchesUp}
use Rattle.gateway_hub.specs.Keeps.{TookItems, TookServerItems, Keeps}
use Rattle.gateway_hub.specs.Take.{IsUntaken, HasInHand, is_late}
use Rattle.gateway_hub.specs.Calls.{GivesBack, Refuses, Stays, GrowsBy, Fails, Shuts}
use Rattle.gateway_hub.proofs.LineLemmas.{part_same}
use Rattle.gateway_hub.proofs.OweLemmas.{ends_later, stop_keeps, underway_idle}
use Rattle.gateway_hub.proofs.InwardLemmas.{OnlyInward, cause_inward, fails_so, put_and_fulls, refused_keeps, rose_some, settled_inward, underway_inward}

-- Nothing in the lines of the connections changed.
server_inward : (before now : Desk) → now.places ≡ before.places → now.server.outward ≡ before.server.outward → now.fall ≡ before.fall → now.ending ≡ before.ending → OnlyInward before now
server_inward before now places server fall ending =
    let same = ap (λ (v : Vec Place). v.items) places in
    record {
      arrived = part_same (λ (l : HubConnection). l.arrived) before.places.items now.places.items same;
      close = part_same (λ (l : HubConnection). l.close) before.places.items now.places.items same;
      outward = part_same put_and_fulls before.places.items now.places.items same;
      receipts = λ i. ap (λ (l : List Place). receipt_at l i) same;
      size = ap (λ (l : List Place). length l) same;
      server = server;
      fall = fall;
      ending = ending;
    }

took_places : (came T : List HistoryEntry) (before now : Desk) → now.places ≡ before.places → TookItems before.places.items T → ((i : ℕ) → arrivals i came ≡ arrivals i T) → TookItems now.places.items came
took_places came T before now places took same i line at =
    ap (λ (l : List Shape). l ++ waiting line.first) (same i) ∙ took i line (ap (λ (v : Vec Place). line_at v.items i) (sym places) ∙ at)

-- An event that no item is, is in hand.
pub idle_in_hand : (h : Happening) (stands : List HistoryEntry → Type 0) (told : Option (List Noted)) (faults : ℕ) (desk : Desk) (T : List HistoryEntry) → ((i : ℕ) → arrival_here i h ≡ []) → heard_here h ≡ [] → is_late h ≡ false → desk.ending ≡ None → Keeps stands told faults desk T → HasInHand h stands told faults desk T
idle_in_hand h stands told faults desk T none unheard early still_open k = record {
  underway = underway_idle stands told desk T h none unheard k.underway;
  settled = k.settled;
  cause = k.cause;
  still_open = still_open;
  early = early;
  seated = λ i at. none i;
}

-- It was refused.
pub idle_refused : (h : Happening) (fault : NoteFault) (answer : HubFault) (stood stands : List HistoryEntry → Type 0) (told tells : Option (List Noted)) (faults later : ℕ) (before mid now : Desk)
    → ((i : ℕ) → arrival_here i h ≡ []) → heard_here h ≡ [] → is_late h ≡ false → before.ending ≡ None
    → IsUntaken fault stood stands told tells faults later before mid → faults ≤ later → Refuses fault answer mid now
    → Fails answer (Keeps stood told faults before) (Keeps stands tells later now) before.ending now.ending
idle_refused h fault answer stood stands told tells faults later before mid now none unheard early still_open untaken more refuses =
    let refuses_from : Refuses fault answer before now = subst (λ (d : Desk). Refuses fault answer d now) untaken.same_desk refuses in
    fails_so fault answer (Keeps stood told faults before) (Keeps stands tells later now) before.ending before now refuses_from still_open still_open
    (λ T k.
    refused_keeps fault answer h stood stands told tells faults later before mid before now T (idle_in_hand h stood told faults before T none unheard early still_open k) untaken more (server_inward before before refl refl refl refl)
    k.underway.took k.underway.took_up refuses_from)

-- The server's item is in hand.
pub up_in_hand : (item : Item) (stands : List HistoryEntry → Type 0) (told : Option (List Noted)) (faults : ℕ) (before now : Desk) (T : List HistoryEntry) → FetchesUp (Some item) before.server now.server → now.places ≡ before.places → now.fall ≡ before.fall → now.ending ≡ before.ending → before.ending ≡ None
    → Keeps stands told faults before T → HasInHand (hears (shape_of item)) stands told faults now T
up_in_hand item stands told faults before now T fetches places fall ending still_open k =
    let only = server_inward before now places fetches.outward fall ending in
    record {
      underway = underway_inward stands told before now T (coming (hears (shape_of item)) ∷ T) T only (took_places (coming (hears (shape_of item)) ∷ T) T before now places k.underway.took (λ i. append-nil (arrivals i T)))
          (ap (λ (f : Option Item). (heard_items T ++ shape_of item ∷ []) ++ waiting f) fetches.fetches.none ∙ append-nil (heard_items T ++ shape_of item ∷ []) ∙ fetches.fetches.items (heard_items T) k.underway.took_up) k.underway;
      settled = settled_inward before now None false T only k.settled;
      cause = cause_inward faults before now T only k.cause;
      still_open = ending ∙ still_open;
      early = refl;
      seated = λ i none. refl;
    }

-- The server's item was refused.
pub up_refused : (item : Item) (fault : NoteFault) (answer : HubFault) (event : Event) (stood stands : List HistoryEntry → Type 0) (told tells : Option (List Noted)) (faults later : ℕ) (start before mid back now : Desk)
    → FetchesUp (Some item) start.server before.server → before.places ≡ start.places → before.fall ≡ start.fall → before.ending ≡ start.ending → start.ending ≡ None
    → event ≡ events.Up item → IsUntaken fault stood stands told tells faults later before mid → faults ≤ later → GivesBack event mid back → Refuses fault answer back now
    → Fails answer (Keeps stood told faults start) (Keeps stands tells later now) start.ending now.ending
up_refused item fault answer event stood stands told tells faults later start before mid back now fetches places fall ending still_open is untaken more gives refuses =
    let back_from : GivesBack (events.Up item) before back = subst (λ (d : Desk). GivesBack (events.Up item) d back) untaken.same_desk (subst (λ (e : Event). GivesBack e mid back) is gives) in
    let same : back.places ≡ before.places = back_from.lines in
    let only = server_inward before back same back_from.server.outward back_from.fall back_from.ending in
    fails_so fault answer (Keeps stood told faults start) (Keeps stands tells later now) start.ending back now refuses still_open (only.ending ∙ ending ∙ still_open)
    (λ T k.
    let hand = up_in_hand item stood told faults start before T fetches places fall ending still_open k in
    refused_keeps fault answer (hears (shape_of item)) stood stands told tells faults later before mid back now T hand untaken more only
    (took_places T (coming (hears (shape_of item)) ∷ T) before back same hand.underway.took (λ i. sym (append-nil (arrivals i T))))
    (ap (λ (f : Option Item). heard_items T ++ waiting f) back_from.server.first
    ∙ sym (append-nil (heard_items T ++ shape_of item ∷ []))
    ∙ ap (λ (f : Option Item). (heard_items T ++ shape_of item ∷ []) ++ waiting f) (sym fetches.fetches.none)
    ∙ hand.underway.took_up
    ∙ ap (λ t. items_in (taken_of t)) (sym back_from.server.inward))
    refuses)

-- A connection that has a line ended.
some_is : {A : Type 0} (o : Option A) → is_some o ≡ true → (x : A) × (o ≡ Some x)
some_is None is = absurd (cc)
some_is (Some x) is = (x, refl)

pub shuts_line : (conn : ℕ) (line : Option HubConnection) → is_some line ≡ true → (kept keeps : List HistoryEntry → Type 0) (before now : Desk) → before.ending ≡ None → GrowsBy (ends conn) kept keeps → Shuts conn line (Ok tt) kept keeps before now
shuts_line conn line is kept keeps before now none grows =
    let some = some_is line is in
    subst (λ (o : Option HubConnection). Shuts conn o (Ok tt) kept keeps before now) (sym some.1) (none, grows)

-- What is kept moves on: the core stands for the same histories, the recorder tells the same, and the places are the same.
pub moved_keeps : (stood stands : List HistoryEntry → Type 0) (told tells : Option (List Noted)) (faults later : ℕ) (before now : Desk) (T : List HistoryEntry) → (stood T → stands T) → (TellsNotes told T → TellsNotes tells T) → faults ≤ later
    → now.server ≡ before.server → now.places.items ≡ before.places.items → now.fall ≡ before.fall → now.ending ≡ before.ending → Keeps stood told faults before T → Keeps stands tells later now T
moved_keeps stood stands told tells faults later before now T stays notes_stay more server places fall ending k =
    let only : OnlyInward before now = record {
      arrived = part_same (λ (l : HubConnection). l.arrived) before.places.items now.places.items places;
      close = part_same (λ (l : HubConnection). l.close) before.places.items now.places.items places;
      outward = part_same put_and_fulls before.places.items now.places.items places;
      receipts = λ i. ap (λ (l : List Place). receipt_at l i) places;
      size = ap (λ (l : List Place). length l) places;
      server = ap (λ (s : Server). s.outward) server;
      fall = fall;
      ending = ending;
    } in
    let u = underway_inward stood told before now T T T only (subst (λ (l : List Place). TookItems l T) (sym places) k.underway.took) (subst (λ (s : Server). TookServerItems s T) (sym server) k.underway.took_up) k.underway in
    record {
      underway = record {
        stood = stays u.stood;
        noted = notes_stay u.noted;
        took = u.took;
        took_up = u.took_up;
        arrived = u.arrived;
        closed = u.closed;
        fell = u.fell;
        handed = u.handed;
        up_handed = u.up_handed;
        receipts = u.receipts;
        numbered = u.numbered;
      };
      settled = settled_inward before now None false T only k.settled;
      cause = ends_later faults later (length now.places.items) now.ending T more (cause_inward faults before now T only k.cause);
      owed = λ c is. absurd (cc);
      owed_up = λ is. absurd (cc);
    }

-- An entering was refused by the recorder.
pub entering_refused : (fault : NoteFault) (answer : HubFault) (stood stands : List HistoryEntry → Type 0) (told tells : Option (List Noted)) (faults later : ℕ) (before mid now : Desk) → Stays stood stands → StillTells told tells → faults ≤ later → (fault ≡ notes.Failed → Rose faults later)
    → mid.server ≡ before.server → mid.places.items ≡ before.places.items → mid.fall ≡ before.fall → mid.ending ≡ before.ending → before.ending ≡ None → Refuses fault answer mid now
    → Fails answer (Keeps stood told faults before) (Keeps stands tells later now) before.ending now.ending
entering_refused fault answer stood stands told tells faults later before mid now stays tell more rose server places fall ending none refuses =
    fails_so fault answer (Keeps stood told faults before) (Keeps stands tells later now) before.ending mid now refuses none (ending ∙ none)
    (λ T k. by fault rose refuses T (moved_keeps stood stands told tells faults later before mid T (stays T) (tell T) more server places fall ending k))
  where
    by : (f : NoteFault) → (f ≡ notes.Failed → Rose faults later) → Refuses f answer mid now → (T : List HistoryEntry) → Keeps stands tells later mid T → Keeps stands tells later now T
    by notes.Memory rose_so r T kept = subst (λ (d : Desk). Keeps stands tells later d T) (sym r.1) kept
    by notes.Failed rose_so r T kept = stop_keeps stands tells later mid now stops.Record r.1 (λ _. rose_some faults later (rose_so refl)) (λ no_spent. absurd (cc)) T kept
