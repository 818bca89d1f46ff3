-- Events that full ports ask for, and what is owed before and after them.
use Rattle.std.proofs.Common.{◌≡◌, ◌∙◌, ℕ, ◌<◌, ◌≤◌, Bool, true, false, ◌||◌, ◌==◌, List, [], ◌∷◌, ◌++◌, length, Option, Some, None, refl, sym, ap, subst, inl, inr, arith}
use Rattle.std.specs.Prelude.{◌⊎◌, is_some}
use Rattle.std.specs.Option.{option_or}
use Rattle.std.specs.Global.{Vec}
use Rattle.std.proofs.lemmas.Bool.{eqb-true}
use Rattle.std.proofs.lemmas.List.{append-nil}
use Rattle.gate_outside.specs.Causes.{Rose}
use Rattle.gate_transcript.specs.declared.entry.Entry.{Entry as Noted}
use Rattle.rtsp_head.specs.Items.{Shape}
use Rattle.client_ports.specs.Ends.{put_of, fulls_of}
use Rattle.gateway_claim.specs.declared.event.UpCause.{UpCause}
use Rattle.gate_transcript.specs.declared.entry.UpWhy.TheVariants as whys
use Rattle.gateway_claim.specs.Happenings.{Happening, HistoryEntry, up_ends, fault_in}
use Rattle.hub_queues.specs.declared.ending.Ending.{Ending}
use Rattle.hub_queues.specs.declared.ending.Ending.TheVariants.{Upstream, Stopped}
use Rattle.hub_queues.specs.declared.ending.StopWhy.{StopWhy}
use Rattle.hub_queues.specs.declared.ending.StopWhy.TheVariants as stops
use Rattle.gate_transcript.specs.declared.recorder.NoteFault.{NoteFault}
use Rattle.gate_transcript.specs.declared.recorder.NoteFault.TheVariants.{Failed, Memory}
use Rattle.hub_queues.specs.declared.line.HubConnection.{HubConnection}
use Rattle.hub_queues.specs.declared.line.Place.{Place}
use Rattle.hub_queues.specs.declared.receipt.Receipt.{Receipt}
use Rattle.hub_queues.specs.declared.server.Server.{Server}
use Rattle.gateway_hub.specs.declared.desk.Desk.{Desk}
use Rattle.gateway_hub.specs.declared.desk.Fall.{Fall}
use Rattle.gateway_hub.specs.declared.desk.Delivery.{Delivery}
use Rattle.hub_queues.specs.Closes.{lagged, close_in, fall_close, fall_in}
use Rattle.gateway_hub.specs.Desks.{LeavesOut, ending_by, fall_heard, left_for}
use Rattle.gateway_hub.specs.Ends.{EachLine, PutsNothing, PutsFor}
use Rattle.gateway_hub.specs.Endings.{cut_short, ends_short, stopped_noting, fell_full, is_note_stop, is_stopped}
use Rattle.gateway_hub.specs.Notes.{StillTells}
use Rattle.hub_queues.specs.Parcels.{waiting, arrival_here, arrivals, heard_here, heard_items, coming}
use Rattle.hub_queues.specs.Places.{line_at, receipt_at, IsRefused, IsSeated}
use Rattle.gateway_hub.specs.Keeps.{TookItems, TookServerItems, IsHanded, IsHandedUp, IsReceipt, AreNumbered, Underway, ArePortsSettled, EndsRightly, KeepsOwing, MayOwe, is_owed, is_excused, is_server_excused}
use Rattle.gateway_hub.specs.Take.{IsReadyToTake, owes, TakesOneEvent, IsUntaken, Stops, stop_of, SettlesOwed}
use Rattle.gateway_hub.proofs.HaltLemmas.{Halts, cut_as, halts, left_halts}
use Rattle.gateway_hub.proofs.HistoryLemmas.{entry}
use Rattle.gateway_hub.proofs.ReceiptLemmas.{fall_some}
use Rattle.gateway_hub.proofs.SettleLemmas.{short_stays, stop_stays}
use Rattle.gateway_hub.proofs.PutLemmas.{nothing_put}

-- Nothing comes: the items that came are the same.
took_idle : (places : List Place) (T : List HistoryEntry) (h : Happening) → ((i : ℕ) → arrival_here i h ≡ []) → TookItems places T → TookItems places (coming h ∷ T)
took_idle places T h none took i line at = ap (λ (l : List Shape). l ++ waiting line.first) (ap (λ (l : List Shape). arrivals i T ++ l) (none i) ∙ append-nil (arrivals i T)) ∙ took i line at

took_up_idle : (server : Server) (T : List HistoryEntry) (h : Happening) → heard_here h ≡ [] → TookServerItems server T → TookServerItems server (coming h ∷ T)
took_up_idle server T h none took = ap (λ (l : List Shape). l ++ waiting server.first) (ap (λ (l : List Shape). heard_items T ++ l) none ∙ append-nil (heard_items T)) ∙ took

pub underway_idle : (stands : List HistoryEntry → Type 0) (told : Option (List Noted)) (desk : Desk) (T : List HistoryEntry) (h : Happening) → ((i : ℕ) → arrival_here i h ≡ []) → heard_here h ≡ [] → Underway stands told desk T T → Underway stands told desk (coming h ∷ T) T
underway_idle stands told desk T h none unheard u = record {
  stood = u.stood;
  noted = u.noted;
  took = took_idle desk.places.items T h none u.took;
  took_up = took_up_idle desk.server T h unheard u.took_up;
  arrived = u.arrived;
  closed = u.closed;
  fell = u.fell;
  handed = u.handed;
  up_handed = u.up_handed;
  receipts = u.receipts;
  numbered = u.numbered;
}

-- Causes stand when the count of faults rises.
pub ends_later : (faults later count : ℕ) (ending : Option Ending) (T : List HistoryEntry) → faults ≤ later → EndsRightly faults count ending T → EndsRightly later count ending T
ends_later faults later count None T more is = is
ends_later faults later count (Some (Upstream cause)) T more is = is
ends_later faults later count (Some (Stopped why)) T more is = (λ r. let some = is.0 r in omega arith, is.1)

-- Discharged: who is accounted for is owed no longer.
or_cases : (a b : Bool) → (a || b) ≡ true → (a ≡ true) ⊎ (b ≡ true)
or_cases true b is = inl refl
or_cases false b is = inr is

or_first : (a b : Bool) → a ≡ true → (a || b) ≡ true
or_first true b is = refl
or_first false b is = cc

or_next : (a b : Bool) → b ≡ true → (a || b) ≡ true
or_next true b is = refl
or_next false b is = is

or_false : (b : Bool) → (b || false) ≡ b
or_false true = refl
or_false false = refl

pub settle_up : (client : Option ℕ) (server : Bool) (desk : Desk) (T : List HistoryEntry) → (fell_full (fault_in T) ≡ true) ⊎ (stopped_noting desk.ending ≡ true) → ArePortsSettled client server desk T → ArePortsSettled client false desk T
settle_up client server desk T reason s = record {
  clients = s.clients;
  up = λ some. elim reason [
    | inl full ↦ or_first (fell_full (fault_in T)) (stopped_noting desk.ending || false) full
    | inr stopped ↦ or_next (fell_full (fault_in T)) (stopped_noting desk.ending || false) (or_first (stopped_noting desk.ending) false stopped)
  ];
}

pub settle_client : (conn : ℕ) (server : Bool) (desk : Desk) (T : List HistoryEntry) → (lagged conn T ≡ true) ⊎ (cut_short desk.fall desk.ending ≡ true) → ArePortsSettled (Some conn) server desk T → ArePortsSettled None server desk T
settle_client conn server desk T reason s = record {
  clients = λ i line at some. by i (or_cases (lagged i T) (cut_short desk.fall desk.ending || (conn == i)) (s.clients i line at some));
  up = s.up;
}
  where
    cut : (i : ℕ) → cut_short desk.fall desk.ending ≡ true → is_excused i None desk.fall desk.ending T ≡ true
    cut i is = or_next (lagged i T) (cut_short desk.fall desk.ending || false) (or_first (cut_short desk.fall desk.ending) false is)

    here : (i : ℕ) → (conn == i) ≡ true → is_excused i None desk.fall desk.ending T ≡ true
    here i is = elim reason [
      | inl lag ↦ or_first (lagged i T) (cut_short desk.fall desk.ending || false) (ap (λ n. lagged n T) (sym (eqb-true conn i is)) ∙ lag)
      | inr short ↦ cut i short
    ]

    by : (i : ℕ) → (lagged i T ≡ true) ⊎ ((cut_short desk.fall desk.ending || (conn == i)) ≡ true) → is_excused i None desk.fall desk.ending T ≡ true
    by i (inl lag) = or_first (lagged i T) (cut_short desk.fall desk.ending || false) lag
    by i (inr other) = elim (or_cases (cut_short desk.fall desk.ending) (conn == i) other) [ inl short ↦ cut i short | inr same ↦ here i same ]

-- The end of the connection to the server, which had been owed, was taken.
full_cut : (before now : Option Ending) (fault : Option UpCause) (T : List HistoryEntry) → before ≡ None → now ≡ option_or before (ending_by fault) → fault_in T ≡ None → fell_full (option_or (fault_in T) fault) ≡ true → ends_short now ≡ true
full_cut before now fault T none is standing full =
    ap ends_short (is ∙ ap (λ (e : Option Ending). option_or e (ending_by fault)) none) ∙ by fault (ap (λ (f : Option UpCause). fell_full (option_or f fault)) (sym standing) ∙ full)
  where
    by : (f : Option UpCause) → fell_full f ≡ true → ends_short (ending_by f) ≡ true
    by None is = cc
    by (Some cause) is = is

ready_to_end : (client : Option ℕ) (stands : List HistoryEntry → Type 0) (told : Option (List Noted)) (faults : ℕ) (desk : Desk) (T : List HistoryEntry) → KeepsOwing client true stands told faults desk T → IsReadyToTake (up_ends whys.UpFull) desk T
ready_to_end client stands told faults desk T k =
    let up = k.owed_up refl in
    record {
      open_or_over = inl up.0;
      clients = λ may. absurd (cc);
      up = λ may. absurd (cc);
      slow = λ i l. absurd (cc);
      full = λ _. up.1;
      seated = λ i none. refl;
    }

none_fault : (faults count : ℕ) (ending : Option Ending) (T : List HistoryEntry) → ending ≡ None → EndsRightly faults count ending T → fault_in T ≡ None
none_fault faults count ending T is cause = subst (λ (e : Option Ending). EndsRightly faults count e T) is cause

pub end_taken : (stood stands : List HistoryEntry → Type 0) (told tells : Option (List Noted)) (faults later : ℕ) (before now : Desk) (delivery : Delivery) → TakesOneEvent (up_ends whys.UpFull) delivery stood stands told tells before now → faults ≤ later
    → PutsFor delivery.landed before.places.items now.places.items → (client : Option ℕ) → SettlesOwed client true client false stood stands told tells faults later before now
end_taken stood stands told tells faults later before now delivery one more puts client = record {
  later = entry (up_ends whys.UpFull) one.outcome ∷ [];
  late = (refl, tt);
  keeps = λ T k.
      let s = one.steps T (ready_to_end client stood told faults before T k) (underway_idle stood told before T (up_ends whys.UpFull) (λ i. refl) refl k.underway) in
      let quiet = s.quiet refl in
      let standing = none_fault faults (length before.places.items) before.ending T (k.owed_up refl).0 k.cause in
      let full = s.ended refl standing in
      let settled = settle_up (owes delivery.client client) (delivery.server || true) now (entry (up_ends whys.UpFull) one.outcome ∷ T) (inl full) (s.settled client true (inr quiet) k.settled) in
      record {
        underway = s.underway;
        settled = subst (λ (r : Option ℕ). ArePortsSettled (owes r client) false now (entry (up_ends whys.UpFull) one.outcome ∷ T)) quiet settled;
        cause = ends_later faults later (length now.places.items) now.ending (entry (up_ends whys.UpFull) one.outcome ∷ T) more
            (subst (λ (n : ℕ). EndsRightly faults n now.ending (entry (up_ends whys.UpFull) one.outcome ∷ T)) (sym s.size) (s.cause faults (length before.places.items) k.cause));
        owed = λ conn is. let o = k.owed conn is in (s.refused conn o.0, inr (full_cut before.ending now.ending one.outcome.fault T (k.owed_up refl).0 s.ending standing full));
        owed_up = λ is. absurd (cc);
      };
  seats = λ T k. (one.steps T (ready_to_end client stood told faults before T k) (underway_idle stood told before T (up_ends whys.UpFull) (λ i. refl) refl k.underway)).seats;
  unhanded = λ T k.
      let s = one.steps T (ready_to_end client stood told faults before T k) (underway_idle stood told before T (up_ends whys.UpFull) (λ i. refl) refl k.underway) in
      subst (λ (l : Option ℕ). PutsFor l before.places.items now.places.items) (s.unlanded refl) puts;
}

-- An event that could not be noted: the hub is stopped.
pub rose_some : (before now : ℕ) → Rose before now → 0 < now
rose_some before now rose = omega arith

stop_is_note : (fault : NoteFault) → is_note_stop (stop_of fault) ≡ true
stop_is_note Failed = refl
stop_is_note Memory = refl

pub not_spent : (fault : NoteFault) → stop_of fault ≡ stops.Spent → ⊥
not_spent Failed is = cc
not_spent Memory is = cc

pub is_failed : (fault : NoteFault) → stop_of fault ≡ stops.Record → fault ≡ Failed
is_failed Failed is = refl
is_failed Memory is = cc

pub ends_stopped : (faults later count : ℕ) (ending : Option Ending) (why : StopWhy) (T : List HistoryEntry) → faults ≤ later → (why ≡ stops.Record → 0 < later) → (why ≡ stops.Spent → 4294967295 ≤ count) → EndsRightly faults count ending T
    → EndsRightly later count (option_or ending (Some (Stopped why))) T
ends_stopped faults later count None why T more record_some spent is = (record_some, spent)
ends_stopped faults later count (Some ending) why T more record_some spent is = ends_later faults later count (Some ending) T more is

excused_stopped : (i : ℕ) (owed : Option ℕ) (why : StopWhy) (before now : Desk) (T : List HistoryEntry) → Halts why before now → is_excused i owed before.fall before.ending T ≡ true → is_excused i owed now.fall now.ending T ≡ true
excused_stopped i owed why before now T stop is = elim (or_cases (lagged i T) (cut_short before.fall before.ending || is_owed owed i) is) [
  | inl lag ↦ or_first (lagged i T) (cut_short now.fall now.ending || is_owed owed i) lag
  | inr other ↦ or_next (lagged i T) (cut_short now.fall now.ending || is_owed owed i) (elim (or_cases (cut_short before.fall before.ending) (is_owed owed i) other) [
    | inl short ↦ or_first (cut_short now.fall now.ending) (is_owed owed i) (stop.cut short)
    | inr here ↦ or_next (cut_short now.fall now.ending) (is_owed owed i) here
  ])
]

receipt_stopped : (i : ℕ) (receipt : Receipt) (why : StopWhy) (before now : Desk) (T : List HistoryEntry) → Halts why before now → IsReceipt i receipt before.fall before.ending T → IsReceipt i receipt now.fall now.ending T
receipt_stopped i receipt why before now T stop was = record {
  over = λ none. was.over (none_first before.ending (Some (Stopped why)) (sym stop.ending ∙ none));
  tells = record {
    conn = was.tells.conn;
    arrived = was.tells.arrived;
    put = was.tells.put;
    fulls = was.tells.fulls;
    handed = was.tells.handed;
    is_handed = was.tells.is_handed;
    excused = λ some. excused_stopped i None why before now T stop (was.tells.excused some);
    why = was.tells.why;
    by_upstream = was.tells.by_upstream;
  };
}
  where
    none_first : (e m : Option Ending) → option_or e m ≡ None → e ≡ None
    none_first None m is = refl
    none_first (Some e) m is = cc

server_stopped : (owed : Bool) (ending more : Option Ending) (T : List HistoryEntry) → is_server_excused owed ending T ≡ true → is_server_excused owed (option_or ending more) T ≡ true
server_stopped owed ending more T is = elim (or_cases (fell_full (fault_in T)) (stopped_noting ending || owed) is) [
  | inl full ↦ or_first (fell_full (fault_in T)) (stopped_noting (option_or ending more) || owed) full
  | inr other ↦ or_next (fell_full (fault_in T)) (stopped_noting (option_or ending more) || owed) (elim (or_cases (stopped_noting ending) owed other) [
    | inl short ↦ or_first (stopped_noting (option_or ending more)) owed (stop_stays ending more short)
    | inr here ↦ or_next (stopped_noting (option_or ending more)) owed here
  ])
]

-- All that stands while events are taken stands when the hub is stopped.
underway_stopped : (stood stands : List HistoryEntry → Type 0) (told tells : Option (List Noted)) (before now : Desk) (why : StopWhy) (came T : List HistoryEntry) → stands T → StillTells told tells → Halts why before now → Underway stood told before came T → Underway stands tells now came T
underway_stopped stood stands told tells before now why came T stays same stop u =
    let places = ap (λ (v : Vec Place). v.items) stop.places in
    record {
      stood = stays;
      noted = same T u.noted;
      took = subst (λ (l : List Place). TookItems l came) (sym places) u.took;
      took_up = subst (λ (x : Server). TookServerItems x came) (sym stop.server) u.took_up;
      arrived = subst (λ (l : List Place). (i : ℕ) (line : HubConnection) → line_at l i ≡ Some line → line.arrived ≡ length (arrivals i T)) (sym places) u.arrived;
      closed = subst (λ (l : List Place). (i : ℕ) (line : HubConnection) → line_at l i ≡ Some line → close_in i T ≡ option_or line.close (fall_close (fall_heard now.fall))) (sym places)
          (subst (λ (f : Option Bool). (i : ℕ) (line : HubConnection) → line_at before.places.items i ≡ Some line → close_in i T ≡ option_or line.close (fall_close f)) (sym stop.heard) u.closed);
      fell = stop.heard ∙ u.fell;
      handed = subst (λ (l : List Place). (i : ℕ) (line : HubConnection) → line_at l i ≡ Some line → IsHanded i (put_of line.outward) (fulls_of line.outward) T) (sym places) u.handed;
      up_handed = subst (λ (x : Server). IsHandedUp (put_of x.outward) (fulls_of x.outward) T) (sym stop.server) u.up_handed;
      receipts = subst (λ (l : List Place). (i : ℕ) (receipt : Receipt) → receipt_at l i ≡ Some receipt → IsReceipt i receipt now.fall now.ending T) (sym places)
          (λ i receipt at. receipt_stopped i receipt why before now T stop (u.receipts i receipt at));
      numbered = subst (λ (l : List Place). AreNumbered (length l) T) (sym places) u.numbered;
    }

settled_stopped : (before now : Desk) (why : StopWhy) (client : Option ℕ) (server : Bool) (T : List HistoryEntry) → Halts why before now → ArePortsSettled client server before T → ArePortsSettled client server now T
settled_stopped before now why client server T stop s =
    let places = ap (λ (v : Vec Place). v.items) stop.places in
    record {
      clients = subst (λ (l : List Place). (i : ℕ) (line : HubConnection) → line_at l i ≡ Some line → 0 < fulls_of line.outward → is_excused i client now.fall now.ending T ≡ true) (sym places)
          (λ i line at some. excused_stopped i client why before now T stop (s.clients i line at some));
      up = subst (λ (x : Server). 0 < fulls_of x.outward → is_server_excused server now.ending T ≡ true) (sym stop.server)
          (subst (λ (e : Option Ending). 0 < fulls_of before.server.outward → is_server_excused server e T ≡ true) (sym stop.ending)
          (λ some. server_stopped server before.ending (Some (Stopped why)) T (s.up some)));
    }

cause_stopped : (faults later : ℕ) (before now : Desk) (why : StopWhy) (T : List HistoryEntry) → Halts why before now → faults ≤ later → (why ≡ stops.Record → 0 < later) → (why ≡ stops.Spent → 4294967295 ≤ length before.places.items)
    → EndsRightly faults (length before.places.items) before.ending T → EndsRightly later (length now.places.items) now.ending T
cause_stopped faults later before now why T stop more record_some spent is =
    subst (λ (l : List Place). EndsRightly later (length l) now.ending T) (sym (ap (λ (v : Vec Place). v.items) stop.places))
    (subst (λ (e : Option Ending). EndsRightly later (length before.places.items) e T) (sym stop.ending) (ends_stopped faults later (length before.places.items) before.ending why T more record_some spent is))

-- A stop that comes from outside changes nothing else.
pub stop_keeps : (stands : List HistoryEntry → Type 0) (told : Option (List Noted)) (faults : ℕ) (before now : Desk) (why : StopWhy) → Stops why before now → (why ≡ stops.Record → 0 < faults) → (why ≡ stops.Spent → 4294967295 ≤ length before.places.items)
    → (T : List HistoryEntry) → KeepsOwing None false stands told faults before T → KeepsOwing None false stands told faults now T
stop_keeps stands told faults before now why stop record_some spent T k = record {
  underway = underway_stopped stands stands told told before now why T T k.underway.stood (λ history is. is) (halts why before now stop) k.underway;
  settled = settled_stopped before now why None false T (halts why before now stop) k.settled;
  cause = cause_stopped faults faults before now why T (halts why before now stop) (omega arith) record_some spent k.cause;
  owed = λ conn is. absurd (cc);
  owed_up = λ is. absurd (cc);
}

-- the hub was stopped since an event could not be noted
noted_stop : (fault : NoteFault) (before now : Desk) → Stops (stop_of fault) before now → MayOwe before.ending → ends_short now.ending ≡ true
noted_stop fault before now stop may = ap ends_short stop.ending ∙ elim may [
  | inl none ↦ ap (λ (e : Option Ending). ends_short (option_or e (Some (Stopped (stop_of fault))))) none ∙ stop_is_note fault
  | inr short ↦ short_stays before.ending (Some (Stopped (stop_of fault))) short
]

open_stop : (fault : NoteFault) (before now : Desk) → Stops (stop_of fault) before now → before.ending ≡ None → stopped_noting now.ending ≡ true
open_stop fault before now stop none = ap stopped_noting stop.ending ∙ ap (λ (e : Option Ending). stopped_noting (option_or e (Some (Stopped (stop_of fault))))) none ∙ stop_is_note fault

refused_stopped : (i : ℕ) (before now : Desk) (why : StopWhy) → Stops why before now → IsRefused i before.places.items → IsRefused i now.places.items
refused_stopped i before now why stop = subst (λ (l : List Place). IsRefused i l) (sym (ap (λ (v : Vec Place). v.items) stop.places))

pub unhanded_stopped : (before now : Desk) (why : StopWhy) → Stops why before now → EachLine PutsNothing before.places.items now.places.items
unhanded_stopped before now why stop = nothing_put before.places.items now.places.items (ap (λ (v : Vec Place). v.items) stop.places)

pub seated_stopped : (i : ℕ) (before now : Desk) (why : StopWhy) → Stops why before now → IsSeated i before.places.items → IsSeated i now.places.items
seated_stopped i before now why stop = subst (λ (l : List Place). IsSeated i l) (sym (ap (λ (v : Vec Place). v.items) stop.places))

-- The desk of an event that was not taken, stopped.
pub stopped_since : (fault : NoteFault) (stood stands : List HistoryEntry → Type 0) (told tells : Option (List Noted)) (faults later : ℕ) (before mid now : Desk) → IsUntaken fault stood stands told tells faults later before mid → Stops (stop_of fault) mid now → Stops (stop_of fault) before now
stopped_since fault stood stands told tells faults later before mid now untaken stop = subst (λ (d : Desk). Stops (stop_of fault) d now) untaken.same_desk stop

pub end_untaken : (fault : NoteFault) (stood stands : List HistoryEntry → Type 0) (told tells : Option (List Noted)) (faults later : ℕ) (before mid now : Desk) → IsUntaken fault stood stands told tells faults later before mid → faults ≤ later → Stops (stop_of fault) mid now
    → (client : Option ℕ) → SettlesOwed client true client false stood stands told tells faults later before now
end_untaken fault stood stands told tells faults later before mid now untaken more stops_mid client =
    let stop = stopped_since fault stood stands told tells faults later before mid now untaken stops_mid in
    let halt = halts (stop_of fault) before now stop in
    record {
      later = [];
      late = tt;
      keeps = λ T k.
          let none = (k.owed_up refl).0 in
          record {
            underway = underway_stopped stood stands told tells before now (stop_of fault) T T (untaken.stays T k.underway.stood) untaken.notes halt k.underway;
            settled = settle_up client true now T (inr (open_stop fault before now stop none)) (settled_stopped before now (stop_of fault) client true T halt k.settled);
            cause = cause_stopped faults later before now (stop_of fault) T halt more (λ r. rose_some faults later (untaken.rose (is_failed fault r))) (λ x. absurd (not_spent fault x)) k.cause;
            owed = λ conn is. let o = k.owed conn is in (refused_stopped conn before now (stop_of fault) stop o.0, inr (noted_stop fault before now stop (inl none)));
            owed_up = λ is. absurd (cc);
          };
      seats = λ T k i. seated_stopped i before now (stop_of fault) stop;
      unhanded = λ T k. unhanded_stopped before now (stop_of fault) stop;
    }

-- The note failed by which a client was to be found too slow.
left_short : (fault : NoteFault) (fall : Option Fall) (ending : Option Ending) (T : List HistoryEntry) (faults count : ℕ) → MayOwe ending → fall_heard fall ≡ fall_in T → EndsRightly faults count ending T
    → cut_short (left_for fault fall) (option_or ending (Some (Stopped (stop_of fault)))) ≡ true
left_short fault fall None T faults count may fell cause = stop_is_note fault
left_short fault fall (Some (Upstream why)) T faults count may fell cause = by fall (ap (λ (f : Option Bool). is_some f) fell ∙ fall_some T (ap (λ (f : Option UpCause). is_some f) cause))
  where
    by : (f : Option Fall) → is_some (fall_heard f) ≡ true → cut_short (left_for fault f) (Some (Upstream why)) ≡ true
    by None is = cc
    by (Some f) is = refl
left_short fault fall (Some (Stopped why)) T faults count (inl none) fell cause = absurd (cc)
left_short fault fall (Some (Stopped why)) T faults count (inr short) fell cause = short

pub lag_untaken : (fault : NoteFault) (stood stands : List HistoryEntry → Type 0) (told tells : Option (List Noted)) (faults later : ℕ) (before mid left now : Desk) → IsUntaken fault stood stands told tells faults later before mid → faults ≤ later → LeavesOut fault mid left
    → Stops (stop_of fault) left now → (conn : ℕ) → SettlesOwed (Some conn) false None false stood stands told tells faults later before now
lag_untaken fault stood stands told tells faults later before mid left now untaken more leaves_mid stops_left conn =
    let leaves = subst (λ (d : Desk). LeavesOut fault d left) untaken.same_desk leaves_mid in
    let halt = left_halts fault before left now leaves stops_left in
    let same = ap (λ (v : Vec Place). v.items) halt.places in
    record {
      later = [];
      late = tt;
      keeps = λ T k.
          let owed = k.owed conn refl in
          let short = cut_as (left_for fault before.fall) now.fall (option_or before.ending (Some (Stopped (stop_of fault)))) now.ending (stops_left.fall ∙ leaves.fall) halt.ending
          (left_short fault before.fall before.ending T faults (length before.places.items) owed.1 k.underway.fell k.cause) in
          record {
            underway = underway_stopped stood stands told tells before now (stop_of fault) T T (untaken.stays T k.underway.stood) untaken.notes halt k.underway;
            settled = settle_client conn false now T (inr short) (settled_stopped before now (stop_of fault) (Some conn) false T halt k.settled);
            cause = cause_stopped faults later before now (stop_of fault) T halt more (λ r. rose_some faults later (untaken.rose (is_failed fault r))) (λ x. absurd (not_spent fault x)) k.cause;
            owed = λ c is. absurd (cc);
            owed_up = λ is. absurd (cc);
          };
      seats = λ T k i. subst (λ (l : List Place). IsSeated i l) (sym same);
      unhanded = λ T k. nothing_put before.places.items now.places.items same;
    }

-- Nothing is owed, or the hub was stopped: nothing is taken.
pub none_owed : (client : Option ℕ) (stands : List HistoryEntry → Type 0) (told : Option (List Noted)) (faults : ℕ) (desk : Desk) → SettlesOwed client false client false stands stands told told faults faults desk desk
none_owed client stands told faults desk = record { later = []; late = tt; keeps = λ T k. k; seats = λ T k i s. s; unhanded = λ T k. nothing_put desk.places.items desk.places.items refl }

stopped_short : (fall : Option Fall) (ending : Option Ending) → is_stopped ending ≡ true → ends_short ending ≡ true → cut_short fall ending ≡ true
stopped_short fall None stopped short = cc
stopped_short fall (Some (Upstream cause)) stopped short = cc
stopped_short fall (Some (Stopped why)) stopped short = short

pub lag_stopped : (stands : List HistoryEntry → Type 0) (told : Option (List Noted)) (faults : ℕ) (desk : Desk) (conn : ℕ) → is_stopped desk.ending ≡ true → SettlesOwed (Some conn) false None false stands stands told told faults faults desk desk
lag_stopped stands told faults desk conn stopped = record {
  later = [];
  late = tt;
  keeps = λ T k. record {
    underway = k.underway;
    settled = settle_client conn false desk T (elim (k.owed conn refl).1 [ inl none ↦ let no : is_stopped desk.ending ≡ false = ap is_stopped none in absurd (cc) | inr short ↦ inr (stopped_short desk.fall desk.ending stopped short) ]) k.settled;
    cause = k.cause;
    owed = λ c is. absurd (cc);
    owed_up = λ is. absurd (cc);
  };
  seats = λ T k i s. s;
  unhanded = λ T k. nothing_put desk.places.items desk.places.items refl;
}

-- The port was full.
pub full_as : (full : Bool) → full ≡ true → (client : Option ℕ) (stood stands : List HistoryEntry → Type 0) (told tells : Option (List Noted)) (faults later : ℕ) (before now : Desk) → SettlesOwed client true client false stood stands told tells faults later before now
    → SettlesOwed client full client false stood stands told tells faults later before now
full_as full is client stood stands told tells faults later before now = subst (λ (b : Bool). SettlesOwed client b client false stood stands told tells faults later before now) (sym is)

-- The client whose port was full.
pub client_as : (client : Option ℕ) (conn : ℕ) → client ≡ Some conn → (stood stands : List HistoryEntry → Type 0) (told tells : Option (List Noted)) (faults later : ℕ) (before now : Desk) → SettlesOwed (Some conn) false None false stood stands told tells faults later before now
    → SettlesOwed client false None false stood stands told tells faults later before now
client_as client conn is stood stands told tells faults later before now = subst (λ (c : Option ℕ). SettlesOwed c false None false stood stands told tells faults later before now) (sym is)

-- The hub was stopped for this reason.
pub stops_as : (why : StopWhy) (fault : NoteFault) (before now : Desk) → why ≡ stop_of fault → Stops why before now → Stops (stop_of fault) before now
stops_as why fault before now is = subst (λ (w : StopWhy). Stops w before now) is
