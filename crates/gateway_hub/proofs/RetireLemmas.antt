-- A connection is retired.
use Rattle.std.proofs.Common.{◌≡◌, ◌≢◌, ◌∙◌, ℕ, ◌<◌, ◌≤◌, Bool, true, false, ◌==◌, List, [], ◌∷◌, ◌++◌, length, Option, Some, None, refl, sym, ap, subst, inl, inr, arith}
use Rattle.std.specs.Prelude.{◌⊎◌, is_some, slice_set}
use Rattle.std.specs.List.{slice_get}
use Rattle.std.specs.Option.{option_or, option_map}
use Rattle.std.proofs.lemmas.Bool.{eqb-true, eq-eqb, ne_eqb}
use Rattle.std.proofs.lemmas.List.{length-set, append_assoc}
use Rattle.gate_transcript.specs.declared.entry.Entry.{Entry as Noted}
use Rattle.client_ports.specs.Ends.{put_of, fulls_of}
use Rattle.gateway_claim.specs.Happenings.{HistoryEntry, ends, is_alive}
use Rattle.hub_queues.specs.declared.ending.Ending.{Ending}
use Rattle.hub_queues.specs.declared.ending.Ending.TheVariants.{Stopped}
use Rattle.hub_queues.specs.declared.receipt.Receipt.{Receipt}
use Rattle.hub_queues.specs.declared.line.HubConnection.{HubConnection}
use Rattle.hub_queues.specs.declared.line.Place.{Place}
use Rattle.hub_queues.specs.declared.line.Place.TheVariants.{Retired}
use Rattle.hub_queues.specs.declared.server.Server.{Server}
use Rattle.gateway_hub.specs.declared.desk.Desk.{Desk}
use Rattle.hub_queues.specs.Closes.{fall_close}
use Rattle.client_ports.specs.declared.parcel.Parcel.{Parcel}
use Rattle.hub_queues.specs.Places.{line_of, receipt_of, line_at, receipt_at, Changes, IsSeated}
use Rattle.gateway_hub.specs.Desks.{fall_heard}
use Rattle.gateway_hub.specs.Keeps.{TookServerItems, IsHandedUp, TellsLife, IsReceipt, AreNumbered, EndsRightly, Keeps, is_server_excused, close_why, by_upstream_of}
use Rattle.gateway_hub.proofs.SettleLemmas.{excused_as, receipt_as}
use Rattle.gateway_hub.specs.Ends.{EachLine, PutsNothing}
use Rattle.gateway_hub.specs.Retire.{receipt_for, stranger_receipt, RetiresBy, RetiresPlace, IsUnended, EndsFirst, RetiresLine, IsSameDesk, RetiresSo}
use Rattle.hub_queues.proofs.PlaceLemmas.{found_here, found_other}
use Rattle.gateway_hub.proofs.IdleLemmas.{moved_keeps, idle_in_hand}
use Rattle.gateway_hub.proofs.TakeLemmas.{living_line}
use Rattle.gateway_hub.proofs.OweLemmas.{stop_keeps, stopped_since, seated_stopped, unhanded_stopped, rose_some, is_failed, not_spent}
use Rattle.gateway_hub.proofs.PutLemmas.{nothing_put}
use Rattle.gateway_hub.proofs.HistoryLemmas.{entry}
use Rattle.gateway_hub.specs.Take.{HasInHand, TakesHubEvent, IsUntaken, Stops, stop_of}
use Rattle.gate_transcript.specs.declared.recorder.NoteFault.{NoteFault}

-- A line that is there now was there.
line_was : (conn i : ℕ) (receipt : Receipt) (before now : List Place) (l : HubConnection) → slice_get now conn ≡ Some (Retired receipt) → ((j : ℕ) → conn ≢ j → slice_get now j ≡ slice_get before j) → line_at now i ≡ Some l → line_at before i ≡ Some l
line_was conn i receipt before now l here others at = by (conn == i) refl
  where
    by : (b : Bool) → (conn == i) ≡ b → line_at before i ≡ Some l
    by true same =
        let none : line_at now i ≡ None = ap (λ n. line_at now n) (sym (eqb-true conn i same)) ∙ ap line_of here in
        absurd (cc)
    by false other = sym (ap line_of (others i (λ same. let e : (conn == i) ≡ true = eq-eqb conn i same in cc))) ∙ at

receipt_was : (conn i : ℕ) (receipt r : Receipt) (before now : List Place) → slice_get now conn ≡ Some (Retired receipt) → ((j : ℕ) → conn ≢ j → slice_get now j ≡ slice_get before j) → receipt_at now i ≡ Some r
    → ((conn ≡ i) × (r ≡ receipt)) ⊎ (receipt_at before i ≡ Some r)
receipt_was conn i receipt r before now here others at = by (conn == i) refl
  where
    by : (b : Bool) → (conn == i) ≡ b → ((conn ≡ i) × (r ≡ receipt)) ⊎ (receipt_at before i ≡ Some r)
    by true same =
        let is : receipt_at now i ≡ Some receipt = ap (λ n. receipt_at now n) (sym (eqb-true conn i same)) ∙ ap receipt_of here in
        inl (eqb-true conn i same, cc)
    by false other = inr (sym (ap receipt_of (others i (λ same. let e : (conn == i) ≡ true = eq-eqb conn i same in cc))) ∙ at)

-- Its receipt tells what is so.
pub life_so : (conn pushed taken : ℕ) (line : HubConnection) (stands : List HistoryEntry → Type 0) (told : Option (List Noted)) (faults : ℕ) (desk : Desk) (T : List HistoryEntry) → line_at desk.places.items conn ≡ Some line
    → Keeps stands told faults desk T → TellsLife conn (receipt_for conn line pushed taken (fall_heard desk.fall) desk.ending) desk.fall desk.ending T
life_so conn pushed taken line stands told faults desk T at k = record {
  conn = refl;
  arrived = k.underway.arrived conn line at;
  put = put_of line.outward;
  fulls = fulls_of line.outward;
  handed = line.outward.counted;
  is_handed = k.underway.handed conn line at;
  excused = λ some. k.settled.clients conn line at some;
  why = ap close_why (sym (k.underway.closed conn line at));
  by_upstream = ap by_upstream_of (sym (k.underway.closed conn line at));
}

receipt_so : (conn pushed taken : ℕ) (line : HubConnection) (stands : List HistoryEntry → Type 0) (told : Option (List Noted)) (faults : ℕ) (desk : Desk) (T : List HistoryEntry) → line_at desk.places.items conn ≡ Some line → (desk.ending ≡ None → is_alive conn T ≡ false)
    → Keeps stands told faults desk T → IsReceipt conn (receipt_for conn line pushed taken (fall_heard desk.fall) desk.ending) desk.fall desk.ending T
receipt_so conn pushed taken line stands told faults desk T at over k = record { tells = life_so conn pushed taken line stands told faults desk T at k; over = over }

pub retire_keeps : (conn pushed taken : ℕ) (line : HubConnection) (stands : List HistoryEntry → Type 0) (told : Option (List Noted)) (faults : ℕ) (before now : Desk) (T : List HistoryEntry) → line_at before.places.items conn ≡ Some line → (before.ending ≡ None → is_alive conn T ≡ false)
    → slice_get now.places.items conn ≡ Some (Retired (receipt_for conn line pushed taken (fall_heard before.fall) before.ending)) → ((j : ℕ) → conn ≢ j → slice_get now.places.items j ≡ slice_get before.places.items j) → length now.places.items ≡ length before.places.items
    → now.server ≡ before.server → now.fall ≡ before.fall → now.ending ≡ before.ending → Keeps stands told faults before T → Keeps stands told faults now T
retire_keeps conn pushed taken line stands told faults before now T at over here others size server fall ending k =
    let u = k.underway in
    let receipt = receipt_for conn line pushed taken (fall_heard before.fall) before.ending in
    let was : (i : ℕ) (l : HubConnection) → line_at now.places.items i ≡ Some l → line_at before.places.items i ≡ Some l = λ i l is. line_was conn i receipt before.places.items now.places.items l here others is in
    record {
      underway = record {
        stood = u.stood;
        noted = u.noted;
        took = λ i l is. u.took i l (was i l is);
        took_up = subst (λ (s : Server). TookServerItems s T) (sym server) u.took_up;
        arrived = λ i l is. u.arrived i l (was i l is);
        closed = λ i l is. u.closed i l (was i l is) ∙ ap (λ (f : Option Bool). option_or l.close (fall_close f)) (sym (ap fall_heard fall));
        fell = ap fall_heard fall ∙ u.fell;
        handed = λ i l is. u.handed i l (was i l is);
        up_handed = subst (λ (s : Server). IsHandedUp (put_of s.outward) (fulls_of s.outward) T) (sym server) u.up_handed;
        receipts = λ i r is. receipt_as i r before.fall now.fall before.ending now.ending T fall ending (elim (receipt_was conn i receipt r before.places.items now.places.items here others is) [
          | inl same ↦ subst (λ (n : ℕ). IsReceipt n r before.fall before.ending T) same.0 (subst (λ (x : Receipt). IsReceipt conn x before.fall before.ending T) (sym same.1) (receipt_so conn pushed taken line stands told faults before T at over k))
          | inr old ↦ u.receipts i r old
        ]);
        numbered = subst (λ (n : ℕ). AreNumbered n T) (sym size) u.numbered;
      };
      settled = record {
        clients = λ i l is some. excused_as i None before.fall now.fall before.ending now.ending T fall ending (k.settled.clients i l (was i l is) some);
        up = λ some. subst (λ (e : Option Ending). is_server_excused false e T ≡ true) (sym ending) (k.settled.up (subst (λ (s : Server). 0 < fulls_of s.outward) server some));
      };
      cause = subst (λ (n : ℕ). EndsRightly faults n now.ending T) (sym size) (subst (λ (e : Option Ending). EndsRightly faults (length before.places.items) e T) (sym ending) k.cause);
      owed = λ c is. absurd (cc);
      owed_up = λ is. absurd (cc);
    }

-- A place that is set.
found_set : (places : List Place) (conn : ℕ) (line : HubConnection) (p : Place) → line_at places conn ≡ Some line → slice_get (slice_set places conn p) conn ≡ Some p
found_set places conn line p at = by (slice_get places conn) refl
  where
    by : (found : Option Place) → slice_get places conn ≡ found → slice_get (slice_set places conn p) conn ≡ Some p
    by None is = let none : line_at places conn ≡ None = ap line_of is in absurd (cc)
    by (Some old) is = found_here places conn conn old p is (eq-eqb conn conn refl)

set_others : (places : List Place) (conn j : ℕ) (p : Place) → conn ≢ j → slice_get (slice_set places conn p) j ≡ slice_get places j
set_others places conn j p apart = found_other places conn j p (ne_eqb conn j apart)

-- Retired by the code.
pub retired_so : (conn pushed taken : ℕ) (receipt : Receipt) (line : Option HubConnection) (stands : List HistoryEntry → Type 0) (told : Option (List Noted)) (faults : ℕ) (before now : Desk) (T : List HistoryEntry) → line_at before.places.items conn ≡ line
    → RetiresBy conn pushed taken (fall_heard before.fall) before.ending receipt before.places.items now.places.items line → (before.ending ≡ None → IsSeated conn before.places.items → is_alive conn T ≡ false)
    → now.server ≡ before.server → now.fall ≡ before.fall → now.ending ≡ before.ending → Keeps stands told faults before T → Keeps stands told faults now T × RetiresLine conn pushed taken line receipt now
retired_so conn pushed taken receipt None stands told faults before now T at retires over server fall ending k = (
  moved_keeps stands stands told told faults faults before now T (λ s. s) (λ n. n) (omega arith) server retires.0 fall ending k,
  retires.1 ∙ ap (λ (e : Option Ending). stranger_receipt conn pushed taken e) (sym ending),
)
retired_so conn pushed taken receipt (Some line) stands told faults before now T at retires over server fall ending k =
    let here : slice_get now.places.items conn ≡ Some (Retired receipt) = ap (λ (l : List Place). slice_get l conn) retires.0 ∙ found_set before.places.items conn line (Retired receipt) at in (
      retire_keeps conn pushed taken line stands told faults before now T at (λ none. over none (line, at)) (here ∙ ap (λ (r : Receipt). Some (Retired r)) retires.1)
          (λ j apart. ap (λ (l : List Place). slice_get l j) retires.0 ∙ set_others before.places.items conn j (Retired receipt) apart) (ap (λ (l : List Place). length l) retires.0 ∙ length-set before.places.items conn (Retired receipt)) server fall ending k,
      (
        ap receipt_of here,
        ap (λ (r : Receipt). r.pushed) retires.1,
        ap (λ (r : Receipt). r.taken) retires.1,
        ap (λ (r : Receipt). r.handed) retires.1 ∙ line.outward.counted,
        ap (λ (r : Receipt). r.ending) retires.1 ∙ sym ending,
      ),
    )

-- A connection is ended first: nothing is done where an ending was kept, or where it is not alive.
pub ends_kept : (conn : ℕ) (stands : List HistoryEntry → Type 0) (told : Option (List Noted)) (faults : ℕ) (desk : Desk) → is_some desk.ending ≡ true → EndsFirst conn (Keeps stands told faults desk) (Keeps stands told faults desk) desk desk
ends_kept conn stands told faults desk some = record {
  more = [];
  adds = inl refl;
  idle = λ T k un. refl;
  kept_so = λ T k. k;
  over = λ T k none. let no_ending : is_some desk.ending ≡ false = ap (λ (e : Option Ending). is_some e) none in absurd (cc);
  seats = λ T k s. s;
  unhanded = λ T k. nothing_put desk.places.items desk.places.items refl;
  none = λ T k at. (refl, refl);
}

pub ends_dead : (conn : ℕ) (stands : List HistoryEntry → Type 0) (told : Option (List Noted)) (faults : ℕ) (desk : Desk) → ((T : List HistoryEntry) → stands T → is_alive conn T ≡ false) → EndsFirst conn (Keeps stands told faults desk) (Keeps stands told faults desk) desk desk
ends_dead conn stands told faults desk dead = record {
  more = [];
  adds = inl refl;
  idle = λ T k un. refl;
  kept_so = λ T k. k;
  over = λ T k none. dead T k.underway.stood;
  seats = λ T k s. s;
  unhanded = λ T k. nothing_put desk.places.items desk.places.items refl;
  none = λ T k at. (refl, refl);
}

no_ending : (ending : Option Ending) → is_some ending ≡ false → ending ≡ None
no_ending None is = refl
no_ending (Some e) is = cc

-- It was alive, and is ended.
ended_not : (conn : ℕ) (ending : Option Ending) (T : List HistoryEntry) → is_some ending ≡ false → is_alive conn T ≡ true → IsUnended conn ending T → ⊥
ended_not conn ending T unended alive (inl some) = cc
ended_not conn ending T unended alive (inr dead) = cc

alive_line : (conn : ℕ) (stands : List HistoryEntry → Type 0) (told : Option (List Noted)) (faults : ℕ) (desk : Desk) (T : List HistoryEntry) → desk.ending ≡ None → is_alive conn T ≡ true → Keeps stands told faults desk T → line_at desk.places.items conn ≡ None → ⊥
alive_line conn stands told faults desk T none alive k at =
    let line = living_line desk.places.items desk.fall desk.ending T conn k.underway.numbered (k.underway.receipts conn) none alive in
    let some : line_at desk.places.items conn ≡ Some line.0 = line.1 in
    cc

pub ends_taken : (conn : ℕ) (stood stands : List HistoryEntry → Type 0) (told tells : Option (List Noted)) (faults later : ℕ) (before now : Desk) → is_some before.ending ≡ false → ((T : List HistoryEntry) → stood T → is_alive conn T ≡ true)
    → TakesHubEvent (ends conn) stood stands told tells faults later before now → EndsFirst conn (Keeps stood told faults before) (Keeps stands tells later now) before now
ends_taken conn stood stands told tells faults later before now unended alive e =
    let none = no_ending before.ending unended in
    let hand : (T : List HistoryEntry) → Keeps stood told faults before T → HasInHand (ends conn) stood told faults before T = λ T k. idle_in_hand (ends conn) stood told faults before T (λ i. refl) refl refl none k in
    record {
      more = e.later ++ entry (ends conn) e.outcome ∷ [];
      adds = inr (record { outcome = e.outcome; later = e.later; late = e.late; whole = refl });
      idle = λ T k un. absurd (ended_not conn before.ending T unended (alive T k.underway.stood) un);
      kept_so = λ T k. subst (λ (l : List HistoryEntry). Keeps stands tells later now l) (sym (append_assoc e.later (entry (ends conn) e.outcome ∷ []) T)) (e.keeps T (hand T k));
      over = λ T k still. subst (λ (l : List HistoryEntry). is_alive conn l ≡ false) (sym (append_assoc e.later (entry (ends conn) e.outcome ∷ []) T)) (e.dies T (hand T k) conn refl);
      seats = λ T k. e.seats T (hand T k) conn;
      unhanded = λ T k. e.unhanded T (hand T k) refl;
      none = λ T k at. absurd (alive_line conn stood told faults before T none (alive T k.underway.stood) k at);
    }

pub ends_untaken : (conn : ℕ) (fault : NoteFault) (stood stands : List HistoryEntry → Type 0) (told tells : Option (List Noted)) (faults later : ℕ) (before mid now : Desk) → is_some before.ending ≡ false → ((T : List HistoryEntry) → stood T → is_alive conn T ≡ true)
    → IsUntaken fault stood stands told tells faults later before mid → faults ≤ later → Stops (stop_of fault) mid now → EndsFirst conn (Keeps stood told faults before) (Keeps stands tells later now) before now
ends_untaken conn fault stood stands told tells faults later before mid now unended alive untaken more stops_mid =
    let none = no_ending before.ending unended in
    let stop = stopped_since fault stood stands told tells faults later before mid now untaken stops_mid in
    let stays : (T : List HistoryEntry) → Keeps stood told faults before T → Keeps stands tells later now T = λ T k.
    stop_keeps stands tells later before now (stop_of fault) stop (λ r. rose_some faults later (untaken.rose (is_failed fault r))) (λ x. absurd (not_spent fault x)) T
    (moved_keeps stood stands told tells faults later before before T (untaken.stays T) (untaken.notes T) more refl refl refl refl k) in
    record {
      more = [];
      adds = inl refl;
      idle = λ T k un. refl;
      kept_so = stays;
      over = λ T k still.
          let some : now.ending ≡ Some (Stopped (stop_of fault)) = stop.ending ∙ ap (λ (e : Option Ending). option_or e (Some (Stopped (stop_of fault)))) none in
          absurd (cc);
      seats = λ T k. seated_stopped conn before now (stop_of fault) stop;
      unhanded = λ T k. unhanded_stopped before now (stop_of fault) stop;
      none = λ T k at. absurd (alive_line conn stood told faults before T none (alive T k.underway.stood) k at);
    }

-- A connection is retired.
numbered_by : (conn pushed taken : ℕ) (fall : Option Bool) (ending : Option Ending) (receipt : Receipt) (before now : List Place) (line : Option HubConnection) → RetiresBy conn pushed taken fall ending receipt before now line → receipt.conn ≡ conn
numbered_by conn pushed taken fall ending receipt before now None r = ap (λ (x : Receipt). x.conn) r.1
numbered_by conn pushed taken fall ending receipt before now (Some line) r = ap (λ (x : Receipt). x.conn) r.1

pushed_by : (conn pushed taken : ℕ) (fall : Option Bool) (ending : Option Ending) (receipt : Receipt) (before now : List Place) (line : Option HubConnection) → RetiresBy conn pushed taken fall ending receipt before now line → receipt.pushed ≡ pushed
pushed_by conn pushed taken fall ending receipt before now None r = ap (λ (x : Receipt). x.pushed) r.1
pushed_by conn pushed taken fall ending receipt before now (Some line) r = ap (λ (x : Receipt). x.pushed) r.1

taken_by : (conn pushed taken : ℕ) (fall : Option Bool) (ending : Option Ending) (receipt : Receipt) (before now : List Place) (line : Option HubConnection) → RetiresBy conn pushed taken fall ending receipt before now line → receipt.taken ≡ taken
taken_by conn pushed taken fall ending receipt before now None r = ap (λ (x : Receipt). x.taken) r.1
taken_by conn pushed taken fall ending receipt before now (Some line) r = ap (λ (x : Receipt). x.taken) r.1

line_by : (conn pushed taken : ℕ) (receipt : Receipt) (stands : List HistoryEntry → Type 0) (told : Option (List Noted)) (faults : ℕ) (before mid now : Desk) (T : List HistoryEntry) → RetiresPlace conn pushed taken (fall_heard mid.fall) mid.ending receipt mid.places.items now.places.items
    → (mid.ending ≡ None → is_alive conn T ≡ false) → now.server ≡ mid.server → now.fall ≡ mid.fall → now.ending ≡ mid.ending → (IsSeated conn before.places.items → IsSeated conn mid.places.items) → EachLine PutsNothing before.places.items mid.places.items → (line_at before.places.items conn ≡ None → mid ≡ before)
    → Keeps stands told faults mid T → (line : Option HubConnection) → line_at before.places.items conn ≡ line → RetiresLine conn pushed taken line receipt now
line_by conn pushed taken receipt stands told faults before mid now T retires over server fall ending seats unhanded none k None at =
    let same : line_at mid.places.items conn ≡ None = ap (λ (d : Desk). line_at d.places.items conn) (none at) ∙ at in
    (retired_so conn pushed taken receipt None stands told faults mid now T same (subst (RetiresBy conn pushed taken (fall_heard mid.fall) mid.ending receipt mid.places.items now.places.items) same retires) (λ n s. over n) server fall ending k).1
line_by conn pushed taken receipt stands told faults before mid now T retires over server fall ending seats unhanded none k (Some line) at =
    let there = seats (line, at) in
    line_as there.0 line (put_same there.0 line there.1 (subst (λ (o : Option HubConnection). Changes true PutsNothing o (line_at mid.places.items conn)) at (unhanded conn)))
    (retired_so conn pushed taken receipt (Some there.0) stands told faults mid now T there.1 (subst (RetiresBy conn pushed taken (fall_heard mid.fall) mid.ending receipt mid.places.items now.places.items) there.1 retires) (λ n s. over n) server fall ending k).1
  where
    put_same : (there was : HubConnection) → line_at mid.places.items conn ≡ Some there → Changes true PutsNothing (Some was) (line_at mid.places.items conn) → put_of there.outward ≡ put_of was.outward
    put_same there was is changed =
        let found : line_at mid.places.items conn ≡ Some changed.0 = changed.1 in
        let same : there ≡ changed.0 = cc in
        ap (λ (l : HubConnection). put_of l.outward) same ∙ changed.2

    line_as : (there was : HubConnection) → put_of there.outward ≡ put_of was.outward → RetiresLine conn pushed taken (Some there) receipt now → RetiresLine conn pushed taken (Some was) receipt now
    line_as there was same r = (r.0, r.1, r.2, r.3 ∙ ap (λ (l : List Parcel). length l) same, r.4)

same_by : (conn pushed taken : ℕ) (receipt : Receipt) (before mid now : Desk) → line_at before.places.items conn ≡ None → mid ≡ before → RetiresPlace conn pushed taken (fall_heard mid.fall) mid.ending receipt mid.places.items now.places.items
    → now.server ≡ mid.server → now.fall ≡ mid.fall → now.ending ≡ mid.ending → IsSameDesk before now
same_by conn pushed taken receipt before mid now at same retires server fall ending =
    let none : line_at mid.places.items conn ≡ None = ap (λ (d : Desk). line_at d.places.items conn) same ∙ at in
    let by = subst (RetiresBy conn pushed taken (fall_heard mid.fall) mid.ending receipt mid.places.items now.places.items) none retires in
    record {
      server = server ∙ ap (λ (d : Desk). d.server) same;
      places = by.0 ∙ ap (λ (d : Desk). d.places.items) same;
      fall = fall ∙ ap (λ (d : Desk). d.fall) same;
      ending = ending ∙ ap (λ (d : Desk). d.ending) same;
    }

pub retires_all : (conn pushed taken : ℕ) (receipt : Receipt) (stood stands : List HistoryEntry → Type 0) (told tells : Option (List Noted)) (faults later : ℕ) (before mid now : Desk) → EndsFirst conn (Keeps stood told faults before) (Keeps stands tells later mid) before mid
    → RetiresPlace conn pushed taken (fall_heard mid.fall) mid.ending receipt mid.places.items now.places.items → now.server ≡ mid.server → now.fall ≡ mid.fall → now.ending ≡ mid.ending
    → RetiresSo conn pushed taken receipt (Keeps stood told faults before) (Keeps stands tells later now) before now
retires_all conn pushed taken receipt stood stands told tells faults later before mid now e retires server fall ending = record {
  more = e.more;
  adds = e.adds;
  idle = e.idle;
  stranger = λ T k at. let n = e.none T k at in (same_by conn pushed taken receipt before mid now at n.0 retires server fall ending, n.1);
  keeps_so = λ T k. (retired_so conn pushed taken receipt (line_at mid.places.items conn) stands tells later mid now (e.more ++ T) refl retires (λ n s. e.over T k n) server fall ending (e.kept_so T k)).0;
  receipt_so = λ T k. line_by conn pushed taken receipt stands tells later before mid now (e.more ++ T) retires (e.over T k) server fall ending (e.seats T k) (e.unhanded T k) (λ at. (e.none T k at).0) (e.kept_so T k) (line_at before.places.items conn) refl;
  number = numbered_by conn pushed taken (fall_heard mid.fall) mid.ending receipt mid.places.items now.places.items (line_at mid.places.items conn) retires;
  all_pushed = pushed_by conn pushed taken (fall_heard mid.fall) mid.ending receipt mid.places.items now.places.items (line_at mid.places.items conn) retires;
  all_taken = taken_by conn pushed taken (fall_heard mid.fall) mid.ending receipt mid.places.items now.places.items (line_at mid.places.items conn) retires;
}

-- What the code does, by the line.
pub by_none : (conn pushed taken : ℕ) (fall : Option Bool) (ending : Option Ending) (receipt : Receipt) (before : List Place) (line : Option HubConnection) → option_map {U = Receipt} (λ l. receipt_for conn l pushed taken fall ending) line ≡ None → receipt ≡ stranger_receipt conn pushed taken ending
    → RetiresBy conn pushed taken fall ending receipt before before line
by_none conn pushed taken fall ending receipt before None is told = (refl, told)
by_none conn pushed taken fall ending receipt before (Some line) is told = absurd (cc)

same_receipt : (one other : Receipt) → Some one ≡ Some other → one ≡ other
same_receipt one other is = cc

pub by_some : (conn pushed taken : ℕ) (fall : Option Bool) (ending : Option Ending) (receipt : Receipt) (before now : List Place) (line : Option HubConnection) → option_map {U = Receipt} (λ l. receipt_for conn l pushed taken fall ending) line ≡ Some receipt → now ≡ slice_set before conn (Retired receipt)
    → RetiresBy conn pushed taken fall ending receipt before now line
by_some conn pushed taken fall ending receipt before now None is set = absurd (cc)
by_some conn pushed taken fall ending receipt before now (Some line) is set = (set, sym (same_receipt (receipt_for conn line pushed taken fall ending) receipt is))

pub by_past : (conn pushed taken : ℕ) (fall : Option Bool) (ending : Option Ending) (receipt : Receipt) (before : List Place) → slice_get before conn ≡ None → option_map {U = Receipt} (λ l. receipt_for conn l pushed taken fall ending) (line_at before conn) ≡ Some receipt
    → RetiresPlace conn pushed taken fall ending receipt before before
by_past conn pushed taken fall ending receipt before past is =
    let none : line_at before conn ≡ None = ap line_of past in
    let no_receipt : option_map {U = Receipt} (λ l. receipt_for conn l pushed taken fall ending) (line_at before conn) ≡ None = ap (λ (l : Option HubConnection). option_map {U = Receipt} (λ x. receipt_for conn x pushed taken fall ending) l) none in
    absurd (none_some receipt (sym no_receipt ∙ is))
  where
    none_some : (r : Receipt) → None ≡ Some r → ⊥
    none_some r is = cc
