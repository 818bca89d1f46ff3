-- A hub to which nothing happened, and a connection that enters.
use Rattle.std.proofs.Common.{◌≡◌, ◌∙◌, ℕ, zero, suc, ◌<◌, ◌≤◌, ◌+◌, Bool, true, false, ◌==◌, ◌||◌, ◌&&◌, List, [], ◌∷◌, ◌++◌, length, Option, Some, None, Result, Ok, Err, refl, sym, ap, subst, inl, inr, arith}
use Rattle.std.specs.Prelude.{◌⊎◌, is_none}
use Rattle.std.specs.Option.{option_or}
use Rattle.std.specs.List.{slice_get}
use Rattle.std.proofs.lemmas.Option.{slice_get_cases}
use Rattle.std.proofs.lemmas.Bool.{eq-eqb, ne_eqb}
use Rattle.std.proofs.lemmas.List.{append-nil, length-append}
use Rattle.client_machine.specs.Alone.{is_empty_list}
use Rattle.gate_transcript.specs.declared.entry.Entry.{Entry as Noted}
use Rattle.gate_transcript.specs.Notes.{NotesSo}
use Rattle.rtsp_head.specs.Items.{Shape}
use Rattle.client_ports.specs.declared.parcel.Parcel.{Parcel}
use Rattle.client_ports.specs.declared.putter.Putter.{Putter}
use Rattle.client_ports.specs.declared.taker.Taker.{Taker}
use Rattle.client_ports.specs.Ends.{put_of, taken_of, fulls_of, capacity_of, OfOnePort}
use Rattle.gateway_claim.specs.declared.event.UpCause.{UpCause}
use Rattle.gateway_claim.specs.Happenings.{HistoryEntry, enters, entering, entered, fault_in, shut, is_alive, silent}
use Rattle.gateway_claim.specs.Cores.{ever_entered}
use Rattle.hub_queues.specs.declared.ending.Ending.{Ending}
use Rattle.gateway_hub.specs.declared.desk.Fall.{Fall}
use Rattle.gateway_hub.specs.Desks.{fall_heard}
use Rattle.gateway_hub.specs.declared.fault.HubFault.{HubFault}
use Rattle.gateway_hub.specs.declared.fault.HubFault.TheVariants as faults
use Rattle.hub_queues.specs.declared.ending.StopWhy.TheVariants as stops
use Rattle.gateway_hub.specs.declared.seat.Entered.{Entered}
use Rattle.gate_transcript.specs.declared.recorder.NoteFault.{NoteFault}
use Rattle.gate_transcript.specs.declared.recorder.NoteFault.TheVariants as notes
use Rattle.gateway_hub.specs.Calls.{Refuses, Fails}
use Rattle.hub_queues.specs.declared.receipt.Close.{Close}
use Rattle.hub_queues.specs.declared.receipt.Receipt.{Receipt}
use Rattle.hub_queues.specs.declared.line.HubConnection.{HubConnection}
use Rattle.hub_queues.specs.declared.line.Place.{Place}
use Rattle.hub_queues.specs.declared.line.Place.TheVariants.{Seated, Retired}
use Rattle.hub_queues.specs.declared.server.Server.{Server}
use Rattle.gateway_hub.specs.declared.desk.Desk.{Desk}
use Rattle.hub_queues.specs.Closes.{close_in, fall_close}
use Rattle.gateway_hub.specs.Endings.{fell_full, stopped_noting}
use Rattle.gateway_hub.specs.Notes.{note_of, TellsNotes}
use Rattle.hub_queues.specs.Parcels.{items_in, waiting, arrivals, heard_items, as_parcels, handed_up}
use Rattle.hub_queues.specs.Places.{line_of, receipt_of, line_at, receipt_at, Lacks}
use Rattle.gateway_hub.specs.Keeps.{IsHanded, IsHandedUp, IsReceipt, HadNothing, AreNumbered, EndsRightly, Keeps, is_server_excused, close_why, by_upstream_of}
use Rattle.gateway_hub.specs.Enter.{IsNewLine, IsFreshDesk, Seats, IsGiven, Enters}
use Rattle.gateway_hub.proofs.HistoryLemmas.{or_none, fall_none}
use Rattle.gateway_hub.proofs.SettleLemmas.{excused_as, receipt_as}
use Rattle.gateway_hub.proofs.TakeLemmas.{notes_more}

-- Nothing happened.
pub fresh_keeps : (stands : List HistoryEntry → Type 0) (told : Option (List Noted)) (faults : ℕ) (desk : Desk) → stands [] → TellsNotes told [] → IsFreshDesk desk → Keeps stands told faults desk []
fresh_keeps stands told faults desk stood noted fresh = record {
  underway = record {
    stood = stood;
    noted = noted;
    took = λ i line at. absurd (none_at i line at);
    took_up = ap (λ f. waiting f) fresh.first ∙ ap items_in (sym fresh.taken);
    arrived = λ i line at. absurd (none_at i line at);
    closed = λ i line at. absurd (none_at i line at);
    fell = ap fall_heard fresh.fall;
    handed = λ i line at. absurd (none_at i line at);
    up_handed = record { whole = λ z. fresh.put; cut = λ some. absurd (let z = fresh.fulls in omega arith); full = λ full. absurd (cc) };
    receipts = λ i receipt at. absurd (no_receipt i receipt at);
    numbered = record {
      bound = let n = ap (λ (l : List Place). length l) fresh.places in omega arith;
      old = λ i less. absurd (let n = ap (λ (l : List Place). length l) fresh.places in omega arith);
      new = λ i more. refl;
      slow = λ i is. absurd (cc);
      none = λ i more. record { came = refl; handed = refl; closed = refl };
    };
  };
  settled = record { clients = λ i line at some. absurd (none_at i line at); up = λ some. absurd (let z = fresh.fulls in omega arith) };
  cause = subst (λ (e : Option Ending). EndsRightly faults (length desk.places.items) e []) (sym fresh.ending) refl;
  owed = λ conn is. absurd (cc);
  owed_up = λ is. absurd (cc);
}
  where
    none_at : (i : ℕ) (line : HubConnection) → line_at desk.places.items i ≡ Some line → ⊥
    none_at i line at = let e : line_at desk.places.items i ≡ None = ap (λ (l : List Place). line_at l i) fresh.places in cc

    no_receipt : (i : ℕ) (receipt : Receipt) → receipt_at desk.places.items i ≡ Some receipt → ⊥
    no_receipt i receipt at = let e : receipt_at desk.places.items i ≡ None = ap (λ (l : List Place). receipt_at l i) fresh.places in cc

-- The places with one more at the end.
pub snoc_get : (places : List Place) (place : Place) (i : ℕ) → (slice_get (places ++ place ∷ []) i ≡ slice_get places i) ⊎ ((i ≡ length places) × (slice_get (places ++ place ∷ []) i ≡ Some place))
snoc_get [] place zero = inr (refl, refl)
snoc_get [] place (suc i) = inl refl
snoc_get (p ∷ places) place zero = inl refl
snoc_get (p ∷ places) place (suc i) = elim (snoc_get places place i) [ inl same ↦ inl same | inr new ↦ inr (let n = new.0 in omega arith, new.1) ]

line_more : (places : List Place) (place : Place) (line : HubConnection) (i : ℕ) (now : HubConnection) → line_of (Some place) ≡ Some line → line_at (places ++ place ∷ []) i ≡ Some now → (line_at places i ≡ Some now) ⊎ ((i ≡ length places) × (now ≡ line))
line_more places place line i now is at = elim (snoc_get places place i) [
  | inl same ↦ inl (sym (ap line_of same) ∙ at)
  | inr new ↦ inr (new.0, let e : line_at (places ++ place ∷ []) i ≡ Some line = ap line_of new.1 ∙ is in cc)
]

-- one with a line has no receipt
no_receipt_yet : (place : Place) (line : HubConnection) → line_of (Some place) ≡ Some line → receipt_of (Some place) ≡ None
no_receipt_yet (Seated boxed) line is = refl
no_receipt_yet (Retired receipt) line is = cc

receipt_same : (places : List Place) (place : Place) (line : HubConnection) (i : ℕ) (receipt : Receipt) → line_of (Some place) ≡ Some line → receipt_at (places ++ place ∷ []) i ≡ Some receipt → receipt_at places i ≡ Some receipt
receipt_same places place line i receipt is at = elim (snoc_get places place i) [
  | inl same ↦ sym (ap receipt_of same) ∙ at
  | inr new ↦ let e : receipt_at (places ++ place ∷ []) i ≡ None = ap receipt_of new.1 ∙ no_receipt_yet place line is in absurd (cc)
]

receipt_within : (places : List Place) (i : ℕ) (receipt : Receipt) → receipt_at places i ≡ Some receipt → i < length places
receipt_within places i receipt at = elim (slice_get_cases places i).1 [ inl w ↦ w.1 | inr w ↦ let none : receipt_at places i ≡ None = ap receipt_of w.1 in absurd (cc) ]

-- what the history says of another connection after an entering
other_number : (n i : ℕ) → i < n → (n == i) ≡ false
other_number n i less = ne_eqb n i (λ same. absurd (omega arith))

less_number : (n i : ℕ) → i < n + 1 → (n == i) ≡ false → i < n
less_number n i less other = below (λ same. let here : (n == i) ≡ true = eq-eqb n i same in cc)
  where
    below : (n ≡ i → ⊥) → i < n
    below never = omega arith

later_number : (n i : ℕ) → n + 1 ≤ i → (n == i) ≡ false
later_number n i less = ne_eqb n i (λ same. absurd (omega arith))

dead_still : (n i : ℕ) (T : List HistoryEntry) → i < n → is_alive i T ≡ false → is_alive i (entering n ∷ T) ≡ false
dead_still n i T less dead = ap (λ b. ((b && is_none (fault_in T)) || entered i T) && is_empty_list (shut i T)) (other_number n i less) ∙ dead

close_still : (i n : ℕ) (T : List HistoryEntry) → close_in i (entering n ∷ T) ≡ close_in i T
close_still i n T = or_none (close_in i T)

handed_still : (i n : ℕ) (put : List Parcel) (fulls : ℕ) (T : List HistoryEntry) → IsHanded i put fulls T → IsHanded i put fulls (entering n ∷ T)
handed_still i n put fulls T was = record { whole = was.whole; cut = was.cut; slow = was.slow }

receipt_still : (i n : ℕ) (receipt : Receipt) (fall : Option Fall) (ending : Option Ending) (T : List HistoryEntry) → i < n → IsReceipt i receipt fall ending T → IsReceipt i receipt fall ending (entering n ∷ T)
receipt_still i n receipt fall ending T less was = record {
  over = λ none. dead_still n i T less (was.over none);
  tells = record {
    conn = was.tells.conn;
    arrived = was.tells.arrived ∙ ap (λ (l : List Shape). length l) (sym (append-nil (arrivals i T)));
    put = was.tells.put;
    fulls = was.tells.fulls;
    handed = was.tells.handed;
    is_handed = handed_still i n was.tells.put was.tells.fulls T was.tells.is_handed;
    excused = was.tells.excused;
    why = was.tells.why ∙ ap close_why (sym (close_still i n T));
    by_upstream = was.tells.by_upstream ∙ ap by_upstream_of (sym (close_still i n T));
  };
}

old_by : (n i : ℕ) (T : List HistoryEntry) → fault_in T ≡ None → (i < n → entered i T ≡ true) → i < n + 1 → (here : Bool) → (n == i) ≡ here → (((n == i) && is_none (fault_in T)) || entered i T) ≡ true
old_by n i T standing old less true here = ap (λ b. (b && is_none (fault_in T)) || entered i T) here ∙ ap (λ (f : Option UpCause). is_none f || entered i T) standing
old_by n i T standing old less false here = ap (λ b. (b && is_none (fault_in T)) || entered i T) here ∙ old (less_number n i less here)

-- A connection enters, under the next number.
pub entered_keeps : (stood stands : List HistoryEntry → Type 0) (told tells : Option (List Noted)) (faults later : ℕ) (before now : Desk) (line : HubConnection) (T : List HistoryEntry) → length before.places.items < 4294967295 → IsNewLine line → Seats line before now → stands (entering (length before.places.items) ∷ T)
    → NotesSo told tells (note_of (enters (length before.places.items))) (Ok tt) → before.ending ≡ None → Keeps stood told faults before T → Keeps stands tells later now (entering (length before.places.items) ∷ T)
entered_keeps stood stands told tells faults later before now line T few fresh seats stood_now noted none k =
    let n = length before.places.items in
    let u = k.underway in
    let was : (i : ℕ) (l : HubConnection) → line_at now.places.items i ≡ Some l → (line_at before.places.items i ≡ Some l) ⊎ ((i ≡ n) × (l ≡ line)) = λ i l at. line_more before.places.items seats.place line i l seats.is_line (ap (λ (x : List Place). line_at x i) (sym seats.places) ∙ at) in
    let nothing : (i : ℕ) → i ≡ n → HadNothing i T = λ i is. u.numbered.none i (omega arith) in
    let standing : fault_in T ≡ None = subst (λ (e : Option Ending). EndsRightly faults n e T) none k.cause in
    let unfallen : fall_heard now.fall ≡ None = ap fall_heard seats.fall ∙ u.fell ∙ fall_none T standing in
    let size : length now.places.items ≡ n + 1 = ap (λ (x : List Place). length x) seats.places ∙ length-append before.places.items (seats.place ∷ []) in
    let same_up : handed_up (entering n ∷ T) ≡ handed_up T = append-nil (handed_up T) in
    let up_same : IsHandedUp (put_of now.server.outward) (fulls_of now.server.outward) (entering n ∷ T) =
    subst (λ (s : Server). IsHandedUp (put_of s.outward) (fulls_of s.outward) (entering n ∷ T)) (sym seats.server) (record {
      whole = λ z. u.up_handed.whole z ∙ sym same_up;
      cut = λ some. subst (λ (l : List Parcel). Lacks l (put_of before.server.outward)) (sym same_up) (u.up_handed.cut some);
      full = λ full. u.up_handed.full (subst (λ (f : Option UpCause). fell_full f ≡ true) (or_none (fault_in T)) full);
    }) in
    record {
      underway = record {
        stood = stood_now;
        noted = notes_more told tells T (enters n) silent u.noted noted;
        took = λ i l at. elim (was i l at) [
          | inl old ↦ ap (λ (x : List Shape). x ++ waiting l.first) (append-nil (arrivals i T)) ∙ u.took i l old
          | inr new ↦
              ap (λ (x : List Shape). x ++ waiting l.first) (append-nil (arrivals i T) ∙ (nothing i new.0).came)
              ∙ ap (λ (x : HubConnection). waiting x.first) new.1 ∙ ap (λ f. waiting f) fresh.first ∙ ap items_in (sym fresh.taken) ∙ ap (λ (x : HubConnection). items_in (taken_of x.inward)) (sym new.1)
        ];
        took_up = ap (λ (x : List Shape). x ++ waiting now.server.first) (append-nil (heard_items T)) ∙ subst (λ (s : Server). heard_items T ++ waiting s.first ≡ items_in (taken_of s.inward)) (sym seats.server) u.took_up;
        arrived = λ i l at. elim (was i l at) [
          | inl old ↦ u.arrived i l old ∙ ap (λ (x : List Shape). length x) (sym (append-nil (arrivals i T)))
          | inr new ↦ ap (λ (x : HubConnection). x.arrived) new.1 ∙ fresh.arrived ∙ ap (λ (x : List Shape). length x) (sym (append-nil (arrivals i T) ∙ (nothing i new.0).came))
        ];
        closed = λ i l at. close_still i n T ∙ elim (was i l at) [
          | inl old ↦ u.closed i l old ∙ ap (λ (f : Option Bool). option_or l.close (fall_close f)) (sym (ap fall_heard seats.fall))
          | inr new ↦
              (nothing i new.0).closed
              ∙ ap (λ (f : Option Bool). fall_close f) (sym unfallen)
              ∙ ap (λ (c : Option Close). option_or c (fall_close (fall_heard now.fall))) (sym fresh.close)
              ∙ ap (λ (x : HubConnection). option_or x.close (fall_close (fall_heard now.fall))) (sym new.1)
        ];
        fell = unfallen ∙ sym (ap (λ (f : Option Bool). option_or f None) (fall_none T standing));
        handed = λ i l at. elim (was i l at) [
          | inl old ↦ handed_still i n (put_of l.outward) (fulls_of l.outward) T (u.handed i l old)
          | inr new ↦ subst (λ (x : HubConnection). IsHanded i (put_of x.outward) (fulls_of x.outward) (entering n ∷ T)) (sym new.1) (record {
            whole = λ z. fresh.put ∙ ap as_parcels (sym (nothing i new.0).handed);
            cut = λ some. absurd (let z = fresh.fulls in omega arith);
            slow = λ lag. let w = (u.numbered.slow i lag).0 in let e = new.0 in absurd (omega arith);
          })
        ];
        up_handed = up_same;
        receipts = λ i receipt at.
            let old : receipt_at before.places.items i ≡ Some receipt = receipt_same before.places.items seats.place line i receipt seats.is_line (ap (λ (l : List Place). receipt_at l i) (sym seats.places) ∙ at) in
            receipt_as i receipt before.fall now.fall before.ending now.ending (entering n ∷ T) seats.fall seats.ending (receipt_still i n receipt before.fall before.ending T (receipt_within before.places.items i receipt old) (u.receipts i receipt old));
        numbered = subst (λ (m : ℕ). AreNumbered m (entering n ∷ T)) (sym size) (record {
          bound = omega arith;
          old = λ i less. old_by n i T standing (u.numbered.old i) less (n == i) refl;
          new = λ i more. ap (λ b. b || ever_entered i T) (later_number n i more) ∙ u.numbered.new i (omega arith);
          slow = λ i lag. let w = u.numbered.slow i lag in (let l = w.0 in omega arith, dead_still n i T w.0 w.1);
          none = λ i more. let w = u.numbered.none i (omega arith) in record { came = append-nil (arrivals i T) ∙ w.came; handed = w.handed; closed = close_still i n T ∙ w.closed };
        });
      };
      settled = record {
        clients = λ i l at some. elim (was i l at) [
          | inl old ↦ excused_as i None before.fall now.fall before.ending now.ending (entering n ∷ T) seats.fall seats.ending (k.settled.clients i l old some)
          | inr new ↦ absurd (let z = fresh.fulls in let s : 0 < fulls_of line.outward = subst (λ (x : HubConnection). 0 < fulls_of x.outward) new.1 some in omega arith)
        ];
        up = λ some. subst (λ (e : Option Ending). is_server_excused false e (entering n ∷ T) ≡ true) (sym seats.ending)
            (subst (λ (f : Option UpCause). (fell_full f || (stopped_noting before.ending || false)) ≡ true) (sym (or_none (fault_in T)))
            (k.settled.up (subst (λ (s : Server). 0 < fulls_of s.outward) seats.server some)));
      };
      cause = subst (λ (e : Option Ending). EndsRightly later (length now.places.items) e (entering n ∷ T)) (sym (seats.ending ∙ none)) (ap (λ (f : Option UpCause). option_or f None) standing);
      owed = λ conn is. absurd (cc);
      owed_up = λ is. absurd (cc);
    }

pub is_fresh : (desk : Desk) (inward : Taker) (outward : Putter) → desk.server ≡ record { inward = inward; outward = outward; first = None } → desk.places.items ≡ [] → desk.fall ≡ None → desk.ending ≡ None → taken_of inward ≡ [] → put_of outward ≡ [] → fulls_of outward ≡ 0 → IsFreshDesk desk
is_fresh desk inward outward server places fall ending taken put fulls = record {
  taken = ap (λ (s : Server). taken_of s.inward) server ∙ taken;
  first = ap (λ (s : Server). s.first) server;
  put = ap (λ (s : Server). put_of s.outward) server ∙ put;
  fulls = ap (λ (s : Server). fulls_of s.outward) server ∙ fulls;
  places = places;
  fall = fall;
  ending = ending;
}

spent_or : (fault : HubFault) (kept keeps : List HistoryEntry → Type 0) (before now : Desk) → Fails fault kept keeps before.ending now.ending → (history : List HistoryEntry) → kept history → (next : List HistoryEntry) × keeps next
spent_or (faults.Ended cause) kept keeps before now f T k = (T, f.1 T k)
spent_or (faults.Stopped why) kept keeps before now f T k = (T, f.1 T k)
spent_or faults.RecordFault kept keeps before now f T k = (T, f.1 T k)
spent_or faults.Memory kept keeps before now f T k = (T, f.1 T k)

pub enters_go : (result : Result Entered HubFault) (kept keeps : List HistoryEntry → Type 0) (before now : Desk) → Enters result kept keeps before now → (history : List HistoryEntry) → kept history → (next : List HistoryEntry) × keeps next
enters_go (Ok entered) kept keeps before now e T k = (entering (length before.places.items) ∷ T, e.3 T k)
enters_go (Err (faults.Stopped stops.Spent)) kept keeps before now e T k = (T, e.1 T k)
enters_go (Err (faults.Stopped stops.Memory)) kept keeps before now e T k = spent_or (faults.Stopped stops.Memory) kept keeps before now e T k
enters_go (Err (faults.Stopped stops.Crew)) kept keeps before now e T k = spent_or (faults.Stopped stops.Crew) kept keeps before now e T k
enters_go (Err (faults.Stopped stops.Accept)) kept keeps before now e T k = spent_or (faults.Stopped stops.Accept) kept keeps before now e T k
enters_go (Err (faults.Stopped stops.Record)) kept keeps before now e T k = spent_or (faults.Stopped stops.Record) kept keeps before now e T k
enters_go (Err (faults.Stopped stops.DoorEnd)) kept keeps before now e T k = spent_or (faults.Stopped stops.DoorEnd) kept keeps before now e T k
enters_go (Err (faults.Ended cause)) kept keeps before now e T k = spent_or (faults.Ended cause) kept keeps before now e T k
enters_go (Err faults.RecordFault) kept keeps before now e T k = spent_or faults.RecordFault kept keeps before now e T k
enters_go (Err faults.Memory) kept keeps before now e T k = spent_or faults.Memory kept keeps before now e T k

-- A recorder's fault is no stop.
pub refused_enters : (fault : NoteFault) (answer : HubFault) (kept keeps : List HistoryEntry → Type 0) (before mid now : Desk) → Refuses fault answer mid now → Fails answer kept keeps before.ending now.ending → Enters (Err answer) kept keeps before now
refused_enters notes.Memory answer kept keeps before mid now refuses f = subst (λ (a : HubFault). Enters (Err a) kept keeps before now) (sym refuses.0) (subst (λ (a : HubFault). Fails a kept keeps before.ending now.ending) refuses.0 f)
refused_enters notes.Failed answer kept keeps before mid now refuses f = subst (λ (a : HubFault). Enters (Err a) kept keeps before now) (sym refuses.0) (subst (λ (a : HubFault). Fails a kept keeps before.ending now.ending) refuses.0 f)

-- The line of a connection that enters.
abbrev pub IsLineOf : HubConnection → Taker → Putter → Type 0
IsLineOf line inward outward = line ≡ record { inward = inward; outward = outward; first = None; arrived = 0; close = None }

pub new_line : (line : HubConnection) (inward : Taker) (outward : Putter) → IsLineOf line inward outward → taken_of inward ≡ [] → put_of outward ≡ [] → fulls_of outward ≡ 0 → IsNewLine line
new_line line inward outward is taken put fulls = record {
  taken = ap (λ (l : HubConnection). taken_of l.inward) is ∙ taken;
  first = ap (λ (l : HubConnection). l.first) is;
  put = ap (λ (l : HubConnection). put_of l.outward) is ∙ put;
  fulls = ap (λ (l : HubConnection). fulls_of l.outward) is ∙ fulls;
  arrived = ap (λ (l : HubConnection). l.arrived) is;
  close = ap (λ (l : HubConnection). l.close) is;
}

pub as_given : (entered : Entered) (line : HubConnection) (inward : Taker) (outward : Putter) → IsLineOf line inward outward → OfOnePort entered.inward inward → OfOnePort outward entered.outward → capacity_of entered.inward ≡ 16 → capacity_of outward ≡ 256
    → put_of entered.inward ≡ [] → taken_of entered.outward ≡ [] → IsGiven entered line
as_given entered line inward outward is one other capacity other_capacity put taken = record {
  inward = subst (λ (l : HubConnection). OfOnePort entered.inward l.inward) (sym is) one;
  outward = subst (λ (l : HubConnection). OfOnePort l.outward entered.outward) (sym is) other;
  inward_capacity = capacity;
  outward_capacity = subst (λ (l : HubConnection). capacity_of l.outward ≡ 256) (sym is) other_capacity;
  nothing_put = put;
  nothing_taken = taken;
}
