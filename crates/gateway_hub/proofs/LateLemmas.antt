-- A client that is found too slow, and an event with those that full ports ask for.
use Rattle.std.proofs.Common.{◌≡◌, ◌∙◌, ℕ, zero, suc, ◌<◌, ◌≤◌, Bool, true, false, ◌||◌, List, [], ◌∷◌, ◌++◌, length, Option, Some, None, refl, sym, ap, subst, inl, inr, arith}
use Rattle.std.specs.Prelude.{◌⊎◌, is_some}
use Rattle.std.proofs.lemmas.Bool.{eqb-true, eq-eqb}
use Rattle.std.proofs.lemmas.List.{append_assoc}
use Rattle.gate_transcript.specs.declared.entry.Entry.{Entry as Noted}
use Rattle.client_ports.specs.Ends.{fulls_of}
use Rattle.gateway_claim.specs.declared.event.UpCause.{UpCause}
use Rattle.gate_transcript.specs.declared.entry.UpWhy.TheVariants as whys
use Rattle.gateway_claim.specs.Happenings.{Happening, HistoryEntry, enters, takes, ends, lags, hears, up_ends, enters_here, fault_in, is_alive}
use Rattle.hub_queues.specs.declared.ending.Ending.{Ending}
use Rattle.hub_queues.specs.declared.ending.Ending.TheVariants.{Upstream, Stopped}
use Rattle.gateway_hub.specs.declared.desk.Desk.{Desk}
use Rattle.gateway_hub.specs.declared.desk.Fall.{Fall}
use Rattle.gateway_hub.specs.declared.desk.Delivery.{Delivery}
use Rattle.hub_queues.specs.Closes.{lags_here, lagged}
use Rattle.gateway_hub.specs.Endings.{cut_short, stopped_noting, fell_full, is_stopped}
use Rattle.hub_queues.specs.Places.{IsRefused, IsSeated}
use Rattle.gateway_hub.specs.Keeps.{ArePortsSettled, EndsRightly, KeepsOwing, is_excused}
use Rattle.gateway_hub.specs.Take.{may_hand, IsReadyToTake, owes, TakesOneEvent, is_late, AreLate, SettlesOwed, HasInHand, TakesHubEvent}
use Rattle.gateway_hub.proofs.HistoryLemmas.{entry, dead_more}
use Rattle.gateway_hub.specs.Ends.{PutsFor}
use Rattle.gateway_hub.proofs.OweLemmas.{underway_idle, ends_later, settle_client}
use Rattle.gateway_hub.proofs.PutLemmas.{nothings_put}

or_none_right : (b : Bool) → (b || false) ≡ b
or_none_right true = refl
or_none_right false = refl

zero_or : (n : ℕ) → (0 < n → ⊥) → n ≡ 0
zero_or zero never = refl
zero_or (suc n) never = absurd (never (omega arith))

-- While an ending other than a stop is kept, the connection to the server has ended.
open_by : (faults count : ℕ) (ending : Option Ending) (T : List HistoryEntry) → is_stopped ending ≡ false → EndsRightly faults count ending T → (ending ≡ None) ⊎ (is_some (fault_in T) ≡ true)
open_by faults count None T going cause = inl refl
open_by faults count (Some (Upstream why)) T going cause = inr (ap (λ (f : Option UpCause). is_some f) cause)
open_by faults count (Some (Stopped why)) T going cause = absurd (cc)

unstopped : (ending : Option Ending) → is_stopped ending ≡ false → stopped_noting ending ≡ false
unstopped None is = refl
unstopped (Some (Upstream cause)) is = refl
unstopped (Some (Stopped why)) is = cc

unfallen : (fault : Option UpCause) → is_some fault ≡ false → fell_full fault ≡ false
unfallen None is = refl
unfallen (Some cause) is = cc

-- While the connection to the server stands and nothing is owed, its port was never full.
pub never_full : (client : Option ℕ) (desk : Desk) (T : List HistoryEntry) → is_stopped desk.ending ≡ false → is_some (fault_in T) ≡ false → ArePortsSettled client false desk T → fulls_of desk.server.outward ≡ 0
never_full client desk T going standing s = zero_or (fulls_of desk.server.outward) (λ some.
    let excused = s.up some in
    let full = unfallen (fault_in T) standing in
    let stop = unstopped desk.ending going in
    none_of (fell_full (fault_in T)) (stopped_noting desk.ending) full stop excused)
  where
    none_of : (a b : Bool) → a ≡ false → b ≡ false → (a || (b || false)) ≡ true → ⊥
    none_of true b x y is = cc
    none_of false true x y is = cc
    none_of false false x y is = cc

ready_to_lag : (conn : ℕ) (stands : List HistoryEntry → Type 0) (told : Option (List Noted)) (faults : ℕ) (desk : Desk) (T : List HistoryEntry) → is_stopped desk.ending ≡ false → KeepsOwing (Some conn) false stands told faults desk T → IsReadyToTake (lags conn) desk T
ready_to_lag conn stands told faults desk T going k = record {
  open_or_over = open_by faults (length desk.places.items) desk.ending T going k.cause;
  clients = λ may. absurd (cc);
  up = λ may standing. never_full (Some conn) desk T going standing k.settled;
  slow = λ i here. subst (λ n. IsRefused n desk.places.items) (eqb-true conn i here) (k.owed conn refl).0;
  full = λ is. absurd (cc);
  seated = λ i none. refl;
}

open_standing : (faults count : ℕ) (ending : Option Ending) (T : List HistoryEntry) → ending ≡ None → EndsRightly faults count ending T → fault_in T ≡ None
open_standing faults count ending T is cause = subst (λ (e : Option Ending). EndsRightly faults count e T) is cause

no_late_entering : (i : ℕ) (h : Happening) → is_late h ≡ true → enters_here i h ≡ false
no_late_entering i (enters conn) late = cc
no_late_entering i (takes conn shape) late = refl
no_late_entering i (ends conn) late = refl
no_late_entering i (lags conn) late = refl
no_late_entering i (hears shape) late = refl
no_late_entering i (up_ends why) late = refl

-- Where the connection to the server stands, no ending but a stop is kept.
none_kept : (faults count : ℕ) (ending : Option Ending) (T : List HistoryEntry) → is_stopped ending ≡ false → fault_in T ≡ None → EndsRightly faults count ending T → ending ≡ None
none_kept faults count None T going standing cause = refl
none_kept faults count (Some (Upstream why)) T going standing cause = absurd (cc)
none_kept faults count (Some (Stopped why)) T going standing cause = absurd (cc)

late_twice : (later earlier : List HistoryEntry) → AreLate later → AreLate earlier → AreLate (later ++ earlier)
late_twice [] earlier first next = next
late_twice (e ∷ later) earlier first next = (first.0, late_twice later earlier first.1 next)

-- A client was found too slow.
record Lagged (stands : List HistoryEntry → Type 0) (tells : Option (List Noted)) (faults : ℕ) (delivery : Delivery) (before mid : Desk) (next : List HistoryEntry) : Type 0 where
  keeps : KeepsOwing None delivery.server stands tells faults mid next
  seats : (i : ℕ) → IsSeated i before.places.items → IsSeated i mid.places.items
  unlanded : delivery.landed ≡ None

lag_step : (stood between : List HistoryEntry → Type 0) (told tells_between : Option (List Noted)) (faults mid_faults : ℕ) (before mid : Desk) (conn : ℕ) (delivery : Delivery) → is_stopped before.ending ≡ false
    → (one : TakesOneEvent (lags conn) delivery stood between told tells_between before mid) → faults ≤ mid_faults → (T : List HistoryEntry) → KeepsOwing (Some conn) false stood told faults before T → Lagged between tells_between mid_faults delivery before mid (entry (lags conn) one.outcome ∷ T)
lag_step stood between told tells_between faults mid_faults before mid conn delivery going one more T k =
    let s = one.steps T (ready_to_lag conn stood told faults before T going k) (underway_idle stood told before T (lags conn) (λ i. refl) refl k.underway) in
    let quiet = s.quiet refl in
    let next = entry (lags conn) one.outcome ∷ T in
    let lag : lagged conn next ≡ true = ap (λ b. b || lagged conn T) (eq-eqb conn conn refl) in
    let settled = subst (λ (r : Option ℕ). ArePortsSettled (owes r (Some conn)) (delivery.server || false) mid next) quiet (s.settled (Some conn) false (inr quiet) k.settled) in
    let owed = subst (λ (b : Bool). ArePortsSettled (Some conn) b mid next) (or_none_right delivery.server) settled in
    record {
      keeps = record {
        underway = s.underway;
        settled = settle_client conn delivery.server mid next (inl lag) owed;
        cause = ends_later faults mid_faults (length mid.places.items) mid.ending next more (subst (λ (n : ℕ). EndsRightly faults n mid.ending next) (sym s.size) (s.cause faults (length before.places.items) k.cause));
        owed = λ c is. absurd (cc);
        owed_up = λ full. (s.open_still (inl full) ∙ none_kept faults (length before.places.items) before.ending T going (s.still_stands (inl full)) k.cause, s.server full);
      };
      seats = s.seats;
      unlanded = s.unlanded refl;
    }

-- What was owed after it is settled.
pub lag_taken : (stood between stands : List HistoryEntry → Type 0) (told tells_between tells : Option (List Noted)) (faults mid_faults later : ℕ) (before mid now : Desk) (conn : ℕ) (delivery : Delivery) → is_stopped before.ending ≡ false
    → TakesOneEvent (lags conn) delivery stood between told tells_between before mid → faults ≤ mid_faults → PutsFor delivery.landed before.places.items mid.places.items → SettlesOwed None delivery.server None false between stands tells_between tells mid_faults later mid now
    → SettlesOwed (Some conn) false None false stood stands told tells faults later before now
lag_taken stood between stands told tells_between tells faults mid_faults later before mid now conn delivery going one more puts rest = record {
  later = rest.later ++ entry (lags conn) one.outcome ∷ [];
  late = late_twice rest.later (entry (lags conn) one.outcome ∷ []) rest.late (refl, tt);
  keeps = λ T k.
      let l = lag_step stood between told tells_between faults mid_faults before mid conn delivery going one more T k in
      subst (λ (l : List HistoryEntry). KeepsOwing None false stands tells later now l) (sym (append_assoc rest.later (entry (lags conn) one.outcome ∷ []) T)) (rest.keeps (entry (lags conn) one.outcome ∷ T) l.keeps);
  seats = λ T k i s.
      let l = lag_step stood between told tells_between faults mid_faults before mid conn delivery going one more T k in
      rest.seats (entry (lags conn) one.outcome ∷ T) l.keeps i (l.seats i s);
  unhanded = λ T k.
      let l = lag_step stood between told tells_between faults mid_faults before mid conn delivery going one more T k in
      nothings_put before.places.items mid.places.items now.places.items (subst (λ (o : Option ℕ). PutsFor o before.places.items mid.places.items) l.unlanded puts) (rest.unhanded (entry (lags conn) one.outcome ∷ T) l.keeps);
}

-- The event itself.
early_lag : (h : Happening) (i : ℕ) → is_late h ≡ false → lags_here i h ≡ true → ⊥
early_lag (enters conn) i early is = cc
early_lag (takes conn shape) i early is = cc
early_lag (ends conn) i early is = cc
early_lag (lags conn) i early is = cc
early_lag (hears shape) i early is = cc
early_lag (up_ends why) i early is = cc

early_full : (h : Happening) → is_late h ≡ false → h ≡ up_ends whys.UpFull → ⊥
early_full h early is = let late : is_late h ≡ true = ap is_late is in cc

open_desk : (ending : Option Ending) → ending ≡ None → is_stopped ending ≡ false
open_desk ending is = ap is_stopped is

never_cut : (i : ℕ) (fall : Option Fall) (ending : Option Ending) (T : List HistoryEntry) → ending ≡ None → is_excused i None fall ending T ≡ true → lagged i T ≡ true
never_cut i fall ending T none is = by (lagged i T) (cut_short fall ending) (ap (cut_short fall) none) is
  where
    by : (a b : Bool) → b ≡ false → (a || (b || false)) ≡ true → a ≡ true
    by true b x y = refl
    by false true x y = cc
    by false false x y = cc

ready_in_hand : (h : Happening) (stands : List HistoryEntry → Type 0) (told : Option (List Noted)) (faults : ℕ) (desk : Desk) (T : List HistoryEntry) → HasInHand h stands told faults desk T → IsReadyToTake h desk T
ready_in_hand h stands told faults desk T k = record {
  open_or_over = inl k.still_open;
  clients = λ may i line at alive. zero_or (fulls_of line.outward) (λ some.
      let lag = never_cut i desk.fall desk.ending T k.still_open (k.settled.clients i line at some) in
      let dead = (k.underway.numbered.slow i lag).1 in
      cc);
  up = λ may standing. never_full None desk T (open_desk desk.ending k.still_open) standing k.settled;
  slow = λ i here. absurd (early_lag h i k.early here);
  full = λ is. absurd (early_full h k.early is);
  seated = k.seated;
}

owes_none : (refused : Option ℕ) → owes refused None ≡ refused
owes_none None = refl
owes_none (Some conn) = refl

some_conn : (refused : Option ℕ) (conn : ℕ) → refused ≡ Some conn → is_some refused ≡ true
some_conn refused conn is = ap (λ (r : Option ℕ). is_some r) is

record Began (stands : List HistoryEntry → Type 0) (tells : Option (List Noted)) (faults : ℕ) (delivery : Delivery) (h : Happening) (before mid : Desk) (next : List HistoryEntry) : Type 0 where
  keeps : KeepsOwing delivery.client delivery.server stands tells faults mid next
  seats : (i : ℕ) → IsSeated i before.places.items → IsSeated i mid.places.items
  unlanded : may_hand h ≡ false → delivery.landed ≡ None
  dies : (conn : ℕ) → h ≡ ends conn → is_alive conn next ≡ false

begin_step : (h : Happening) (stood one_stands : List HistoryEntry → Type 0) (told one_tells : Option (List Noted)) (faults one_faults : ℕ) (before one_desk : Desk) (delivery : Delivery) (one : TakesOneEvent h delivery stood one_stands told one_tells before one_desk) → faults ≤ one_faults
    → (T : List HistoryEntry) → HasInHand h stood told faults before T → Began one_stands one_tells one_faults delivery h before one_desk (entry h one.outcome ∷ T)
begin_step h stood one_stands told one_tells faults one_faults before one_desk delivery one more T k =
    let s = one.steps T (ready_in_hand h stood told faults before T k) k.underway in
    let next = entry h one.outcome ∷ T in
    let settled = subst (λ (r : Option ℕ). ArePortsSettled r (delivery.server || false) one_desk next) (owes_none delivery.client) (s.settled None false (inl refl) k.settled) in
    record {
      keeps = record {
        underway = s.underway;
        settled = subst (λ (b : Bool). ArePortsSettled delivery.client b one_desk next) (or_none_right delivery.server) settled;
        cause = ends_later faults one_faults (length one_desk.places.items) one_desk.ending next more (subst (λ (n : ℕ). EndsRightly faults n one_desk.ending next) (sym s.size) (s.cause faults (length before.places.items) k.cause));
        owed = λ conn is. (s.client conn is, inl (s.open_still (inr (some_conn delivery.client conn is)) ∙ k.still_open));
        owed_up = λ full. (s.open_still (inl full) ∙ k.still_open, s.server full);
      };
      seats = s.seats;
      unlanded = s.unlanded;
      dies = λ conn is. s.dies conn is (open_standing faults (length before.places.items) before.ending T k.still_open k.cause);
    }

-- Events that full ports ask for bring none back.
late_dead : (later T : List HistoryEntry) (i : ℕ) → AreLate later → is_alive i T ≡ false → is_alive i (later ++ T) ≡ false
late_dead [] T i late dead = dead
late_dead (e ∷ later) T i late dead = dead_more i (later ++ T) e.happening e.outcome (no_late_entering i e.happening late.0) (late_dead later T i late.1 dead)

pub event_taken : (h : Happening) (stood one_stands end_stands stands : List HistoryEntry → Type 0) (told one_tells end_tells tells : Option (List Noted)) (faults one_faults end_faults later : ℕ) (before one_desk end_desk now : Desk) (delivery : Delivery)
    → TakesOneEvent h delivery stood one_stands told one_tells before one_desk → faults ≤ one_faults → PutsFor delivery.landed before.places.items one_desk.places.items
    → SettlesOwed delivery.client delivery.server delivery.client false one_stands end_stands one_tells end_tells one_faults end_faults one_desk end_desk
    → SettlesOwed delivery.client false None false end_stands stands end_tells tells end_faults later end_desk now
    → TakesHubEvent h stood stands told tells faults later before now
event_taken h stood one_stands end_stands stands told one_tells end_tells tells faults one_faults end_faults later before one_desk end_desk now delivery one more puts end lag = record {
  outcome = one.outcome;
  later = lag.later ++ end.later;
  late = late_twice lag.later end.later lag.late end.late;
  keeps = λ T k.
      let b = begin_step h stood one_stands told one_tells faults one_faults before one_desk delivery one more T k in
      subst (λ (l : List HistoryEntry). KeepsOwing None false stands tells later now l) (sym (append_assoc lag.later end.later (entry h one.outcome ∷ T)))
      (lag.keeps (end.later ++ entry h one.outcome ∷ T) (end.keeps (entry h one.outcome ∷ T) b.keeps));
  seats = λ T k i s.
      let b = begin_step h stood one_stands told one_tells faults one_faults before one_desk delivery one more T k in
      lag.seats (end.later ++ entry h one.outcome ∷ T) (end.keeps (entry h one.outcome ∷ T) b.keeps) i (end.seats (entry h one.outcome ∷ T) b.keeps i (b.seats i s));
  unhanded = λ T k quiet.
      let b = begin_step h stood one_stands told one_tells faults one_faults before one_desk delivery one more T k in
      nothings_put before.places.items one_desk.places.items now.places.items (subst (λ (o : Option ℕ). PutsFor o before.places.items one_desk.places.items) (b.unlanded quiet) puts)
      (nothings_put one_desk.places.items end_desk.places.items now.places.items (end.unhanded (entry h one.outcome ∷ T) b.keeps) (lag.unhanded (end.later ++ entry h one.outcome ∷ T) (end.keeps (entry h one.outcome ∷ T) b.keeps)));
  dies = λ T k conn is.
      let b = begin_step h stood one_stands told one_tells faults one_faults before one_desk delivery one more T k in
      late_dead (lag.later ++ end.later) (entry h one.outcome ∷ T) conn (late_twice lag.later end.later lag.late end.late) (b.dies conn is);
}
