-- Where no request waits, none waits after an event but an item of a busy client: a request that comes while none is open
-- is treated at once.
use Rattle.std.proofs.Common.{◌≡◌, ◌∙◌, ℕ, ◌+◌, ◌&&◌, ◌||◌, not, Bool, true, false, cond, List, [], ◌∷◌, ◌++◌, length, Option, Some, None, is_some, is_none, refl, sym, ap, subst, arith}
use Rattle.std.specs.Option.{option_or, option_to_list}
use Rattle.std.proofs.lemmas.Bool.{eqb-true}
use Rattle.std.proofs.lemmas.List.{nil_from_length}
use Rattle.rtsp_head.specs.Items.{Shape}
use Rattle.rtsp_uri.specs.declared.base.Bases.{Bases}
use Rattle.session_one.specs.declared.parts.Play.{Play}
use Rattle.translate_up.specs.Views.{Given}
use Rattle.translate_up.specs.declared.decision.Decision.{Decision}
use Rattle.client_slot.specs.Client.{Client}
use Rattle.client_slot.specs.Changes as changes
use Rattle.client_machine.specs.Alone.{pair_alone, effect_alone, private_after}
use Rattle.client_machine.specs.Events.{Effect, PrivateEvent, arrive}
use Rattle.client_machine.specs.Treatment.{given, treated_first, treated}
use Rattle.client_machine.specs.Step as going
use Rattle.client_machine.specs.Step.{step}
use Rattle.client_machine.proofs.KeepLemmas.{over_stays, over_client}
use Rattle.client_machine.proofs.WayLemmas.{hear_as, alone_as}
use Rattle.gateway_claim.specs.declared.event.UpCause.{UpCause}
use Rattle.gateway_claim.specs.ServerItems.{heard}
use Rattle.gateway_claim.specs.Cores.{NoneWaits, IsTimely}
use Rattle.gateway_claim.specs.Happenings.{Happening, enters, takes, ends, lags, hears, up_ends, HistoryEntry, fault_in, enters_here, entered}
use Rattle.gateway_claim.specs.OwnEvents.{turn, is_turn, settled_by, books_of, event_of, own_here, own}
use Rattle.gateway_claim.specs.Follows.{Follows, IsHistory}
use Rattle.gateway_claim.specs.Tells.{is_busy_private, is_busy, waiting_private, requests_waiting}
use Rattle.gateway_claim.proofs.CaseLemmas.{own_absent, own_event, own_quiet, quiet_after, faults_over, heard_event_as}
use Rattle.gateway_claim.proofs.AgreeLemmas.{alone}
use Rattle.gateway_claim.proofs.TidyLemmas.{IsTidyBy, IsTidy, tidy_after}
use Rattle.client_machine.proofs.PlanLemmas.{idle_is}

first_left : (decision : Decision) (given : Given) → (treated_first decision given [] (treated [])).left ≡ []
first_left decision given = grind arith

-- What goes up keeps the requests that wait, but for those that are treated.
plays_waiting : (plays : List Play) (client : Client) → (going.after_plays plays client).waiting ≡ client.waiting
plays_waiting [] client = refl
plays_waiting (play ∷ plays) client = plays_waiting plays (changes.after_queueing play client)

-- An event of a connection is no item of it while it is busy.
abbrev IsTimelyFor : Bool → PrivateEvent → Type 0
IsTimelyFor busy (arrive shape full) = busy ≡ false
IsTimelyFor busy event = Unit {0}

step_waiting : (bases : Bases) (number : ℕ) (pair : Option ℕ) (client : Client) (event : PrivateEvent) → IsTidy client → IsTimelyFor (client.alive && is_some client.pending) event → client.waiting ≡ []
    → (step bases number pair client event).client.waiting ≡ []
step_waiting bases number pair client event tidy timely none = grind (arith, hear_as, is_some, is_none, plays_waiting, first_left, idle_is)

-- So it is for a connection alone.
after_waiting : (bases : Bases) (events : List PrivateEvent) (event : PrivateEvent) → IsTimelyFor (is_busy_private (Some (private_after bases events))) event → (private_after bases events).client.waiting ≡ []
    → (private_after bases (event ∷ events)).client.waiting ≡ []
after_waiting bases events event timely none = by (private_after bases events).over refl
  where
    by : (over : Bool) → (private_after bases events).over ≡ over → (effect_alone bases (private_after bases events) event).client.waiting ≡ []
    by true is = ap (λ (done : Effect). done.client.waiting) (over_stays bases (private_after bases events) event is) ∙ none
    by false is =
        let p = private_after bases events in
        alone_as (λ effect. effect.client.waiting ≡ []) bases p event none none
        (step_waiting bases p.count (pair_alone event (p.count + 1)) p.client event (tidy_after bases events) (subst (λ (b : Bool). IsTimelyFor (not b && (p.client.alive && is_some p.client.pending)) event) is timely) none)

-- The event of a connection in a history, where it has one.
abbrev AreTimely : Bool → List PrivateEvent → Type 0
AreTimely busy [] = Unit {0}
AreTimely busy (event ∷ more) = (more ≡ []) × IsTimelyFor busy event

event_timely : (bases : Bases) (T : List HistoryEntry) (i : ℕ) (waiting : List Shape) (h : Happening) (busy : Bool) → is_turn i (turn (books_of T) h) ≡ true → IsTimely (is_busy bases) T h → is_busy bases i T ≡ busy
    → AreTimely busy (option_to_list (event_of (books_of T) i waiting h))
event_timely bases T i waiting (enters conn) busy turns timely is = tt
event_timely bases T i waiting (takes conn shape) busy turns timely is =
    (refl, sym is ∙ ap (λ (n : ℕ). is_busy bases n T) (sym (eqb-true conn i turns)) ∙ timely)
event_timely bases T i waiting (ends conn) busy turns timely is = (refl, tt)
event_timely bases T i waiting (lags conn) busy turns timely is = (refl, tt)
event_timely bases T i waiting (hears shape) busy turns timely is =
    heard_event_as (λ one. AreTimely busy (option_to_list one)) (books_of T) (settled_by (books_of T) (hears shape)) i waiting (heard shape) tt (λ reply is. (refl, tt)) (λ id reason names. (refl, tt)) (λ pair half rest. (refl, tt))
event_timely bases T i waiting (up_ends cause) busy turns timely is = tt

here_timely : (bases : Bases) (T : List HistoryEntry) (i : ℕ) (waiting : List Shape) (fault : Option UpCause) (h : Happening) (busy : Bool) → IsTimely (is_busy bases) T h → is_busy bases i T ≡ busy
    → AreTimely busy (own_here (books_of T) i waiting fault h)
here_timely bases T i waiting (Some cause) h busy timely is = (refl, tt)
here_timely bases T i waiting None h busy timely is = by (is_turn i (turn (books_of T) h)) refl
  where
    by : (here : Bool) → is_turn i (turn (books_of T) h) ≡ here → AreTimely busy (cond here (option_to_list (event_of (books_of T) i waiting h)) [])
    by true turns = event_timely bases T i waiting h busy turns timely is
    by false other = tt

more_waiting : (bases : Bases) (events more : List PrivateEvent) → AreTimely (is_busy_private (Some (private_after bases events))) more → (private_after bases events).client.waiting ≡ [] → (private_after bases (more ++ events)).client.waiting ≡ []
more_waiting bases events more timely none = grind (arith, after_waiting)

own_waiting : (bases : Bases) (T : List HistoryEntry) (e : HistoryEntry) (i : ℕ) (was : Bool) → entered i T ≡ was → IsTimely (is_busy bases) T e.happening → requests_waiting bases i T ≡ 0 → (alone bases (e ∷ T) i).client.waiting ≡ []
own_waiting bases T e i true en timely none =
    let here : List PrivateEvent = own_here (books_of T) i (alone bases T i).client.waiting e.outcome.fault e.happening in
    ap (λ (b : Bool). (private_after bases (cond b here [] ++ own bases i T)).client.waiting) en
    ∙ more_waiting bases (own bases i T) here
    (here_timely bases T i (alone bases T i).client.waiting e.outcome.fault e.happening (is_busy_private (Some (alone bases T i))) timely (ap (λ (b : Bool). is_busy_private (cond b (Some (alone bases T i)) None)) en))
    (grind (arith, nil_from_length, alone))
own_waiting bases T e i false absent timely none = grind (arith, own_absent)

-- none waits before anything happened, and none after an entry that is no item of a busy client
pub none_waiting : (bases : Bases) → NoneWaits (requests_waiting bases) []
none_waiting bases i = refl

pub none_waiting_next : (bases : Bases) (T : List HistoryEntry) (e : HistoryEntry) → IsTimely (is_busy bases) T e.happening → NoneWaits (requests_waiting bases) T → NoneWaits (requests_waiting bases) (e ∷ T)
none_waiting_next bases T e timely none i = grind (arith, (own_waiting bases T e i (entered i T) refl timely (none i)))

-- At the end of the connection to the server, and after it, as many wait as before.
over_waiting : (bases : Bases) (T : List HistoryEntry) (e : HistoryEntry) (i : ℕ) (cause : UpCause) → IsHistory bases T → Follows bases T e → fault_in T ≡ Some cause → requests_waiting bases i (e ∷ T) ≡ requests_waiting bases i T
over_waiting bases T e i cause history follows ended =
    ap (λ (f : Option UpCause). waiting_private (cond ((enters_here i e.happening && is_none f) || entered i T) (Some (alone bases (e ∷ T) i)) None)) ended
    ∙ ap (λ (b : Bool). waiting_private (cond b (Some (alone bases (e ∷ T) i)) None)) (grind arith)
    ∙ by (entered i T) refl
  where
    by : (was : Bool) → entered i T ≡ was → waiting_private (cond was (Some (alone bases (e ∷ T) i)) None) ≡ waiting_private (cond was (Some (alone bases T i)) None)
    by true en =
        ap (λ (events : List PrivateEvent). length (private_after bases events).client.waiting) (own_quiet bases T e i (follows.fault ∙ quiet_after bases T e.happening cause ended))
        ∙ ap (λ (client : Client). length client.waiting)
        (over_client bases (own bases i T) (cond (entered i T) (cond (is_turn i (turn (books_of T) e.happening)) (own_event bases T i e.happening) None) None) (faults_over bases T history cause ended i en))
    by false en = refl

pub still_waiting : (bases : Bases) (T : List HistoryEntry) (e : HistoryEntry) (i : ℕ) → IsHistory bases T → Follows bases T e → is_some (fault_in (e ∷ T)) ≡ true → requests_waiting bases i (e ∷ T) ≡ requests_waiting bases i T
still_waiting bases T e i history follows ended = by (fault_in T) e.outcome.fault refl refl ended
  where
    by : (before now : Option UpCause) → fault_in T ≡ before → e.outcome.fault ≡ now → is_some (option_or before now) ≡ true → requests_waiting bases i (e ∷ T) ≡ requests_waiting bases i T
    by (Some cause) now was is some = over_waiting bases T e i cause history follows was
    by None (Some cause) was is some = grind arith
    by None None was is some = cc

-- None waits of a connection that closed.
pub closed_waiting : (bases : Bases) (events : List PrivateEvent) → (private_after bases events).client.alive ≡ false → (private_after bases events).client.waiting ≡ []
closed_waiting bases events closed = subst (λ (b : Bool). IsTidyBy b (private_after bases events).client) closed (tidy_after bases events)
