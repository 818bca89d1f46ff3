-- What is so of every connection alone: while it is alive, no PLAY is due after an event, since one that is due goes up at
-- once; and none of its requests waits any longer once it is closed.
use Rattle.std.proofs.Common.{slice_get, ◌≡◌, ◌≢◌, ◌∙◌, ℕ, zero, suc, ◌+◌, ◌==◌, ◌^◌, ◌&&◌, not, Bool, true, false, cond, List, [], ◌∷◌, map, length, Option, Some, None, is_none, refl, sym, ap, subst, arith}
use Rattle.std.specs.Prelude.{slice_index_or}
use Rattle.std.proofs.lemmas.Bool.{ltb-true, eqb-true, eqb-false}
use Rattle.rtsp_head.specs.Items.{Shape}
use Rattle.rtsp_uri.specs.declared.base.Bases.{Bases}
use Rattle.head_one.specs.Requests.{request_of_item}
use Rattle.session_one.specs.declared.parts.Play.{Play}
use Rattle.session_one.specs.declared.table.State.{State}
use Rattle.session_one.specs.declared.table.State.TheVariants.{Init, Ready, Playing}
use Rattle.translate_up.specs.Views.{SeenSession, no_session, Given, session_or_none}
use Rattle.translate_up.specs.Decisions.{judged_of, decide}
use Rattle.translate_up.specs.declared.decision.Decision.{Decision}
use Rattle.translate_up.specs.declared.decision.Decision.TheVariants.{Answer, Queue}
use Rattle.translate_up.specs.Sound.{AreFit}
use Rattle.translate_up.proofs.DecisionLemmas.{IsPlacedAs, decide_placed}
use Rattle.translate_up.proofs.JudgementLemmas.{judged_fit}
use Rattle.translate_up.proofs.StateLemmas.{IsDecided, decided}
use Rattle.client_slot.specs.declared.purpose.Purpose.{Purpose}
use Rattle.client_slot.specs.declared.purpose.Purpose.TheVariants as purposes
use Rattle.client_slot.specs.Session.{PlayerSession, new_session}
use Rattle.client_slot.specs.SessionChanges.{when_next, when_queued}
use Rattle.client_slot.specs.Places.{session_at, changed_at, changed_where, first_place, has_due, queued_at}
use Rattle.client_slot.specs.Client.{Client}
use Rattle.client_slot.specs.Changes as changes
use Rattle.client_slot.proofs.PlaceLemmas.{changed_other, kept_each, IsAtPlace, place_is}
use Rattle.client_machine.specs.Alone.{pair_alone, private_after}
use Rattle.client_machine.specs.Events.{PrivateEvent}
use Rattle.client_machine.specs.Treatment.{session_found, given, queued_more_where, fits_memory, decision_on, Treated, treated_first, treated}
use Rattle.client_machine.specs.Step as going
use Rattle.client_machine.specs.Step.{NextPart, rests, releases, goes_on, hear, going_on}
use Rattle.client_machine.proofs.PlaceLemmas.{calm_in, seen_at}
use Rattle.client_machine.proofs.WayLemmas.{hear_as, alone_as}
use Rattle.client_machine.proofs.HoldLemmas.{going_steady}
use Rattle.gateway_claim.specs.Books.{is_pair}
use Rattle.gateway_claim.proofs.SettleLemmas.{changed_or_new}
use Rattle.gateway_claim.proofs.FitLemmas.{IsFitClient, given_fit, queued_fit, hear_fit, alone_fit}

-- While streams play, a PLAY runs, or one waits, or one that waited has gone up; by whether that is open, what runs and what
-- waits.
abbrev PlaysOn : Bool → Option ℕ → List Play → Type 0
PlaysOn released (Some number) queue = Unit {0}
PlaysOn released None (play ∷ plays) = Unit {0}
PlaysOn true None [] = Unit {0}
PlaysOn false None [] = ⊥

-- In another state no PLAY waits.
abbrev IsInOrder : State → Bool → Option ℕ → List Play → Type 0
IsInOrder Init released running queue = queue ≡ []
IsInOrder Ready released running queue = queue ≡ []
IsInOrder Playing released running queue = PlaysOn released running queue

abbrev IsOrdered : Bool → PlayerSession → Type 0
IsOrdered released session = IsInOrder session.state released session.running session.queue

-- whether the PLAY that waited at a place is open
abbrev is_released : Option Purpose → ℕ → Bool
is_released (Some (purposes.Released play)) place = is_pair play.place place
is_released purpose place = false

abbrev AreOrdered : (ℕ → Bool) → List PlayerSession → Type 0
AreOrdered released sessions = (place : ℕ) → IsOrdered (released place) (session_at place sessions)

abbrev PlaysInOrder : Client → Type 0
PlaysInOrder client = AreOrdered (is_released client.pending) client.sessions

-- By whether it is alive.
abbrev pub IsTidyBy : Bool → Client → Type 0
IsTidyBy true client = PlaysInOrder client × (changes.due_place client ≡ None)
IsTidyBy false client = client.waiting ≡ []

abbrev pub IsTidy : Client → Type 0
IsTidy client = IsTidyBy client.alive client

-- What is so of each place, once the session at one is changed.
each_place : (P : ℕ → PlayerSession → Type 0) (k : ℕ) (change : PlayerSession → PlayerSession) (sessions : List PlayerSession) → P k new_session → P k (change (session_at k sessions))
    → ((place : ℕ) → place ≢ k → P place (session_at place sessions)) → (place : ℕ) → P place (session_at place (changed_at k change sessions))
each_place P k change sessions empty here others place = grind (arith, eqb-true, changed_or_new, changed_other, eqb-false)

changed_order : (f g : ℕ → Bool) (at : Option ℕ) (change : PlayerSession → PlayerSession) (sessions : List PlayerSession) → AreOrdered f sessions → ((k : ℕ) (session : PlayerSession) → at ≡ Some k → IsOrdered (f k) session → IsOrdered (g k) (change session))
    → ((place : ℕ) → at ≢ Some place → g place ≡ f place) → AreOrdered g (changed_where at change sessions)
changed_order f g None change sessions order here others = λ place. subst (λ (t : Bool). IsOrdered t (session_at place sessions)) (sym (others place (λ (e : None ≡ Some place). cc))) (order place)
changed_order f g (Some k) change sessions order here others =
    each_place (λ place session. IsOrdered (g place) session) k change sessions refl (here k (session_at k sessions) refl (order k))
    (λ place apart. subst (λ (t : Bool). IsOrdered t (session_at place sessions)) (sym (others place (λ (e : Some k ≡ Some place). apart (let same : k ≡ place = cc in sym same)))) (order place))

-- A final reply.
at_pair : (place : Option ℕ) (k : ℕ) → place ≡ Some k → is_pair place k ≡ true
at_pair place k e = grind arith

off_pair : (place : Option ℕ) (k : ℕ) → place ≢ Some k → false ≡ is_pair place k
off_pair place k apart = grind arith

settled_order : (purpose : Purpose) (number code : ℕ) (id : Option (List ℕ)) (client : Client) → AreOrdered (is_released (Some purpose)) client.sessions → PlaysInOrder (changes.settle_with (Some purpose) number code id client)
settled_order (purposes.Client asked track) number code id client order =
    changed_order (λ place. false) (λ place. false) (changes.settled_place (purposes.Client asked track) id client.sessions) (changes.session_after (purposes.Client asked track) number code client.described id) client.sessions order
    (λ k session at was. (grind arith)) (λ place apart. refl)
settled_order (purposes.Released play) number code id client order =
    changed_order (is_pair play.place) (λ place. false) play.place (changes.session_after (purposes.Released play) number code client.described id) client.sessions order
    (λ k session at was. (grind (arith, (subst (λ (t : Bool). IsOrdered t session) (at_pair play.place k at) was)))) (λ place apart. off_pair play.place place apart)
settled_order (purposes.Closing place) number code id client order =
    changed_order (λ place. false) (λ place. false) (Some place) (changes.session_after (purposes.Closing place) number code client.described id) client.sessions order (λ k session at was. refl) (λ place apart. refl)

-- The end of what plays.
none_left : (empty : Bool) (queue : List Play) (released : Bool) (running : Option ℕ) (state : State) → (length queue == 0) ≡ empty → IsInOrder state released running queue → IsInOrder (cond empty Ready state) released None queue
none_left empty queue released running state e order = grind arith

ended_order : (counts : Bool) (released : Bool) (session : PlayerSession) → IsOrdered released session → IsOrdered released (cond counts (record session { state = cond (length session.queue == 0) Ready session.state; running = None }) session)
ended_order counts released session order = grind (arith, none_left)

-- What was heard, by whether the connection is alive, and by what may go up.
abbrev IsHeardSo : Bool → NextPart → Client → Type 0
IsHeardSo true rests client = IsTidyBy true client
IsHeardSo true releases client = PlaysInOrder client
IsHeardSo true goes_on client = PlaysInOrder client
IsHeardSo false next client = client.waiting ≡ []

moved : (alive : Bool) (next : NextPart) (before after : Client) → IsTidyBy alive before → after.waiting ≡ before.waiting → (PlaysInOrder before → PlaysInOrder after) → (next ≢ rests) → IsHeardSo alive next after
moved alive next before after tidy waits order other = grind arith

hear_tidy : (bases : Bases) (number : ℕ) (client : Client) (event : PrivateEvent) → IsTidy client → IsHeardSo (hear bases number client event).effect.client.alive (hear bases number client event).next (hear bases number client event).effect.client
hear_tidy bases number client event tidy = grind (arith, hear_as, moved, settled_order, changed_order, ended_order)

-- Where a request is treated, no PLAY is due, so one runs while streams play.
abbrev IsRunning : State → Option ℕ → List Play → Type 0
IsRunning Init running queue = queue ≡ []
IsRunning Ready running queue = queue ≡ []
IsRunning Playing (Some number) queue = Unit {0}
IsRunning Playing None queue = ⊥

abbrev Runs : PlayerSession → Type 0
Runs session = IsRunning session.state session.running session.queue

abbrev AllRun : List PlayerSession → Type 0
AllRun sessions = (place : ℕ) → Runs (session_at place sessions)

runs_idle : (state : State) (running : Option ℕ) (queue : List Play) → IsInOrder state false running queue → (is_none running && not (length queue == 0)) ≡ false → IsRunning state running queue
runs_idle state running queue order none = grind arith

-- No PLAY is due where none is at any place, and back.
none_due : (from : ℕ) (sessions : List PlayerSession) → ((place : ℕ) → has_due (session_at place sessions) ≡ false) → first_place has_due from sessions ≡ None
none_due from [] none = refl
none_due from (one ∷ more) none = ap (λ t. cond t (Some from) (first_place has_due (from + 1) more)) (none zero) ∙ none_due (from + 1) more (λ place. none (suc place))

due_none : (from : ℕ) (sessions : List PlayerSession) → first_place has_due from sessions ≡ None → (place : ℕ) → has_due (session_at place sessions) ≡ false
due_none from [] e place = refl
due_none from (one ∷ more) e place = grind (arith, due_none (from + 1) more)

-- A PLAY waits only while streams play.
abbrev AreQueueing : List SeenSession → List Play → Type 0
AreQueueing sessions [] = Unit {0}
AreQueueing sessions (play ∷ plays) = ((session_or_none play.place sessions).state ≡ Playing) × AreQueueing sessions plays

abbrev QueuesIn : List SeenSession → Decision → Type 0
QueuesIn sessions (Queue play text) = (session_or_none play.place sessions).state ≡ Playing
QueuesIn sessions decision = Unit {0}

queues_so : (given : Given) (shape : Shape) (decision : Decision) → IsDecided (judged_of given shape).state (request_of_item shape) decision → IsPlacedAs (judged_of given shape) decision → QueuesIn given.sessions decision
queues_so given shape decision is placed = grind arith

decision_queues : (given : Given) (shape : Shape) → AreFit given → QueuesIn given.sessions (decision_on given shape)
decision_queues given shape fit = by (fits_memory shape) refl
  where
    by : (fits : Bool) → fits_memory shape ≡ fits → QueuesIn given.sessions (cond fits (decide given shape) (Answer []))
    by true e = queues_so given shape (decide given shape) (decided given shape (judged_fit given (request_of_item shape) fit).session (ltb-true (length shape.bytes) (2 ^ 64) e)) (decide_placed given shape)
    by false e = tt

still_queueing : (queued : Option ℕ) (sessions : List SeenSession) (plays : List Play) → AreQueueing (queued_more_where queued sessions) plays → AreQueueing sessions plays
still_queueing queued sessions [] queues = tt
still_queueing queued sessions (play ∷ plays) queues = (sym (calm_in (λ one. one.state) queued play.place sessions (λ one n. refl)) ∙ queues.0, still_queueing queued sessions plays queues.1)

first_queues : (decision : Decision) (given : Given) (more : List Shape) (again : Given → Treated) → QueuesIn given.sessions decision → AreFit given → ((one : Given) → AreFit one → AreQueueing one.sessions (again one).plays)
    → AreQueueing given.sessions (treated_first decision given more again).plays
first_queues decision given more again queues fit later = grind (arith, still_queueing, queued_fit)

treated_queues : (shapes : List Shape) (given : Given) → AreFit given → AreQueueing given.sessions (treated shapes given).plays
treated_queues [] given fit = tt
treated_queues (shape ∷ more) given fit = first_queues (decision_on given shape) given more (treated more) (decision_queues given shape fit) fit (treated_queues more)

-- PLAYs wait.
seen_state : (place : ℕ) (sessions : List PlayerSession) → (slice_index_or (map session_found sessions) place no_session).state ≡ (session_at place sessions).state
seen_state place sessions = ap (λ (one : SeenSession). one.state) (seen_at place sessions)

queue_runs : (place : Option ℕ) (play : Play) (sessions : List PlayerSession) → (session_or_none place (map session_found sessions)).state ≡ Playing → AllRun sessions → AllRun (changed_where place (when_queued play) sessions)
queue_runs None play sessions playing runs = cc
queue_runs (Some k) play sessions playing runs =
    each_place (λ place session. Runs session) k (when_queued play) sessions refl
    (grind (arith, (sym (seen_state k sessions) ∙ playing), (runs k))) (λ place apart. runs place)

queued_still : (place at : Option ℕ) (play : Play) (sessions : List PlayerSession) → (session_or_none at (map session_found (changed_where place (when_queued play) sessions))).state ≡ (session_or_none at (map session_found sessions)).state
queued_still None at play sessions = refl
queued_still (Some place) None play sessions = refl
queued_still (Some place) (Some at) play sessions = seen_state at (changed_at place (when_queued play) sessions) ∙ kept_each (λ session. session.state) place at (when_queued play) sessions refl ∙ sym (seen_state at sessions)

later_queueing : (place : Option ℕ) (play : Play) (sessions : List PlayerSession) (plays : List Play) → AreQueueing (map session_found sessions) plays → AreQueueing (map session_found (changed_where place (when_queued play) sessions)) plays
later_queueing place play sessions [] queues = tt
later_queueing place play sessions (one ∷ plays) queues = (queued_still place one.place play sessions ∙ queues.0, later_queueing place play sessions plays queues.1)

plays_run : (plays : List Play) (client : Client) → AreQueueing (map session_found client.sessions) plays → AllRun client.sessions → AllRun (going.after_plays plays client).sessions
plays_run [] client queues runs = runs
plays_run (play ∷ plays) client queues runs =
    plays_run plays (changes.after_queueing play client) (later_queueing play.place play client.sessions plays queues.1) (queue_runs play.place play client.sessions queues.0 runs)

treat_tidy : (bases : Bases) (pair : Option ℕ) (client : Client) → IsFitClient client → AllRun client.sessions → IsTidyBy true (going.treat bases pair client).client
treat_tidy bases pair client fit runs =
    let all : Treated = treated client.waiting (given bases (is_none pair) client) in
    let before : Client = record client { waiting = all.left } in
    grind (arith, none_due, (plays_run all.plays before (treated_queues client.waiting (given bases (is_none pair) client) (given_fit bases (is_none pair) client fit)) runs))

-- The PLAY that is due goes up.
has_first : (queue : List Play) (t : Bool) → (t && not (length queue == 0)) ≡ true → slice_get queue 0 ≢ None
has_first [] true e = cc
has_first [] false e = cc
has_first (play ∷ queue) t e = λ (none : Some play ≡ None). cc

idle_order : (pending : Option Purpose) (client : Client) → pending ≡ None → AreOrdered (is_released pending) client.sessions → AreOrdered (λ place. false) client.sessions
idle_order pending client idle order = grind arith

released_order : (k : ℕ) (play : Play) (client : Client) → client.pending ≡ None → PlaysInOrder client → PlaysInOrder (changes.release_with (Some play) k client)
released_order k play client idle order =
    changed_order (λ place. false) (is_pair (Some k)) (Some k) when_next client.sessions (idle_order client.pending client idle order)
    (λ at session is was. subst (λ (t : Bool). IsOrdered t (when_next session)) (sym (at_pair (Some k) at is)) (grind arith))
    (λ place apart. sym (off_pair (Some k) place apart))

due_idle : (pending : Option Purpose) (sessions : List PlayerSession) (k : ℕ) → changes.due_place_at pending sessions ≡ Some k → (pending ≡ None) × (first_place has_due 0 sessions ≡ Some k)
due_idle pending sessions k due = grind arith

play_tidy : (alive : Bool) (k : ℕ) (play : Option Play) (client : Client) → client.alive ≡ alive → changes.due_place client ≡ Some k → queued_at k client.sessions ≡ play → IsHeardSo alive releases client → IsTidyBy alive (going.released_with play (session_at k client.sessions).id client).client
play_tidy alive k None client is due none heard =
    let there = due_idle client.pending client.sessions k due in
    let at : IsAtPlace has_due k client.sessions = place_is has_due k client.sessions there.1 in
    absurd (has_first (session_at k client.sessions).queue (is_none (session_at k client.sessions).running) at.passes none)
play_tidy true k (Some play) client is due first heard =
    let there = due_idle client.pending client.sessions k due in
    subst (λ (after : Client). IsTidyBy true after) (sym (ap (λ one. changes.release_at one client) due ∙ ap (λ (one : Option Play). changes.release_with one k client) first))
    (released_order k play client there.0 heard, refl)
play_tidy false k (Some play) client is due first heard =
    subst (λ (after : Client). IsTidyBy false after) (sym (ap (λ one. changes.release_at one client) due ∙ ap (λ (one : Option Play). changes.release_with one k client) first)) heard

due_tidy : (alive : Bool) (place : Option ℕ) (client : Client) → client.alive ≡ alive → changes.due_place client ≡ place → IsHeardSo alive releases client → IsTidyBy alive (going.released_at place client).client
due_tidy alive place client is due heard = grind (arith, play_tidy)

kept_alive : (bases : Bases) (pair : Option ℕ) (next : NextPart) (client : Client) → (going_on bases pair next client).client.alive ≡ client.alive
kept_alive bases pair next client = (going_steady bases pair next client).alive

alive_on : (bases : Bases) (pair : Option ℕ) (next : NextPart) (client : Client) → client.alive ≡ true → IsFitClient client → IsHeardSo true next client → IsTidy (going_on bases pair next client).client
alive_on bases pair rests client alive fit heard = subst (λ (b : Bool). IsTidyBy b client) (sym alive) heard
alive_on bases pair releases client alive fit heard =
    subst (λ (b : Bool). IsTidyBy b (going_on bases pair releases client).client) (sym (kept_alive bases pair releases client ∙ alive)) (due_tidy true (changes.due_place client) client alive refl heard)
alive_on bases pair goes_on client alive fit heard =
    subst (λ (b : Bool). IsTidyBy b (going_on bases pair goes_on client).client) (sym (kept_alive bases pair goes_on client ∙ alive)) (by client.pending refl)
  where
    treats : (place : Option ℕ) → client.pending ≡ None → changes.due_place client ≡ place → IsTidyBy true (going.go_due bases pair place client).client
    treats (Some k) idle due = due_tidy true (Some k) client alive due heard
    treats None idle due =
        let none : first_place has_due 0 client.sessions ≡ None = ap (λ (pending : Option Purpose). changes.due_place_at pending client.sessions) (sym idle) ∙ due in
        treat_tidy bases pair client fit (λ place. runs_idle (session_at place client.sessions).state (session_at place client.sessions).running (session_at place client.sessions).queue
        (idle_order client.pending client idle heard place) (due_none 0 client.sessions none place))

    by : (pending : Option Purpose) → client.pending ≡ pending → IsTidyBy true (going.go_at bases pair pending client).client
    by pending is = grind (arith, treats)

going_tidy : (bases : Bases) (pair : Option ℕ) (next : NextPart) (client : Client) → IsFitClient client → IsHeardSo client.alive next client → IsTidy (going_on bases pair next client).client
going_tidy bases pair next client fit heard = grind (arith, alive_on, kept_alive)

-- So it is for a connection alone.
pub tidy_after : (bases : Bases) (events : List PrivateEvent) → IsTidy (private_after bases events).client
tidy_after bases [] = (λ place. grind arith, refl)
tidy_after bases (event ∷ events) =
    let p = private_after bases events in
    let heard = hear bases p.count p.client event in
    alone_as (λ effect. IsTidy effect.client) bases p event (tidy_after bases events) (tidy_after bases events)
    (going_tidy bases (pair_alone event (p.count + 1)) heard.next heard.effect.client (hear_fit bases p.count p.client event (alone_fit bases events)) (hear_tidy bases p.count p.client event (tidy_after bases events)))
