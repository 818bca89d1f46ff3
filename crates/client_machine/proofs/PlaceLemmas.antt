-- A session of a connection alone has few streams, an empty place has none, and what is open has its place.
use Rattle.std.proofs.Common.{◌≡◌, ◌∙◌, ℕ, suc, ◌+◌, ◌*◌, ◌<◌, ◌≤◌, Bool, true, false, cond, ◌&&◌, ◌||◌, List, [], ◌∷◌, ◌++◌, length, map, Option, Some, None, IsSome, Result, refl, sym, ap, subst, arith}
use Rattle.std.specs.Prelude.{is_none, is_some, slice_index_or}
use Rattle.std.proofs.Math.ListN.{get_or, get_or-map}
use Rattle.std.specs.Option.{option_or}
use Rattle.std.proofs.lemmas.List.{length-append}
use Rattle.rtsp_head.specs.Items.{Shape}
use Rattle.rtsp_small.specs.declared.method.Method.{Method}
use Rattle.rtsp_small.specs.declared.method.Method.TheVariants as methods
use Rattle.rtsp_transport.specs.declared.channels.Pair.{Pair}
use Rattle.rtsp_uri.specs.declared.base.Bases.{Bases}
use Rattle.head_one.specs.declared.request.Request1.{Request1}
use Rattle.head_one.specs.declared.refusal.Refusal.{Refusal}
use Rattle.head_one.specs.Requests.{request_of_item}
use Rattle.session_one.specs.declared.parts.Asked.{Asked}
use Rattle.session_one.specs.declared.parts.Play.{Play}
use Rattle.session_one.specs.declared.parts.Track.{Track}
use Rattle.session_one.specs.declared.parts.TheConstants.{MOST_SESSIONS, MOST_TRACKS}
use Rattle.session_one.specs.declared.table.State.{State}
use Rattle.session_one.specs.Table.{same_method, is_success, state_after}
use Rattle.translate_up.specs.Channels.{is_taken}
use Rattle.translate_up.proofs.DecisionLemmas.{SpeaksAs, decide_speaks, IsPlacedAs, decide_placed}
use Rattle.translate_up.proofs.NoRefusalLemmas.{IsUpAs, IsUnrefusedIn, decided_unrefused, room_there}
use Rattle.translate_up.specs.Views.{SeenSession, no_session, Given, all_tracks, has_empty, session_or_none, Judged}
use Rattle.translate_up.specs.DecisionPlaces.{IsDecidedIn}
use Rattle.translate_up.specs.Decisions.{judged_read, judged_of}
use Rattle.translate_up.specs.declared.decision.Decision.{Decision}
use Rattle.translate_up.specs.declared.decision.Decision.TheVariants.{Setup}
use Rattle.translate_up.proofs.PlaceLemmas.{HasPlace, decide_place}
use Rattle.client_slot.specs.declared.purpose.Purpose.{Purpose}
use Rattle.client_slot.specs.declared.purpose.Purpose.TheVariants as purposes
use Rattle.client_slot.specs.Session.{PlayerSession, new_session}
use Rattle.client_slot.specs.Places.{session_at, session_where, changed_where, first_place, empty_place, has_due, tracks_of}
use Rattle.client_slot.specs.SessionTurns.{Brought, granted_turn, brought_by, turned}
use Rattle.client_slot.specs.SessionChanges.{when_next, when_queued}
use Rattle.client_slot.specs.Bounds.{AreTidy, is_filled}
use Rattle.client_slot.specs.Client.{Client}
use Rattle.client_slot.specs.Changes.{after_queueing, release_with, settled_place, session_after, sessions_after}
use Rattle.client_slot.proofs.PlaceLemmas.{place_is, where_length}
use Rattle.client_slot.proofs.TidyLemmas.{tidy_at, tidy_where, ended_tidy, next_tidy, unqueued_tidy, queued_tidy, after_tidy, due_filled}
use Rattle.client_slot.proofs.LimitLemmas.{due_queue}
use Rattle.client_machine.specs.Events.{PrivateEvent}
use Rattle.client_machine.specs.Treatment.{session_found, given, queued_more_where, decision_on, Going, Treated, treated_first, treated}
use Rattle.client_machine.specs.Step.{after_plays, goes_at, NextPart, Hearing, new_id, hear, going_on, step}
use Rattle.client_machine.specs.Alone.{pair_alone, private_after}
use Rattle.client_machine.proofs.WayLemmas.{hear_as, going_as, alone_as}
use Rattle.client_machine.proofs.EachLemmas.{one_at, either_so}
use Rattle.client_machine.proofs.HoldLemmas.{IsSame, AreSame, all_same, same_then, same_at, same_first, changed_same, where_same, plays_kept, plays_steady, heard_as}
use Rattle.client_machine.proofs.TreatLemmas.{decision_as, calm_by, decided_on}

-- by the id of a place and its streams
abbrev pub AreFewIn : Option (List ℕ) → List Track → Type 0
AreFewIn None tracks = tracks ≡ []
AreFewIn (Some id) tracks = length tracks ≤ MOST_TRACKS

-- so is each place
abbrev pub AreFew : List PlayerSession → Type 0
AreFew sessions = (place : ℕ) → AreFewIn (session_at place sessions).id (session_at place sessions).tracks

-- A session that is named is there, and has room for a stream. For a SETUP that names none there is an empty place.
abbrev pub IsRoomy : List PlayerSession → Option ℕ → Option Track → Type 0
IsRoomy sessions place track = (is_filled place sessions ≡ true) × (IsSome track → length (session_where place sessions).tracks < MOST_TRACKS) × (IsSome track → place ≡ None → IsSome (empty_place sessions))

abbrev pub HasRoom : List PlayerSession → Option Purpose → Type 0
HasRoom sessions (Some (purposes.Client asked track)) = IsRoomy sessions asked.place track
HasRoom sessions (Some (purposes.Released play)) = is_filled play.place sessions ≡ true
HasRoom sessions purpose = Unit {0}

pub record IsInPlace (client : Client) : Type 0 where
  pub places : length client.sessions ≡ MOST_SESSIONS
  pub tidy : AreTidy client.sessions
  pub few : AreFew client.sessions
  pub pending : HasRoom client.sessions client.pending

-- Where ids and streams are as before, so is this.
same_length : (a b : List PlayerSession) → AreSame a b → length b ≡ length a
same_length [] [] same = refl
same_length [] (y ∷ b) same = absurd same
same_length (x ∷ a) [] same = absurd same
same_length (x ∷ a) (y ∷ b) same = ap suc (same_length a b same.1)

same_few : (a b : List PlayerSession) → AreSame a b → AreFew a → AreFew b
same_few a b same few place = rw ((same_at place a b same).id, (same_at place a b same).tracks) (few place)

same_roomy : (a b : List PlayerSession) (place : Option ℕ) (track : Option Track) → AreSame a b → IsRoomy a place track → IsRoomy b place track
same_roomy a b None track same roomy = (refl, roomy.1, λ some none. ap (λ (place : Option ℕ). is_some place) (same_first is_none 0 a b same) ∙ roomy.2 some refl)
same_roomy a b (Some place) track same roomy =
    let here : IsSame (session_at place a) (session_at place b) = same_at place a b same in
    (ap (λ (id : Option (List ℕ)). is_some id) here.id ∙ roomy.0, λ some. subst (λ (tracks : List Track). length tracks < MOST_TRACKS) (sym here.tracks) (roomy.1 some), λ some none. cc)

same_filled : (a b : List PlayerSession) (place : Option ℕ) → AreSame a b → is_filled place a ≡ true → is_filled place b ≡ true
same_filled a b place same filled = grind (arith, same_at)

same_room : (a b : List PlayerSession) (pending : Option Purpose) → AreSame a b → HasRoom a pending → HasRoom b pending
same_room a b None same room = tt
same_room a b (Some (purposes.Client asked track)) same room = same_roomy a b asked.place track same room
same_room a b (Some (purposes.Released play)) same room = same_filled a b play.place same room
same_room a b (Some (purposes.Closing place)) same room = tt

same_placed : (before after : Client) → AreSame before.sessions after.sessions → HasRoom before.sessions after.pending → AreTidy after.sessions → IsInPlace before → IsInPlace after
same_placed before after same room tidy placed = grind (arith, same_length, same_few, same_room)

-- A reply brings a stream to a session that has room for it.
few_in : (id : Option (List ℕ)) (tracks : List Track) → AreFewIn id tracks → length tracks ≤ MOST_TRACKS
few_in id tracks few = grind arith

granted_few : (method : Method) (state : State) (brought : Brought) (session : PlayerSession) → AreFewIn session.id session.tracks → (is_some session.id || is_some brought.id) ≡ true → (IsSome brought.track → length session.tracks < MOST_TRACKS)
    → AreFewIn (turned (granted_turn method (is_some brought.id) state) brought session).id (turned (granted_turn method (is_some brought.id) state) brought session).tracks
granted_few method state brought session few there room = grind (arith, length-append, few_in)

-- whose turn a reply is
abbrev IsTurnAt : List PlayerSession → ℕ → Option (List ℕ) → Option Track → Type 0
IsTurnAt sessions at id track = ((is_some (session_at at sessions).id || is_some id) ≡ true) × (IsSome track → length (session_at at sessions).tracks < MOST_TRACKS)

turn_at : (place : Option ℕ) (sets : Bool) (id : Option (List ℕ)) (track : Option Track) (sessions : List PlayerSession) → AreFew sessions → IsRoomy sessions place track → (at : ℕ)
    → option_or place (cond (sets && is_some id) (empty_place sessions) None) ≡ Some at → IsTurnAt sessions at id track
turn_at (Some place) sets id track sessions few room at e =
    let same : place ≡ at = cc in
    subst (λ (k : ℕ). IsTurnAt sessions k id track) same (ap (λ b. b || is_some id) room.0, room.1)
turn_at None false id track sessions few room at e = cc
turn_at None true None track sessions few room at e = cc
turn_at None true (Some id) track sessions few room at e =
    let empty = place_is (λ session. is_none session.id) at sessions e in
    (grind arith, λ some. (grind arith))

few_where : (place : Option ℕ) (change : PlayerSession → PlayerSession) (sessions : List PlayerSession) → AreFew sessions
    → ((at : ℕ) → place ≡ Some at → AreFewIn (change (session_at at sessions)).id (change (session_at at sessions)).tracks) → AreFew (changed_where place change sessions)
few_where None change sessions few here at = few at
few_where (Some place) change sessions few here at = one_at (λ session. AreFewIn session.id session.tracks) place at change sessions (λ was. here place refl) (few at)

answered_few : (asked : Asked) (track : Option Track) (number code : ℕ) (described id : Option (List ℕ)) (sessions : List PlayerSession) (at : ℕ) → AreFewIn (session_at at sessions).id (session_at at sessions).tracks → IsTurnAt sessions at id track
    → AreFewIn (session_after (purposes.Client asked track) number code described id (session_at at sessions)).id (session_after (purposes.Client asked track) number code described id (session_at at sessions)).tracks
answered_few asked track number code described id sessions at few turn =
    let session = session_at at sessions in
    let brought = brought_by (purposes.Client asked track) number described id in
    either_so (λ by. AreFewIn (turned by brought session).id (turned by brought session).tracks) (is_success code) _ _ (granted_few asked.method (state_after session.state asked.method code) brought session few turn.0 turn.1) few

after_few : (purpose : Purpose) (number code : ℕ) (described id : Option (List ℕ)) (sessions : List PlayerSession) → AreFew sessions → HasRoom sessions (Some purpose) → AreFew (sessions_after purpose number code described id sessions)
after_few (purposes.Client asked track) number code described id sessions few room =
    few_where (settled_place (purposes.Client asked track) id sessions) (session_after (purposes.Client asked track) number code described id) sessions few
    (λ at is. answered_few asked track number code described id sessions at (few at) (turn_at asked.place (same_method asked.method methods.Setup) id track sessions few room at is))
after_few (purposes.Released play) number code described id sessions few room =
    few_where play.place (session_after (purposes.Released play) number code described id) sessions few
    (λ at is. (grind arith))
after_few (purposes.Closing place) number code described id sessions few room =
    few_where (Some place) (session_after (purposes.Closing place) number code described id) sessions few (λ at is. refl)

pub hear_placed : (bases : Bases) (number : ℕ) (client : Client) (event : PrivateEvent) → IsInPlace client → IsInPlace (hear bases number client event).effect.client
hear_placed bases number client event placed =
    heard_as (λ after. AreTidy after.sessions → IsInPlace after) bases number client event
    (λ after still tidy. same_placed client after still.sessions (subst (HasRoom client.sessions) (sym still.pending) placed.pending) tidy placed)
    (λ purpose told ssrc full here is tidy. record {
      tidy = tidy;
      places = where_length (settled_place purpose (new_id purpose told) client.sessions) (session_after purpose number told.code client.described (new_id purpose told)) client.sessions ∙ placed.places;
      few = after_few purpose number told.code client.described (new_id purpose told) client.sessions placed.few (subst (HasRoom client.sessions) is placed.pending);
      pending = tt;
    })
    (grind (arith, hear_as, unqueued_tidy, after_tidy, tidy_where, ended_tidy, tidy_at))

-- PLAYs that wait change nothing else of what requests are judged by.
pub calm_in : {A : Type 0} (part : SeenSession → A) (place at : Option ℕ) (sessions : List SeenSession) → ((one : SeenSession) (n : ℕ) → part (record one { queued = n }) ≡ part one)
    → part (session_or_none at (queued_more_where place sessions)) ≡ part (session_or_none at sessions)
calm_in part place None sessions blind = refl
calm_in part place (Some at) sessions blind =
    sym (get_or-map part (queued_more_where place sessions) at no_session)
    ∙ ap (λ parts. get_or parts at (part no_session)) (calm_by (map part) place sessions (λ one n more. ap (λ first. first ∷ map part more) (blind one n)) (λ one a b same. ap (λ later. part one ∷ later) same))
    ∙ get_or-map part sessions at no_session

calm_all : (place : Option ℕ) (sessions : List SeenSession) → all_tracks (queued_more_where place sessions) ≡ all_tracks sessions
calm_all place sessions = calm_by all_tracks place sessions (λ one n more. refl) (λ one a b same. ap (λ (later : List Track). one.tracks ++ later) same)

-- What goes up: the session that it names, and the channels of a SETUP.
abbrev pub IsSeenRoomy : List SeenSession → Option ℕ → Option Pair → Type 0
IsSeenRoomy sessions None channels = Unit {0}
IsSeenRoomy sessions (Some place) channels = (is_some (session_or_none (Some place) sessions).id ≡ true) × (IsSome channels → length (session_or_none (Some place) sessions).tracks < MOST_TRACKS)

abbrev pub AreChannelsFree : List Track → Option Pair → Type 0
AreChannelsFree tracks None = Unit {0}
AreChannelsFree tracks (Some channels) = length tracks ≤ 63 → is_taken tracks channels ≡ false

abbrev pub IsGoingIn : List SeenSession → Option Going → Type 0
IsGoingIn sessions None = Unit {0}
IsGoingIn sessions (Some one) = IsSeenRoomy sessions one.asked.place one.channels × AreChannelsFree (all_tracks sessions) one.channels × (IsSome one.channels → one.asked.place ≡ None → has_empty sessions ≡ true)

calm_roomy : (queued place : Option ℕ) (sessions : List SeenSession) (channels : Option Pair) → IsSeenRoomy (queued_more_where queued sessions) place channels → IsSeenRoomy sessions place channels
calm_roomy queued None sessions channels roomy = tt
calm_roomy queued (Some place) sessions channels roomy = (
  sym (calm_in (λ one. is_some one.id) queued (Some place) sessions (λ one n. refl)) ∙ roomy.0,
  λ some. subst (λ (n : ℕ). n < MOST_TRACKS) (calm_in (λ one. length one.tracks) queued (Some place) sessions (λ one n. refl)) (roomy.1 some),
)

pub calm_has : (place : Option ℕ) (sessions : List SeenSession) → has_empty (queued_more_where place sessions) ≡ has_empty sessions
calm_has place sessions = calm_by has_empty place sessions (λ one n more. refl) (λ one a b same. ap (λ (later : Bool). is_none one.id || later) same)

judged_all : (given : Given) (read : Result Request1 Refusal) → (judged_read given read).all ≡ all_tracks given.sessions
judged_all given read = grind arith

-- For a SETUP that names no session there is an empty place.
abbrev HasEmptyFor : Given → Decision → Type 0
HasEmptyFor given (Setup request asked channels) = asked.place ≡ None → has_empty given.sessions ≡ true
HasEmptyFor given decision = Unit {0}

empty_for : (given : Given) (shape : Shape) (decision : Decision) → SpeaksAs (judged_of given shape) decision → IsPlacedAs (judged_of given shape) decision → IsUpAs (IsUnrefusedIn given (request_of_item shape)) decision → HasEmptyFor given decision
empty_for given shape decision speaks place un = grind (arith, room_there)

going_first : (judged : Judged) (given : Given) (decision : Decision) (more : List Shape) (again : Given → Treated) → judged.all ≡ all_tracks given.sessions → IsDecidedIn given.sessions decision → HasPlace judged decision → HasEmptyFor given decision
    → ((one : Given) → IsGoingIn one.sessions (again one).going) → IsGoingIn given.sessions (treated_first decision given more again).going
going_first judged given decision more again all decided place empty later = grind (arith, calm_roomy, calm_all, calm_has)

pub treated_in : (shapes : List Shape) (given : Given) → IsGoingIn given.sessions (treated shapes given).going
treated_in [] given = tt
treated_in (shape ∷ more) given = grind (arith, going_first, judged_all, decided_on, decision_as, decide_place, empty_for, decide_speaks, decide_placed, decided_unrefused, treated_in more)

-- A PLAY that waits does so for a session that is there.
abbrev ArePlaysIn : List SeenSession → List Play → Type 0
ArePlaysIn sessions [] = Unit {0}
ArePlaysIn sessions (play ∷ plays) = IsSeenRoomy sessions play.place None × ArePlaysIn sessions plays

calm_plays : (queued : Option ℕ) (sessions : List SeenSession) (plays : List Play) → ArePlaysIn (queued_more_where queued sessions) plays → ArePlaysIn sessions plays
calm_plays queued sessions [] are = tt
calm_plays queued sessions (play ∷ plays) are = (calm_roomy queued play.place sessions None are.0, calm_plays queued sessions plays are.1)

plays_first : (given : Given) (decision : Decision) (more : List Shape) (again : Given → Treated) → IsDecidedIn given.sessions decision → ((one : Given) → ArePlaysIn one.sessions (again one).plays)
    → ArePlaysIn given.sessions (treated_first decision given more again).plays
plays_first given decision more again decided later = grind (arith, calm_plays)

plays_in : (shapes : List Shape) (given : Given) → ArePlaysIn given.sessions (treated shapes given).plays
plays_in [] given = tt
plays_in (shape ∷ more) given = plays_first given (decision_on given shape) more (treated more) (decided_on given shape) (plays_in more)

-- as the sessions have it
pub seen_at : (place : ℕ) (sessions : List PlayerSession) → slice_index_or (map session_found sessions) place no_session ≡ session_found (session_at place sessions)
seen_at place sessions = get_or-map session_found sessions place new_session

pub seen_tracks : (sessions : List PlayerSession) → all_tracks (map session_found sessions) ≡ tracks_of sessions
seen_tracks [] = refl
seen_tracks (one ∷ more) = ap (λ (later : List Track). one.tracks ++ later) (seen_tracks more)

pub empty_seen : (from : ℕ) (sessions : List PlayerSession) → has_empty (map session_found sessions) ≡ true → IsSome (first_place (λ session. is_none session.id) from sessions)
empty_seen from [] e = cc
empty_seen from (one ∷ more) e = grind (arith, empty_seen (from + 1) more)

goes_placed : (one : Option Going) (pair : Option ℕ) (text : List ℕ) (before client : Client) → IsGoingIn (map session_found before.sessions) one → AreSame before.sessions client.sessions → client.pending ≡ None → AreTidy client.sessions → IsInPlace before
    → IsInPlace (goes_at one pair text client).client
goes_placed one pair text before client is same none tidy placed = grind (arith, same_placed, empty_seen, seen_at)

pub plays_idle : (plays : List Play) (client : Client) → (after_plays plays client).pending ≡ client.pending
plays_idle plays client = ap (λ (one : Client). one.pending) (plays_kept plays client)

place_filled : (place : Option ℕ) (at : ℕ) (sessions : List PlayerSession) → place ≡ Some at → is_filled place sessions ≡ true → is_some (session_at at sessions).id ≡ true
place_filled place at sessions is filled = ap (λ (one : Option ℕ). is_filled one sessions) (sym is) ∙ filled

plays_tidy : (plays : List Play) (before client : Client) → ArePlaysIn (map session_found before.sessions) plays → AreSame before.sessions client.sessions → AreTidy client.sessions → AreTidy (after_plays plays client).sessions
plays_tidy [] before client are same tidy = tidy
plays_tidy (play ∷ plays) before client are same tidy = grind (arith, same_then, where_same, tidy_where, queued_tidy, place_filled, same_filled, seen_at, tidy_at, plays_tidy plays before (after_queueing play client) are.1 (same_then before.sessions client.sessions (after_queueing play client).sessions same (where_same play.place (when_queued play) client.sessions (λ session. record { id = refl; tracks = refl }))) (tidy_where play.place (when_queued play) client.sessions tidy (λ at is. queued_tidy play (session_at at client.sessions) (place_filled play.place at client.sessions is (same_filled before.sessions client.sessions play.place same (grind (arith, seen_at)))) (tidy_at at client.sessions tidy))))

pub going_placed : (bases : Bases) (pair : Option ℕ) (next : NextPart) (client : Client) → IsInPlace client → IsInPlace (going_on bases pair next client).client
going_placed bases pair next client placed = going_as (λ effect. IsInPlace effect.client) bases pair next client (record {
  still = placed;
  released = λ place play idle due is.
      let there = place_is has_due place client.sessions due in
      same_placed client (release_with (Some play) place client) (changed_same place when_next client.sessions (λ session. record { id = refl; tracks = refl }))
      (due_filled (session_at place client.sessions) (tidy_at place client.sessions placed.tidy) (due_queue (session_at place client.sessions) there.passes))
      (tidy_where (Some place) when_next client.sessions placed.tidy (λ at here. next_tidy (session_at at client.sessions) (tidy_at at client.sessions placed.tidy))) placed;
  treats = λ idle alive.
      let all = treated client.waiting (given bases (is_none pair) client) in
      let left = record client { waiting = all.left } in
      goes_placed all.going pair all.hand client (after_plays all.plays left) (treated_in client.waiting (given bases (is_none pair) client)) (plays_steady all.plays left).sessions (plays_idle all.plays left ∙ idle)
      (plays_tidy all.plays client left (plays_in client.waiting (given bases (is_none pair) client)) (all_same client.sessions) placed.tidy) placed;
  left = λ place id idle dead filled is. same_placed client (record client { pending = Some (purposes.Closing place) }) (all_same client.sessions) tt placed.tidy placed;
})

pub step_placed : (bases : Bases) (number : ℕ) (pair : Option ℕ) (client : Client) (event : PrivateEvent) → IsInPlace client → IsInPlace (step bases number pair client event).client
step_placed bases number pair client event placed =
    let heard : Hearing = hear bases number client event in
    going_placed bases pair heard.next heard.effect.client (hear_placed bases number client event placed)

pub alone_placed : (bases : Bases) (events : List PrivateEvent) → IsInPlace (private_after bases events).client
alone_placed bases [] = record { places = refl; tidy = (refl, (refl, (refl, (refl, tt)))); few = λ place. grind arith; pending = tt }
alone_placed bases (event ∷ events) =
    let p = private_after bases events in
    alone_as (λ effect. IsInPlace effect.client) bases p event (alone_placed bases events) (alone_placed bases events) (step_placed bases p.count (pair_alone event (p.count + 1)) p.client event (alone_placed bases events))

-- all of its streams
few_streams : (sessions : List PlayerSession) → AreFew sessions → length (tracks_of sessions) ≤ length sessions * MOST_TRACKS
few_streams [] few = omega arith
few_streams (one ∷ more) few = omega (arith, length-append one.tracks (tracks_of more), few_in one.id one.tracks (few 0), few_streams more (λ place. few (suc place)))

pub few_all : (client : Client) → IsInPlace client → length (tracks_of client.sessions) ≤ 63
few_all client placed = grind (arith, few_streams)
