-- A connection that is alive stands where the walks have come to, and what goes up keeps that.
use Rattle.std.proofs.Common.{◌≡◌, ◌∙◌, ℕ, ◌+◌, ◌==◌, Bool, true, false, not, ◌&&◌, List, [], ◌∷◌, ◌++◌, map, length, Option, None, Some, IfSome, refl, sym, ap, subst, arith}
use Rattle.std.specs.Prelude.{codes, is_none, slice_get}
use Rattle.rtsp_head.specs.Items.{Shape}
use Rattle.rtsp_uri.specs.declared.base.Bases.{Bases}
use Rattle.head_one.specs.Requests.{request_of_item}
use Rattle.session_one.specs.declared.parts.Asked.{Asked}
use Rattle.session_one.specs.declared.parts.Play.{Play}
use Rattle.session_one.specs.declared.parts.Track.{Track}
use Rattle.session_one.specs.declared.table.State.{State}
use Rattle.session_one.specs.declared.table.State.TheVariants.{Init, Ready, Playing}
use Rattle.translate_up.specs.Fields.{field}
use Rattle.translate_up.specs.Views.{SeenSession, place_from, session_or_none}
use Rattle.translate_up.proofs.StateLemmas.{IsValidId, IsSent, IsGiven}
use Rattle.client_slot.specs.declared.purpose.Purpose.{Purpose}
use Rattle.client_slot.specs.declared.purpose.Purpose.TheVariants as purposes
use Rattle.client_slot.specs.Session.{PlayerSession}
use Rattle.client_slot.specs.SessionChanges.{when_next, when_queued}
use Rattle.client_slot.specs.Places.{session_at, session_where, changed_at, changed_where, first_place, place_with, is_session, has_due, queued_at}
use Rattle.client_slot.specs.Client.{Client}
use Rattle.client_slot.specs.Changes.{after_queueing, release_with}
use Rattle.client_slot.proofs.PlaceLemmas.{first_changed, kept_each, place_is}
use Rattle.client_machine.specs.Events.{Effect, stays, then_effect}
use Rattle.client_machine.specs.Treatment.{session_found, given, Going, Treated, treated}
use Rattle.client_machine.specs.Step.{after_plays, goes_at, goes_with, NextPart, going_on}
use Rattle.client_machine.specs.SeenRun.{may_become}
use Rattle.client_machine.proofs.EachLemmas.{one_where, by_option}
use Rattle.client_machine.proofs.WayLemmas.{going_as}
use Rattle.client_machine.proofs.PlaceLemmas.{seen_at, plays_idle}
use Rattle.client_machine.proofs.SeenWalkLemmas.{may_self, IsWalked, none_walked, walked_more}
use Rattle.client_machine.proofs.SeenTreatLemmas.{counted, places_in, states_in, ArePlaysOn, IsNamedAt, AreAway, IsTreatedSo, same_function, treat_walks}

-- the place of the session with an id, and the state of the session at a place
abbrev pub places_of : List PlayerSession → List ℕ → Option ℕ
places_of sessions id = place_with id sessions

abbrev pub states_of : List PlayerSession → Option ℕ → State
states_of sessions place = (session_where place sessions).state

-- A PLAY runs or waits only while streams play.
abbrev pub IsCalm : State → Option ℕ → List Play → Type 0
IsCalm Init running queue = (running ≡ None) × (queue ≡ [])
IsCalm Ready running queue = (running ≡ None) × (queue ≡ [])
IsCalm Playing running queue = Unit {0}

pub record IsSound (session : PlayerSession) : Type 0 where
  pub calm : IsCalm session.state session.running session.queue
  pub id : IsValidId session.id

-- The player's owed request: its method had a row in a state that the walk can reach, from which the session's can follow.
pub record IsAsked (at : List ℕ → State) (places : List ℕ → Option ℕ) (states : Option ℕ → State) (asked : Asked) (track : Option Track) (owed : List Shape) : Type 0 where
  pub shape : Shape
  pub owed_is : owed ≡ shape ∷ []
  pub from : State
  pub sent : IsSent from (request_of_item shape) asked
  pub at_is : IsNamedAt places (field sent.request (codes "Session")) asked.place
  pub reached : (id : List ℕ) → places id ≡ asked.place → may_become (at id) from ≡ true
  pub became : may_become from (states asked.place) ≡ true
  pub channels : IfSome track (λ one. IsGiven one.client)

abbrev pub IsOpen : (List ℕ → State) → List PlayerSession → Option Purpose → List Shape → Type 0
IsOpen at sessions None owed = owed ≡ []
IsOpen at sessions (Some (purposes.Client asked track)) owed = IsAsked at (places_of sessions) (states_of sessions) asked track owed
IsOpen at sessions (Some (purposes.Released play)) owed = (owed ≡ []) × ((session_where play.place sessions).state ≡ Playing) × ((session_where play.place sessions).running ≡ None)
IsOpen at sessions (Some (purposes.Closing place)) owed = ⊥

-- A connection that is alive, by the states that the walks have come to and by the requests without an answer.
pub record IsStanding (at : List ℕ → State) (client : Client) (requests : List Shape) : Type 0 where
  pub alive : client.alive ≡ true
  pub became : (id : List ℕ) → may_become (at id) (states_of client.sessions (places_of client.sessions id)) ≡ true
  pub each : (place : Option ℕ) → IsSound (session_where place client.sessions)
  pub owed : List Shape
  pub is_open : IsOpen at client.sessions client.pending owed
  pub requests_are : requests ≡ owed ++ counted client.waiting

-- What an effect answers, and what stands then.
pub record IsWalking (at : List ℕ → State) (requests : List Shape) (effect : Effect) : Type 0 where
  pub now : List ℕ → State
  pub left : List Shape
  pub walked : IsWalked at requests effect.hand now left
  pub stands : IsStanding now effect.client left

-- where nothing is answered
pub walks_on : (at : List ℕ → State) (requests : List Shape) (effect : Effect) → effect.hand ≡ [] → IsStanding at effect.client requests → IsWalking at requests effect
walks_on at requests effect none stands = record { now = at; left = requests; walked = none_walked at requests effect.hand none; stands = stands }

-- one effect after another
pub walks_then : (at : List ℕ → State) (requests : List Shape) (first second : Effect) → IsWalking at requests first
    → ((now : List ℕ → State) (left : List Shape) → IsStanding now first.client left → IsWalking now left second) → IsWalking at requests (then_effect first second)
walks_then at requests first second a more =
    let b : IsWalking a.now a.left second = more a.now a.left a.stands in
    record { now = b.now; left = b.left; walked = walked_more at a.now b.now requests a.left b.left first.hand second.hand a.walked b.walked; stands = b.stands }

pub each_where : (P : PlayerSession → Type 0) (place : Option ℕ) (change : PlayerSession → PlayerSession) (sessions : List PlayerSession) → (P (session_where place sessions) → P (change (session_where place sessions)))
    → ((at : Option ℕ) → P (session_where at sessions)) → (at : Option ℕ) → P (session_where at (changed_where place change sessions))
each_where P place change sessions keeps all at = one_where P place change sessions keeps at (all at)

-- the sessions have their places and states as before
pub record IsLike (before after : List PlayerSession) : Type 0 where
  pub places : (id : List ℕ) → places_of after id ≡ places_of before id
  pub states : (place : Option ℕ) → states_of after place ≡ states_of before place

like_self : (sessions : List PlayerSession) → IsLike sessions sessions
like_self sessions = record { places = λ id. refl; states = λ place. refl }

like_then : (a b c : List PlayerSession) → IsLike a b → IsLike b c → IsLike a c
like_then a b c first second = record { places = λ id. second.places id ∙ first.places id; states = λ place. second.states place ∙ first.states place }

pub same_places : (place : Option ℕ) (change : PlayerSession → PlayerSession) (sessions : List PlayerSession) → (change (session_where place sessions)).id ≡ (session_where place sessions).id
    → (id : List ℕ) → places_of (changed_where place change sessions) id ≡ places_of sessions id
same_places place change sessions same id = grind (arith, first_changed)

pub like_where : (place : Option ℕ) (change : PlayerSession → PlayerSession) (sessions : List PlayerSession) → (change (session_where place sessions)).id ≡ (session_where place sessions).id → (change (session_where place sessions)).state ≡ (session_where place sessions).state
    → IsLike sessions (changed_where place change sessions)
like_where place change sessions id state = record { places = same_places place change sessions id; states = states place state }
  where
    states : (place : Option ℕ) → (change (session_where place sessions)).state ≡ (session_where place sessions).state → (at : Option ℕ) → states_of (changed_where place change sessions) at ≡ states_of sessions at
    states None same at = refl
    states (Some place) same None = refl
    states (Some place) same (Some at) = kept_each (λ session. session.state) place at change sessions same

like_became : (at : List ℕ → State) (before after : List PlayerSession) → IsLike before after → ((id : List ℕ) → may_become (at id) (states_of before (places_of before id)) ≡ true)
    → (id : List ℕ) → may_become (at id) (states_of after (places_of after id)) ≡ true
like_became at before after like became id = ap (λ (place : Option ℕ). may_become (at id) (states_of after place)) (like.places id) ∙ ap (λ (s : State). may_become (at id) s) (like.states (places_of before id)) ∙ became id

-- Where a PLAY is due, streams play, and no request is owed.
due_in : (state : State) (running : Option ℕ) (queue : List Play) (play : Play) → slice_get queue 0 ≡ Some play → (is_none running && not (length queue == 0)) ≡ true → IsCalm state running queue → (state ≡ Playing) × (running ≡ None)
due_in state running queue play first due calm = grind arith

pub calm_playing : (state : State) (running : Option ℕ) (queue : List Play) → state ≡ Playing → IsCalm state running queue
calm_playing state running queue e = subst (λ s. IsCalm s running queue) (sym e) tt

pub none_open : (at : List ℕ → State) (client : Client) (owed : List Shape) → client.pending ≡ None → IsOpen at client.sessions client.pending owed → owed ≡ []
none_open at client owed idle is = subst (λ (p : Option Purpose). IsOpen at client.sessions p owed) idle is

released_stands : (at : List ℕ → State) (client : Client) (requests : List Shape) (place : ℕ) (play : Play) → client.pending ≡ None → first_place has_due 0 client.sessions ≡ Some place → queued_at place client.sessions ≡ Some play
    → IsStanding at client requests → IsStanding at (release_with (Some play) place client) requests
released_stands at client requests place play idle due first st =
    let there = place_is has_due place client.sessions due in
    let session = session_at place client.sessions in
    let is = due_in session.state session.running session.queue play first there.passes (st.each (Some place)).calm in
    let like = like_where (Some place) when_next client.sessions refl refl in
    record {
      alive = st.alive;
      became = like_became at client.sessions (changed_at place when_next client.sessions) like st.became;
      each = each_where IsSound (Some place) when_next client.sessions (λ sound. record { calm = calm_playing session.state session.running (when_next session).queue is.0; id = sound.id }) st.each;
      owed = st.owed;
      is_open = (none_open at client st.owed idle st.is_open, like.states (Some place) ∙ is.0, kept_each (λ one. one.running) place place when_next client.sessions refl ∙ is.1);
      requests_are = st.requests_are;
    }

-- PLAYs that wait change queues alone, of sessions that play.
record IsQueued (before after : Client) : Type 0 where
  alive : after.alive ≡ before.alive
  waiting : after.waiting ≡ before.waiting
  like : IsLike before.sessions after.sessions
  each : (place : Option ℕ) → IsSound (session_where place after.sessions)

same_plays : (before after : Option ℕ → State) (plays : List Play) → ((place : Option ℕ) → after place ≡ before place) → ArePlaysOn before plays → ArePlaysOn after plays
same_plays before after [] same are = tt
same_plays before after (play ∷ plays) same are = (same play.place ∙ are.0, same_plays before after plays same are.1)

plays_queued : (plays : List Play) (client : Client) → ArePlaysOn (states_of client.sessions) plays → ((place : Option ℕ) → IsSound (session_where place client.sessions)) → IsQueued client (after_plays plays client)
plays_queued [] client are each = record { alive = refl; waiting = refl; like = like_self client.sessions; each = each }
plays_queued (play ∷ plays) client are each =
    let one : Client = after_queueing play client in
    let session = session_where play.place client.sessions in
    let like : IsLike client.sessions one.sessions = like_where play.place (when_queued play) client.sessions refl refl in
    let later : IsQueued one (after_plays plays one) =
    plays_queued plays one (same_plays (states_of client.sessions) (states_of one.sessions) plays like.states are.1)
    (each_where IsSound play.place (when_queued play) client.sessions (λ sound. record { calm = calm_playing session.state session.running (session.queue ++ play ∷ []) are.0; id = sound.id }) each) in
    record { alive = later.alive; waiting = later.waiting; like = like_then client.sessions one.sessions (after_plays plays one).sessions like later.like; each = later.each }

-- Requests that were treated, and what goes up of them.
goes_walks : (one : Option Going) (pair : Option ℕ) (hand : List ℕ) (at now : List ℕ → State) (after : Client) (requests owed : List Shape) → after.alive ≡ true → after.pending ≡ None
    → ((id : List ℕ) → may_become (now id) (states_of after.sessions (places_of after.sessions id)) ≡ true) → ((place : Option ℕ) → IsSound (session_where place after.sessions))
    → IsWalked at requests hand now (owed ++ counted after.waiting) → AreAway (places_of after.sessions) (states_of after.sessions) one owed → IsWalking at requests (goes_at one pair hand after)
goes_walks None pair hand at now after requests owed alive idle became each walked away = record {
  now = now;
  left = owed ++ counted after.waiting;
  walked = walked;
  stands = record { alive = alive; became = became; each = each; owed = owed; is_open = subst (λ (p : Option Purpose). IsOpen now after.sessions p owed) (sym idle) away; requests_are = refl };
}
goes_walks (Some one) pair hand at now after requests owed alive idle became each walked away = record {
  now = now;
  left = owed ++ counted after.waiting;
  walked = walked;
  stands = record {
    alive = alive;
    became = became;
    each = each;
    owed = owed;
    is_open = record {
      shape = away.shape;
      owed_is = away.owed_is;
      from = states_of after.sessions one.asked.place;
      sent = away.sent;
      at_is = away.at;
      reached = λ id is. ap (λ (place : Option ℕ). may_become (now id) (states_of after.sessions place)) (sym is) ∙ became id;
      became = may_self (states_of after.sessions one.asked.place);
      channels = (grind arith);
    };
    requests_are = refl;
  };
}

-- as the sessions are seen
seen_places : (id : List ℕ) (first : ℕ) (sessions : List PlayerSession) → place_from id first (map session_found sessions) ≡ first_place (λ session. is_session id session.id) first sessions
seen_places id first [] = refl
seen_places id first (one ∷ more) = grind (arith, by_option, seen_places id (first + 1) more)

seen_states : (sessions : List PlayerSession) (place : Option ℕ) → states_in (map session_found sessions) place ≡ states_of sessions place
seen_states sessions place = grind (arith, seen_at)

seen_ids : (sessions : List PlayerSession) → ((place : Option ℕ) → IsSound (session_where place sessions)) → (place : Option ℕ) → IsValidId (session_or_none place (map session_found sessions)).id
seen_ids sessions each None = tt
seen_ids sessions each (Some place) = subst (λ (one : SeenSession). IsValidId one.id) (sym (seen_at place sessions)) (each (Some place)).id

seen_treated : (client : Client) (bases : Bases) (full : Bool) (at : List ℕ → State) → ((id : List ℕ) → may_become (at id) (states_of client.sessions (places_of client.sessions id)) ≡ true) → ((place : Option ℕ) → IsSound (session_where place client.sessions))
    → IsTreatedSo at (places_of client.sessions) (states_of client.sessions) (counted client.waiting) (treated client.waiting (given bases full client))
seen_treated client bases full at became each =
    let seen = map session_found client.sessions in
    let places = same_function (places_in seen) (places_of client.sessions) (λ id. seen_places id 0 client.sessions) in
    let states = same_function (states_in seen) (states_of client.sessions) (seen_states client.sessions) in
    subst (λ (f : List ℕ → Option ℕ). IsTreatedSo at f (states_of client.sessions) (counted client.waiting) (treated client.waiting (given bases full client))) places
    (subst (λ (f : Option ℕ → State). IsTreatedSo at (places_in seen) f (counted client.waiting) (treated client.waiting (given bases full client))) states
    (treat_walks client.waiting at (given bases full client)
    (λ id. ap (λ (f : List ℕ → Option ℕ). may_become (at id) (states_in seen (f id))) places ∙ ap (λ (f : Option ℕ → State). may_become (at id) (f (places_of client.sessions id))) states ∙ became id)
    (seen_ids client.sessions each)))

like_away : (before after : List PlayerSession) (one : Option Going) (owed : List Shape) → IsLike before after → AreAway (places_of before) (states_of before) one owed → AreAway (places_of after) (states_of after) one owed
like_away before after one owed like away =
    subst (λ (f : List ℕ → Option ℕ). AreAway f (states_of after) one owed) (sym (same_function (places_of after) (places_of before) like.places))
    (subst (λ (f : Option ℕ → State). AreAway (places_of before) f one owed) (sym (same_function (states_of after) (states_of before) like.states)) away)

treated_walks : (at : List ℕ → State) (client : Client) (pair : Option ℕ) (all : Treated) → client.alive ≡ true → client.pending ≡ None → ((place : Option ℕ) → IsSound (session_where place client.sessions))
    → IsTreatedSo at (places_of client.sessions) (states_of client.sessions) (counted client.waiting) all → IsWalking at (counted client.waiting) (goes_with all pair client)
treated_walks at client pair all alive idle each so =
    let before : Client = record client { waiting = all.left } in
    let after : Client = after_plays all.plays before in
    let queued : IsQueued before after = plays_queued all.plays before so.plays each in
    goes_walks all.going pair all.hand at so.now after (counted client.waiting) so.owed (queued.alive ∙ alive) (plays_idle all.plays before ∙ idle)
    (like_became so.now before.sessions after.sessions queued.like so.became) queued.each
    (subst (λ (l : List Shape). IsWalked at (counted client.waiting) all.hand so.now (so.owed ++ counted l)) (sym queued.waiting) so.walked) (like_away before.sessions after.sessions all.going so.owed queued.like so.away)

-- What goes up for a connection that stands.
none_before : (owed requests : List Shape) (client : Client) → owed ≡ [] → requests ≡ owed ++ counted client.waiting → counted client.waiting ≡ requests
none_before owed requests client none e = sym (e ∙ ap (λ (l : List Shape). l ++ counted client.waiting) none)

pub going_walks : (bases : Bases) (pair : Option ℕ) (next : NextPart) (at : List ℕ → State) (client : Client) (requests : List Shape) → IsStanding at client requests → IsWalking at requests (going_on bases pair next client)
going_walks bases pair next at client requests st = going_as (IsWalking at requests) bases pair next client (record {
  still = walks_on at requests (stays client) refl st;
  released = λ place play idle due is. walks_on at requests _ refl (released_stands at client requests place play idle due is st);
  treats = λ idle alive.
      subst (λ (l : List Shape). IsWalking at l (goes_with (treated client.waiting (given bases (is_none pair) client)) pair client)) (none_before st.owed requests client (none_open at client st.owed idle st.is_open) st.requests_are)
      (treated_walks at client pair (treated client.waiting (given bases (is_none pair) client)) alive idle st.each (seen_treated client bases (is_none pair) at st.became st.each));
  left = λ place id idle dead filled is. let bad : true ≡ false = sym st.alive ∙ dead in cc;
})

-- Nothing is handed to one that is not alive, and it stays so.
pub record IsDead (effect : Effect) : Type 0 where
  pub closed : effect.client.alive ≡ false
  pub none : effect.hand ≡ []

pub going_dead : (bases : Bases) (pair : Option ℕ) (next : NextPart) (client : Client) → client.alive ≡ false → IsDead (going_on bases pair next client)
going_dead bases pair next client dead = grind arith

pub then_dead : (first second : Effect) → first.hand ≡ [] → IsDead second → IsDead (then_effect first second)
then_dead first second none dead = record { closed = dead.closed; none = ap (λ t. t ++ second.hand) none ∙ dead.none }
