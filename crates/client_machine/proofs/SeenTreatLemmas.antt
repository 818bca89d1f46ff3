-- Requests that are treated in a row walk the table.
use Rattle.std.proofs.Common.{◌≡◌, ◌∙◌, ◌^◌, ℕ, ◌+◌, Bool, true, cond, List, [], ◌∷◌, ◌++◌, length, Option, None, Some, IfSome, IsSome, Result, Ok, refl, sym, ap, subst, arith}
use Rattle.std.specs.Prelude.{codes}
use Rattle.std.specs.List.{filter}
use Rattle.std.proofs.lemmas.Bool.{ltb-true}
use Rattle.std.proofs.lemmas.Slice.Eq.{bytes_eq-Decides}
use Rattle.rtsp_head.specs.Items.{Shape}
use Rattle.rtsp_small.specs.declared.method.Method.{Method}
use Rattle.head_one.specs.declared.reply.Reply1.{Reply1}
use Rattle.head_one.specs.declared.request.Request1.{Request1}
use Rattle.head_one.specs.declared.refusal.Refusal.{Refusal}
use Rattle.head_one.specs.Requests.{request_of_item}
use Rattle.session_one.specs.declared.parts.Play.{Play}
use Rattle.session_one.specs.declared.table.State.{State}
use Rattle.session_one.specs.declared.table.State.TheVariants.{Playing}
use Rattle.translate_up.specs.Fields.{field}
use Rattle.translate_up.specs.Ids.{id_of, are_same}
use Rattle.translate_up.specs.Leads.{method_asked, led_by}
use Rattle.translate_up.specs.Views.{SeenSession, Given, place_from, place_with_id, place_named, session_or_none, judged_by}
use Rattle.translate_up.specs.Decisions.{judged_read, judged_of, decide}
use Rattle.translate_up.specs.declared.decision.Decision.{Decision}
use Rattle.translate_up.specs.declared.decision.Decision.TheVariants.{Answer, Forward, Queue, Setup}
use Rattle.translate_up.proofs.StateLemmas.{IsValidId, IsAnswer, IsSent, IsGiven, IsDecided, decided}
use Rattle.translate_up.proofs.DecisionLemmas.{IsPlacedAs, decide_placed}
use Rattle.translate_up.proofs.NoRefusalLemmas.{IsUnrefused, IsUpAs, IsUnrefusedIn, decided_unrefused}
use Rattle.client_slot.specs.Places.{is_session}
use Rattle.client_machine.specs.Treatment.{queued_more_where, one_queued, fits_memory, Going, Treated, treated_first, treated, ahead}
use Rattle.client_machine.specs.SeenRun.{SeenStep, id_about, is_about, may_become}
use Rattle.client_machine.proofs.EachLemmas.{by_test}
use Rattle.client_machine.proofs.PlaceLemmas.{calm_in}
use Rattle.client_machine.proofs.TreatLemmas.{calm_by}
use Rattle.client_machine.proofs.SeenWalkLemmas.{may_self, led_for, IsWalked, none_walked, step_walked, walked_more}

-- the requests that memory can hold
abbrev pub counted : List Shape → List Shape
counted shapes = filter fits_memory shapes

-- the place of the session with an id, and the state of the session at a place
abbrev pub places_in : List SeenSession → List ℕ → Option ℕ
places_in sessions id = place_with_id id sessions

abbrev pub states_in : List SeenSession → Option ℕ → State
states_in sessions place = (session_or_none place sessions).state

-- PLAYs wait only while streams play.
abbrev pub ArePlaysOn : (Option ℕ → State) → List Play → Type 0
ArePlaysOn states [] = Unit {0}
ArePlaysOn states (play ∷ plays) = (states play.place ≡ Playing) × ArePlaysOn states plays

-- By a request's Session field: it names the session at a place, or none.
abbrev pub IsNamedAt : (List ℕ → Option ℕ) → Option (List ℕ) → Option ℕ → Type 0
IsNamedAt places None place = place ≡ None
IsNamedAt places (Some value) place = (id : List ℕ) × (id_of value ≡ Some id) × (places id ≡ place) × IsSome place

-- the request that goes up
pub record IsAway (places : List ℕ → Option ℕ) (states : Option ℕ → State) (one : Going) (owed : List Shape) : Type 0 where
  pub shape : Shape
  pub owed_is : owed ≡ shape ∷ []
  pub sent : IsSent (states one.asked.place) (request_of_item shape) one.asked
  pub channels : IfSome one.channels IsGiven
  pub at : IsNamedAt places (field sent.request (codes "Session")) one.asked.place

abbrev pub AreAway : (List ℕ → Option ℕ) → (Option ℕ → State) → Option Going → List Shape → Type 0
AreAway places states None owed = owed ≡ []
AreAway places states (Some one) owed = IsAway places states one owed

-- What becomes of requests, from states that the walks have come to, in the states of the sessions.
pub record IsTreatedSo (at : List ℕ → State) (places : List ℕ → Option ℕ) (states : Option ℕ → State) (requests : List Shape) (all : Treated) : Type 0 where
  pub owed : List Shape
  pub now : List ℕ → State
  pub walked : IsWalked at requests all.hand now (owed ++ counted all.left)
  pub became : (id : List ℕ) → may_become (now id) (states (places id)) ≡ true
  pub away : AreAway places states all.going owed
  pub plays : ArePlaysOn states all.plays

-- An answer of the gateway itself is about the session by whose state it was decided.
pub id_is : (one : Option (List ℕ)) (id : List ℕ) → is_session id one ≡ true → one ≡ Some id
id_is one id e = grind (arith, bytes_eq-Decides)

answered_at : (given : Given) (found : Result Request1 Refusal) (reply : Reply1) (id : List ℕ) → led_by (judged_read given found).state (method_asked found) reply.code ≡ Some (judged_read given found).state
    → is_session id (id_about found reply) ≡ true → states_in given.sessions (places_in given.sessions id) ≡ (judged_read given found).state
answered_at given found reply id leads about = grind (arith, id_is)

-- one step before those of the others
step_first : (at : List ℕ → State) (places : List ℕ → Option ℕ) (states : Option ℕ → State) (state : State) (shape : Shape) (requests : List Shape) (text : List ℕ) (later : Treated) (answer : IsAnswer state (request_of_item shape) text)
    → ((id : List ℕ) → is_about id (record { request = shape; reply = answer.reply }) ≡ true → states (places id) ≡ state) → ((id : List ℕ) → may_become (at id) (states (places id)) ≡ true)
    → ((next : List ℕ → State) → ((id : List ℕ) → may_become (next id) (states (places id)) ≡ true) → IsTreatedSo next places states requests later) → IsTreatedSo at places states (shape ∷ requests) (ahead text [] later)
step_first at places states state shape requests text later answer about may on =
    let step : SeenStep = record { request = shape; reply = answer.reply } in
    let next : List ℕ → State = led_for at step state in
    let so : IsTreatedSo next places states requests later = on next (λ id. by_test (is_about id step) (λ here. may_become (cond here state (at id)) (states (places id)) ≡ true)
    (λ is. subst (λ (s : State). may_become state s ≡ true) (sym (about id is)) (may_self state)) (λ is. may id)) in
    record {
      owed = so.owed;
      now = so.now;
      walked = walked_more at next so.now (shape ∷ requests) requests (so.owed ++ counted later.left) text later.hand
          (step_walked at step state state requests text (λ id here. subst (λ (s : State). may_become (at id) s ≡ true) (about id here) (may id)) answer.leads answer.number answer.readable answer.text_is) so.walked;
      became = so.became;
      away = so.away;
      plays = so.plays;
    }

goes_away : (at : List ℕ → State) (places : List ℕ → Option ℕ) (states : Option ℕ → State) (shape : Shape) (more : List Shape) (one : Going) → ((id : List ℕ) → may_become (at id) (states (places id)) ≡ true)
    → (sent : IsSent (states one.asked.place) (request_of_item shape) one.asked) → IfSome one.channels IsGiven → IsNamedAt places (field sent.request (codes "Session")) one.asked.place
    → IsTreatedSo at places states (shape ∷ counted more) (record { hand = []; plays = []; going = Some one; left = more })
goes_away at places states shape more one may sent channels named = record {
  owed = shape ∷ [];
  now = at;
  walked = none_walked at (shape ∷ counted more) [] refl;
  became = may;
  away = record { shape = shape; owed_is = refl; sent = sent; channels = channels; at = named };
  plays = tt;
}

-- A request that goes up names a session that is there, or none.
named_by : (given : Given) (request : Request1) (value : Option (List ℕ)) (place : Option ℕ) → field request (codes "Session") ≡ value → place ≡ place_named value given.sessions → IsUnrefused (judged_by given (field request (codes "Session"))) request
    → IsNamedAt (places_in given.sessions) value place
named_by given request value place is at un = grind arith

named_at : (given : Given) (found : Result Request1 Refusal) (method : Method) (request : Request1) (place : Option ℕ) → found ≡ Ok request → place ≡ (judged_read given found).place → IsUnrefusedIn given found method
    → IsNamedAt (places_in given.sessions) (field request (codes "Session")) place
named_at given found method request place is at h7 = grind arith

-- what becomes of the others, wherever the walks have come to
abbrev AreValid : List SeenSession → Type 0
AreValid sessions = (place : Option ℕ) → IsValidId (session_or_none place sessions).id

abbrev Walks : List Shape → Type 0
Walks more = (at : List ℕ → State) (given : Given) → ((id : List ℕ) → may_become (at id) (states_in given.sessions (places_in given.sessions id)) ≡ true) → AreValid given.sessions
    → IsTreatedSo at (places_in given.sessions) (states_in given.sessions) (counted more) (treated more given)

-- PLAYs that wait change no place and no state.
calm_places : (queued : Option ℕ) (sessions : List SeenSession) (id : List ℕ) → places_in (queued_more_where queued sessions) id ≡ places_in sessions id
calm_places queued sessions id =
    ap (λ (find : ℕ → Option ℕ). find 0)
    (calm_by (λ all first. place_from id first all) queued sessions (λ one n more. refl) (λ one a b same. λ i first. cond (are_same one.id (Some id)) (Some first) (same i (first + 1))))

calm_states : (queued : Option ℕ) (sessions : List SeenSession) (place : Option ℕ) → states_in (queued_more_where queued sessions) place ≡ states_in sessions place
calm_states queued sessions place = calm_in (λ one. one.state) queued place sessions (λ one n. refl)

calm_valid : (queued : Option ℕ) (sessions : List SeenSession) → AreValid sessions → AreValid (queued_more_where queued sessions)
calm_valid queued sessions valid place = subst IsValidId (sym (calm_in (λ one. one.id) queued place sessions (λ one n. refl))) (valid place)

pub same_function : {A B : Type 0} (f g : A → B) → ((x : A) → f x ≡ g x) → f ≡ g
same_function f g same = λ i x. same x i

queued_walks : (at : List ℕ → State) (given : Given) (play : Play) (more : List Shape) → Walks more → AreValid given.sessions → ((id : List ℕ) → may_become (at id) (states_in given.sessions (places_in given.sessions id)) ≡ true)
    → IsTreatedSo at (places_in given.sessions) (states_in given.sessions) (counted more) (treated more (one_queued play given))
queued_walks at given play more walks valid may =
    let places = same_function (places_in (queued_more_where play.place given.sessions)) (places_in given.sessions) (calm_places play.place given.sessions) in
    let states = same_function (states_in (queued_more_where play.place given.sessions)) (states_in given.sessions) (calm_states play.place given.sessions) in
    subst (λ (f : List ℕ → Option ℕ). IsTreatedSo at f (states_in given.sessions) (counted more) (treated more (one_queued play given))) places
    (subst (λ (f : Option ℕ → State). IsTreatedSo at (places_in (queued_more_where play.place given.sessions)) f (counted more) (treated more (one_queued play given))) states
    (walks at (one_queued play given)
    (λ id. ap (λ (f : List ℕ → Option ℕ). may_become (at id) (states_in (queued_more_where play.place given.sessions) (f id))) places ∙ ap (λ (f : Option ℕ → State). may_become (at id) (f (places_in given.sessions id))) states ∙ may id)
    (calm_valid play.place given.sessions valid)))

with_more_plays : (at : List ℕ → State) (places : List ℕ → Option ℕ) (states : Option ℕ → State) (requests : List Shape) (all : Treated) (play : Play) → states play.place ≡ Playing → IsTreatedSo at places states requests all
    → IsTreatedSo at places states requests (record all { plays = play ∷ all.plays })
with_more_plays at places states requests all play playing so = grind arith

judged_state : (given : Given) (found : Result Request1 Refusal) → (judged_read given found).state ≡ states_in given.sessions (judged_read given found).place
judged_state given found = grind arith

by_decision : (at : List ℕ → State) (given : Given) (shape : Shape) (more : List Shape) (decision : Decision) → ((id : List ℕ) → may_become (at id) (states_in given.sessions (places_in given.sessions id)) ≡ true) → AreValid given.sessions
    → IsDecided (judged_of given shape).state (request_of_item shape) decision → IsPlacedAs (judged_of given shape) decision → IsUpAs (IsUnrefusedIn given (request_of_item shape)) decision → Walks more
    → IsTreatedSo at (places_in given.sessions) (states_in given.sessions) (shape ∷ counted more) (treated_first decision given more (treated more))
by_decision at given shape more (Answer text) may valid one placed un walks =
    step_first at (places_in given.sessions) (states_in given.sessions) (judged_of given shape).state shape (counted more) text (treated more given) one
    (λ id about. answered_at given (request_of_item shape) one.reply id one.leads about) may (λ next became. walks next given became valid)
by_decision at given shape more (Queue play text) may valid one placed un walks =
    with_more_plays at (places_in given.sessions) (states_in given.sessions) (shape ∷ counted more) (ahead text [] (treated more (one_queued play given))) play
    (ap (states_in given.sessions) placed ∙ sym (judged_state given (request_of_item shape)) ∙ one.1)
    (step_first at (places_in given.sessions) (states_in given.sessions) (judged_of given shape).state shape (counted more) text (treated more (one_queued play given)) one.0
    (λ id about. answered_at given (request_of_item shape) one.0.reply id one.0.leads about) may (λ next became. queued_walks next given play more walks valid became))
by_decision at given shape more (Forward request asked) may valid one placed un walks =
    let state : (judged_of given shape).state ≡ states_in given.sessions asked.place = judged_state given (request_of_item shape) ∙ ap (states_in given.sessions) (sym placed) in
    let sent : IsSent (states_in given.sessions asked.place) (request_of_item shape) asked = subst (λ (s : State). IsSent s (request_of_item shape) asked) state one in
    goes_away at (places_in given.sessions) (states_in given.sessions) shape more (record { request = request; asked = asked; channels = None }) may sent tt
    (named_at given (request_of_item shape) asked.method sent.request asked.place sent.found_is placed un)
by_decision at given shape more (Setup request asked pair) may valid one placed un walks =
    let state : (judged_of given shape).state ≡ states_in given.sessions asked.place = judged_state given (request_of_item shape) ∙ ap (states_in given.sessions) (sym placed) in
    let sent : IsSent (states_in given.sessions asked.place) (request_of_item shape) asked = subst (λ (s : State). IsSent s (request_of_item shape) asked) state one.0 in
    goes_away at (places_in given.sessions) (states_in given.sessions) shape more (record { request = request; asked = asked; channels = Some pair }) may sent one.1
    (named_at given (request_of_item shape) asked.method sent.request asked.place sent.found_is placed un)

valid_judged : (given : Given) (found : Result Request1 Refusal) → AreValid given.sessions → IsValidId (judged_read given found).session
valid_judged given found valid = grind arith

-- Requests that wait are treated.
pub treat_walks : (waiting : List Shape) (at : List ℕ → State) (given : Given) → ((id : List ℕ) → may_become (at id) (states_in given.sessions (places_in given.sessions id)) ≡ true) → AreValid given.sessions
    → IsTreatedSo at (places_in given.sessions) (states_in given.sessions) (counted waiting) (treated waiting given)
treat_walks [] at given may valid = record {
  owed = [];
  now = at;
  walked = none_walked at [] [] refl;
  became = may;
  away = refl;
  plays = tt;
}
treat_walks (shape ∷ more) at given may valid =
    let becomes : Bool → Type 0 = λ fits. IsTreatedSo at (places_in given.sessions) (states_in given.sessions) (cond fits (shape ∷ counted more) (counted more)) (treated_first (cond fits (decide given shape) (Answer [])) given more (treated more)) in
    by_test (fits_memory shape) becomes
    (λ fits. by_decision at given shape more (decide given shape) may valid (decided given shape (valid_judged given (request_of_item shape) valid) (ltb-true (length shape.bytes) (2 ^ 64) fits)) (decide_placed given shape) (decided_unrefused given shape) (treat_walks more))
    (λ none. treat_walks more at given may valid)
