-- A place has a session with its id and what it is about, or is empty.
use Rattle.std.proofs.Common.{◌≡◌, ◌∙◌, ℕ, zero, suc, ◌==◌, Bool, true, false, ◌&&◌, ◌||◌, cond, List, [], ◌∷◌, length, map, Option, Some, None, IsSome, refl, sym, ap, subst}
use Rattle.std.specs.Prelude.{is_some}
use Rattle.std.specs.Option.{option_or, option_map}
use Rattle.rtsp_small.specs.declared.method.Method.{Method}
use Rattle.rtsp_small.specs.declared.method.Method.TheVariants as methods
use Rattle.session_one.specs.declared.table.State.{State}
use Rattle.session_one.specs.declared.table.State.TheVariants.{Ready}
use Rattle.session_one.specs.declared.parts.Asked.{Asked}
use Rattle.session_one.specs.declared.parts.Play.{Play}
use Rattle.session_one.specs.declared.parts.Track.{Track}
use Rattle.session_one.specs.Table.{same_method, is_success, state_after}
use Rattle.session_two.specs.declared.names.Names.{Names}
use Rattle.session_two.specs.Ends.{end_counts}
use Rattle.client_slot.specs.declared.purpose.Purpose.{Purpose}
use Rattle.client_slot.specs.declared.purpose.Purpose.TheVariants as purposes
use Rattle.client_slot.specs.Session.{PlayerSession, new_session}
use Rattle.client_slot.specs.Places.{session_at, changed_at, changed_where, empty_place}
use Rattle.client_slot.specs.SessionChanges.{when_ended, when_next, when_queued, when_unqueued}
use Rattle.client_slot.specs.declared.session_turn.PartTurn.{PartTurn}
use Rattle.client_slot.specs.declared.session_turn.PartTurn.TheVariants.{Keeps}
use Rattle.client_slot.specs.declared.session_turn.SessionTurn.{SessionTurn}
use Rattle.client_slot.specs.SessionTurns.{Brought, moved_turn, granted_turn, released_turn, control_by, brought_by, part_then, turned}
use Rattle.client_slot.specs.Changes.{settled_place, session_after, sessions_after}
use Rattle.client_slot.specs.Bounds.{IsTidyBy, IsTidy, AreTidy, is_filled, place_asked}

pub tidy_at : (place : ℕ) (sessions : List PlayerSession) → AreTidy sessions → IsTidy (session_at place sessions)
tidy_at place [] tidy = refl
tidy_at zero (one ∷ more) tidy = tidy.0
tidy_at (suc place) (one ∷ more) tidy = tidy_at place more tidy.1

tidy_changed : (place : ℕ) (change : PlayerSession → PlayerSession) (sessions : List PlayerSession) → AreTidy sessions → IsTidy (change (session_at place sessions)) → AreTidy (changed_at place change sessions)
tidy_changed place change [] tidy here = tt
tidy_changed zero change (one ∷ more) tidy here = (here, tidy.1)
tidy_changed (suc place) change (one ∷ more) tidy here = (tidy.0, tidy_changed place change more tidy.1 here)

pub tidy_where : (place : Option ℕ) (change : PlayerSession → PlayerSession) (sessions : List PlayerSession) → AreTidy sessions → ((at : ℕ) → place ≡ Some at → IsTidy (change (session_at at sessions))) → AreTidy (changed_where place change sessions)
tidy_where None change sessions tidy here = tidy
tidy_where (Some place) change sessions tidy here = tidy_changed place change sessions tidy (here place refl)

-- A change that keeps the id and what the session is about, and leaves an empty place empty.
keep_tidy : (change : PlayerSession → PlayerSession) (session : PlayerSession) → (change session).id ≡ session.id → (change session).control ≡ session.control → change new_session ≡ new_session → IsTidy session → IsTidy (change session)
keep_tidy change session id control empty tidy = subst (λ (one : Option (List ℕ)). IsTidyBy one (change session)) (sym id) (by session.id tidy)
  where
    by : (one : Option (List ℕ)) → IsTidyBy one session → IsTidyBy one (change session)
    by None is = ap change is ∙ empty
    by (Some one) is = subst (λ (uri : Option (List ℕ)). IsSome uri) (sym control) is

-- One of a session that is there.
filled_tidy : (session changed : PlayerSession) → is_some session.id ≡ true → changed.id ≡ session.id → (IsSome session.control → IsSome changed.control) → IsTidy session → IsTidy changed
filled_tidy session changed filled id control tidy = subst (λ (one : Option (List ℕ)). IsTidyBy one changed) (sym id) (by session.id filled tidy)
  where
    by : (one : Option (List ℕ)) → is_some one ≡ true → IsTidyBy one session → IsTidyBy one changed
    by None some is = cc
    by (Some one) some is = control is

ended_id : (counts : Bool) (session : PlayerSession) → (cond counts (record session { state = cond (length session.queue == 0) Ready session.state; running = None }) session).id ≡ session.id
ended_id true session = refl
ended_id false session = refl

ended_control : (counts : Bool) (session : PlayerSession) → (cond counts (record session { state = cond (length session.queue == 0) Ready session.state; running = None }) session).control ≡ session.control
ended_control true session = refl
ended_control false session = refl

pub ended_tidy : (names : Names) (session : PlayerSession) → IsTidy session → IsTidy (when_ended names session)
ended_tidy names session = keep_tidy (when_ended names) session (ended_id (end_counts session.running names) session) (ended_control (end_counts session.running names) session) refl

pub next_tidy : (session : PlayerSession) → IsTidy session → IsTidy (when_next session)
next_tidy session = keep_tidy when_next session refl refl refl

unqueued_one : (session : PlayerSession) → IsTidy session → IsTidy (when_unqueued session)
unqueued_one session = keep_tidy when_unqueued session refl refl refl

pub unqueued_tidy : (sessions : List PlayerSession) → AreTidy sessions → AreTidy (map when_unqueued sessions)
unqueued_tidy [] tidy = tt
unqueued_tidy (one ∷ more) tidy = (unqueued_one one tidy.0, unqueued_tidy more tidy.1)

pub queued_tidy : (play : Play) (session : PlayerSession) → is_some session.id ≡ true → IsTidy session → IsTidy (when_queued play session)
queued_tidy play session filled = filled_tidy session (when_queued play session) filled refl (λ some. some)

left_or : (filled : Bool) → (filled || false) ≡ true → filled ≡ true
left_or true h = refl
left_or false h = cc

-- A turn of a session that is there, which keeps its id, and what it is about or brings that.
turn_keeps : (turn : SessionTurn) (brought : Brought) (session : PlayerSession) → is_some session.id ≡ true → turn.id ≡ Keeps → (IsSome session.control → IsSome (part_then turn.control session.control brought.control))
    → IsTidy session → IsTidy (turned turn brought session)
turn_keeps turn brought session filled keeps control tidy =
    filled_tidy session (turned turn brought session) filled (ap (λ (part : PartTurn). part_then part session.id brought.id) keeps) control tidy

-- A turn that changes nothing but the state, which stays.
moved_same : (brought : Brought) (session : PlayerSession) → turned (moved_turn session.state) brought session ≡ session
moved_same brought session = refl

about : (described : Option (List ℕ)) (uri : List ℕ) → IsSome (option_or described (Some uri))
about None uri = refl
about (Some one) uri = refl

-- what a request with a method brings
abbrev brings : Method → ℕ → List ℕ → Option (List ℕ) → Option (List ℕ) → Option Track → Brought
brings method number uri described id track = record { number = number; control = control_by method uri described; id = id; track = track }

setup_tidy : (number : ℕ) (uri : List ℕ) (described id : Option (List ℕ)) (track : Option Track) (state : State) (session : PlayerSession) → IsTidy session → (is_some session.id || is_some id) ≡ true
    → IsTidy (turned (granted_turn methods.Setup (is_some id) state) (brings methods.Setup number uri described id track) session)
setup_tidy number uri described None track state session tidy there =
    turn_keeps (granted_turn methods.Setup false state) (brings methods.Setup number uri described None track) session (left_or (is_some session.id) there) refl (λ some. some) tidy
setup_tidy number uri described (Some id) track state session tidy there = about described uri

granted_tidy : (method : Method) (number : ℕ) (uri : List ℕ) (described id : Option (List ℕ)) (track : Option Track) (state : State) (session : PlayerSession) → IsTidy session
    → (is_some session.id || (same_method method methods.Setup && is_some id)) ≡ true
    → IsTidy (turned (granted_turn method (is_some id) state) (brings method number uri described id track) session)
granted_tidy methods.Options number uri described id track state session tidy there =
    turn_keeps (granted_turn methods.Options (is_some id) state) (brings methods.Options number uri described id track) session (left_or (is_some session.id) there) refl (λ some. some) tidy
granted_tidy methods.Describe number uri described id track state session tidy there =
    turn_keeps (granted_turn methods.Describe (is_some id) state) (brings methods.Describe number uri described id track) session (left_or (is_some session.id) there) refl (λ some. some) tidy
granted_tidy methods.Setup number uri described id track state session tidy there = setup_tidy number uri described id track state session tidy there
granted_tidy methods.Play number uri described id track state session tidy there =
    turn_keeps (granted_turn methods.Play (is_some id) state) (brings methods.Play number uri described id track) session (left_or (is_some session.id) there) refl (λ some. refl) tidy
granted_tidy methods.Pause number uri described id track state session tidy there =
    turn_keeps (granted_turn methods.Pause (is_some id) state) (brings methods.Pause number uri described id track) session (left_or (is_some session.id) there) refl (λ some. some) tidy
granted_tidy methods.Teardown number uri described id track state session tidy there = refl
granted_tidy methods.GetParameter number uri described id track state session tidy there =
    turn_keeps (granted_turn methods.GetParameter (is_some id) state) (brings methods.GetParameter number uri described id track) session (left_or (is_some session.id) there) refl (λ some. some) tidy
granted_tidy methods.SetParameter number uri described id track state session tidy there =
    turn_keeps (granted_turn methods.SetParameter (is_some id) state) (brings methods.SetParameter number uri described id track) session (left_or (is_some session.id) there) refl (λ some. some) tidy

answered_tidy : (number code : ℕ) (described id : Option (List ℕ)) (asked : Asked) (track : Option Track) (session : PlayerSession) → IsTidy session
    → (is_some session.id || (same_method asked.method methods.Setup && is_some id)) ≡ true → IsTidy (session_after (purposes.Client asked track) number code described id session)
answered_tidy number code described id asked track session tidy there = by (is_success code)
  where
    by : (success : Bool)
        → IsTidy (turned (cond success (granted_turn asked.method (is_some id) (state_after session.state asked.method code)) (moved_turn session.state)) (brought_by (purposes.Client asked track) number described id) session)
    by true = granted_tidy asked.method number asked.uri described id track (state_after session.state asked.method code) session tidy there
    by false = tidy

released_tidy : (number code : ℕ) (described id : Option (List ℕ)) (play : Play) (session : PlayerSession) → is_some session.id ≡ true → IsTidy session → IsTidy (session_after (purposes.Released play) number code described id session)
released_tidy number code described id play session filled tidy = by (is_success code)
  where
    by : (success : Bool) → IsTidy (turned (released_turn success session.state) (brought_by (purposes.Released play) number described id) session)
    by true = turn_keeps (released_turn true session.state) (brought_by (purposes.Released play) number described id) session filled refl (λ some. refl) tidy
    by false = turn_keeps (released_turn false session.state) (brought_by (purposes.Released play) number described id) session filled refl (λ some. some) tidy

first_or : (a b : Bool) → a ≡ true → (a || b) ≡ true
first_or true b h = refl
first_or false b h = cc

second_or : (a b : Bool) → b ≡ true → (a || b) ≡ true
second_or true b h = refl
second_or false b h = h

-- whose turn a reply is: that of the session that was named, or of one that the server made
reply_there : (asked : Asked) (track : Option Track) (place given : Option ℕ) (id : Option (List ℕ)) (sessions : List PlayerSession) → given ≡ place → is_filled given sessions ≡ true → (at : ℕ)
    → option_or place (cond (same_method asked.method methods.Setup && is_some id) (empty_place sessions) None) ≡ Some at
    → (is_some (session_at at sessions).id || (same_method asked.method methods.Setup && is_some id)) ≡ true
reply_there asked track (Some place) given id sessions is filled at e =
    let same : place ≡ at = cc in
    first_or (is_some (session_at at sessions).id) (same_method asked.method methods.Setup && is_some id)
    (ap (λ k. is_some (session_at k sessions).id) (sym same) ∙ ap (λ (one : Option ℕ). is_filled one sessions) (sym is) ∙ filled)
reply_there asked track None given id sessions is filled at e = by (same_method asked.method methods.Setup && is_some id) refl e
  where
    by : (sets : Bool) → (same_method asked.method methods.Setup && is_some id) ≡ sets → cond sets (empty_place sessions) None ≡ Some at → (is_some (session_at at sessions).id || (same_method asked.method methods.Setup && is_some id)) ≡ true
    by true is h = second_or (is_some (session_at at sessions).id) (same_method asked.method methods.Setup && is_some id) is
    by false is h = cc

place_filled : (place : Option ℕ) (sessions : List PlayerSession) (at : ℕ) → is_filled place sessions ≡ true → place ≡ Some at → is_some (session_at at sessions).id ≡ true
place_filled place sessions at filled is = ap (λ (one : Option ℕ). is_filled one sessions) (sym is) ∙ filled

pub after_tidy : (purpose : Purpose) (number code : ℕ) (described id : Option (List ℕ)) (sessions : List PlayerSession) → AreTidy sessions → is_filled (place_asked purpose) sessions ≡ true
    → AreTidy (sessions_after purpose number code described id sessions)
after_tidy (purposes.Client asked track) number code described id sessions tidy filled =
    tidy_where (settled_place (purposes.Client asked track) id sessions) (session_after (purposes.Client asked track) number code described id) sessions tidy
    (λ at is. answered_tidy number code described id asked track (session_at at sessions) (tidy_at at sessions tidy) (reply_there asked track asked.place asked.place id sessions refl filled at is))
after_tidy (purposes.Released play) number code described id sessions tidy filled =
    tidy_where play.place (session_after (purposes.Released play) number code described id) sessions tidy
    (λ at is. released_tidy number code described id play (session_at at sessions) (place_filled play.place sessions at filled is) (tidy_at at sessions tidy))
after_tidy (purposes.Closing place) number code described id sessions tidy filled = tidy_where (Some place) (session_after (purposes.Closing place) number code described id) sessions tidy (λ at is. refl)

-- A session that has a PLAY due is there.
pub due_filled : (session : PlayerSession) → IsTidy session → (length session.queue == 0) ≡ false → is_some session.id ≡ true
due_filled session tidy waits = by session.id tidy
  where
    by : (id : Option (List ℕ)) → IsTidyBy id session → is_some id ≡ true
    by None is = let none : (length session.queue == 0) ≡ true = ap (λ (one : PlayerSession). length one.queue == 0) is in cc
    by (Some id) is = refl

-- What a session is about stands where the session is there.
some_mapped : {A B : Type 0} (f : A → B) (one : Option A) → IsSome (option_map f one) → IsSome one
some_mapped f None some = cc
some_mapped f (Some one) some = refl

pub control_there : {A : Type 0} (f : A → List ℕ) (session : PlayerSession) (control : Option A) → IsTidy session → option_map f control ≡ session.control → is_some session.id ≡ true → IsSome control
control_there f session control tidy is filled = some_mapped f control (subst (λ (one : Option (List ℕ)). IsSome one) (sym is) (by session.id filled tidy))
  where
    by : (id : Option (List ℕ)) → is_some id ≡ true → IsTidyBy id session → IsSome session.control
    by None some tidy = cc
    by (Some id) some tidy = tidy
