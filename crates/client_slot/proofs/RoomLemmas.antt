-- The rooms for closing TEARDOWNs.
use Rattle.std.proofs.Common.{◌≡◌, ◌≢◌, ◌∙◌, ℕ, zero, suc, ◌==◌, ◌<◌, ◌≤◌, Bool, true, false, ◌&&◌, ◌||◌, cond, List, [], ◌∷◌, length, Option, Some, None, IfSome, IsSome, refl, sym, ap, subst, arith, get_or-set_same, get_or-set_other, length-set}
use Rattle.std.proofs.lemmas.Bool.{eqb-true, eqb-false, ne_eqb}
use Rattle.std.specs.Prelude.{slice_set, slice_index_or, is_some, is_none}
use Rattle.rtsp_small.specs.declared.method.Method.{Method}
use Rattle.rtsp_small.specs.declared.method.Method.TheVariants as methods
use Rattle.session_one.specs.declared.table.State.{State}
use Rattle.std.specs.Option.{option_or}
use Rattle.session_one.specs.Table.{same_method, is_success, state_after}
use Rattle.session_one.specs.declared.parts.Asked.{Asked}
use Rattle.session_one.specs.declared.parts.Play.{Play}
use Rattle.session_one.specs.declared.parts.Track.{Track}
use Rattle.session_one.specs.declared.parts.TheConstants.{MOST_SESSIONS, MOST_TRACKS}
use Rattle.client_slot.specs.declared.limits.TheConstants.{LONGEST_URI}
use Rattle.client_slot.specs.declared.purpose.Purpose.{Purpose}
use Rattle.client_slot.specs.declared.purpose.Purpose.TheVariants as purposes
use Rattle.client_slot.specs.declared.new_session.MadeParts.{MadeParts}
use Rattle.client_slot.specs.declared.new_session.MadeSession.{MadeSession}
use Rattle.client_slot.specs.NewSessions.{id_kept, described_kept, parts_made, id_made}
use Rattle.client_slot.specs.Session.{PlayerSession}
use Rattle.client_slot.specs.Places.{session_at, session_where, empty_place, changed_at, changed_where, filled_place}
use Rattle.client_slot.specs.declared.session_turn.SessionTurn.{SessionTurn}
use Rattle.client_slot.specs.declared.session_turn.PartTurn.{PartTurn}
use Rattle.client_slot.specs.declared.session_turn.PartTurn.TheVariants.{Keeps, Takes, Loses}
use Rattle.client_slot.specs.SessionTurns.{Brought, part_then, moved_turn, granted_turn, released_turn, reply_turn, control_by, brought_by, turned}
use Rattle.client_slot.specs.Changes.{purpose_place, settled_place, session_after, sessions_after, described_by, described_after}
use Rattle.client_slot.specs.Client.{Client}
use Rattle.client_slot.specs.Bounds.{IsTidyBy, AreTidy, HasShortUri, IsPlaced, IsPlacedIn, IsAskable, needs_none, rooms_left, rooms_with, AreRoomy, IsSlot}
use Rattle.client_slot.proofs.TidyLemmas.{after_tidy, tidy_at}
use Rattle.client_slot.proofs.ControlLemmas.{controls_after}
use Rattle.client_slot.proofs.PlaceLemmas.{where_length, place_is, changed_here, changed_other, same_changes_where}

-- a room that is put in a place, or taken
pub rooms_set : {R : Type 0} (rooms : List (Option R)) (place : ℕ) (new : Option R) (there : Bool) → is_some new ≡ there → rooms_left (slice_set rooms place new) ≡ slice_set (rooms_left rooms) place there
rooms_set [] place new there is = refl
rooms_set (room ∷ rooms) zero new there is = ap (λ first. first ∷ rooms_left rooms) is
rooms_set (room ∷ rooms) (suc place) new there is = ap (λ later. is_some room ∷ later) (rooms_set rooms place new there is)

-- What was described does not matter to a reply for which the server made no session.
granted_same : (method : Method) (one other : Option (List ℕ)) (number : ℕ) (uri : List ℕ) (track : Option Track) (state : State) (session : PlayerSession)
    → turned (granted_turn method false state) (record { number = number; control = control_by method uri one; id = None; track = track }) session
    ≡ turned (granted_turn method false state) (record { number = number; control = control_by method uri other; id = None; track = track }) session
granted_same methods.Options one other number uri track state session = refl
granted_same methods.Describe one other number uri track state session = refl
granted_same methods.Setup one other number uri track state session = refl
granted_same methods.Play one other number uri track state session = refl
granted_same methods.Pause one other number uri track state session = refl
granted_same methods.Teardown one other number uri track state session = refl
granted_same methods.GetParameter one other number uri track state session = refl
granted_same methods.SetParameter one other number uri track state session = refl

turn_same : (purpose : Purpose) (number code : ℕ) (one other : Option (List ℕ)) (session : PlayerSession) → session_after purpose number code one None session ≡ session_after purpose number code other None session
turn_same (purposes.Client asked track) number code one other session = by (is_success code)
  where
    by : (success : Bool) → turned (cond success (granted_turn asked.method false (state_after session.state asked.method code)) (moved_turn session.state)) (brought_by (purposes.Client asked track) number one None) session
        ≡ turned (cond success (granted_turn asked.method false (state_after session.state asked.method code)) (moved_turn session.state)) (brought_by (purposes.Client asked track) number other None) session
    by true = granted_same asked.method one other number asked.uri track (state_after session.state asked.method code) session
    by false = refl
turn_same (purposes.Released play) number code one other session = refl
turn_same (purposes.Closing place) number code one other session = refl

after_same : (purpose : Purpose) (number code : ℕ) (one other id : Option (List ℕ)) → (IsSome id → one ≡ other) → (session : PlayerSession)
    → session_after purpose number code one id session ≡ session_after purpose number code other id session
after_same purpose number code one other None same session = turn_same purpose number code one other session
after_same purpose number code one other (Some id) same session = ap (λ described. session_after purpose number code described (Some id) session) (same refl)

pub sessions_same : (purpose turned : Purpose) (number code : ℕ) (made described id : Option (List ℕ)) (place : Option ℕ) (sessions after : List PlayerSession)
    → purpose ≡ turned → place ≡ settled_place purpose id sessions → (IsSome id → made ≡ described)
    → after ≡ changed_where place (session_after turned number code made id) sessions → after ≡ sessions_after purpose number code described id sessions
sessions_same purpose turned number code made described id place sessions after is at same h =
    h
    ∙ same_changes_where place (session_after turned number code made id) (session_after turned number code described id) sessions (after_same turned number code made described id same)
    ∙ ap (λ one. changed_where one (session_after turned number code described id) sessions) at
    ∙ ap (λ (one : Purpose). changed_where (settled_place purpose id sessions) (session_after one number code described id) sessions) (sym is)

-- What was described is short enough after a reply.
by_short : (method : Method) (uri : List ℕ) (sessions : List PlayerSession) (described : Option (List ℕ)) → length uri ≤ LONGEST_URI → IfSome described (λ one. length one ≤ LONGEST_URI)
    → IfSome (described_by method uri sessions described) (λ one. length one ≤ LONGEST_URI)
by_short methods.Options uri sessions described short was = was
by_short methods.Describe uri sessions described short was = short
by_short methods.Setup uri sessions described short was = was
by_short methods.Play uri sessions described short was = was
by_short methods.Pause uri sessions described short was = was
by_short methods.Teardown uri sessions described short was = by (is_some (filled_place sessions))
  where
    by : (left : Bool) → IfSome (cond left described None) (λ one. length one ≤ LONGEST_URI)
    by true = was
    by false = tt
by_short methods.GetParameter uri sessions described short was = was
by_short methods.SetParameter uri sessions described short was = was

pub after_short : (purpose : Purpose) (tracks code : ℕ) (sessions : List PlayerSession) (described : Option (List ℕ)) → IsPlaced tracks purpose → IfSome described (λ one. length one ≤ LONGEST_URI)
    → IfSome (described_after purpose code sessions described) (λ one. length one ≤ LONGEST_URI)
after_short (purposes.Client asked track) tracks code sessions described placed was = by (is_success code)
  where
    by : (success : Bool) → IfSome (cond success (described_by asked.method asked.uri sessions described) described) (λ one. length one ≤ LONGEST_URI)
    by true = by_short asked.method asked.uri sessions described placed.0 was
    by false = was
after_short (purposes.Released play) tracks code sessions described placed was = was
after_short (purposes.Closing place) tracks code sessions described placed was = was

-- A room is there, or the place is torn, whatever the reply did to the session.
released_id : (play : Play) (number code : ℕ) (described id : Option (List ℕ)) (session : PlayerSession) → (session_after (purposes.Released play) number code described id session).id ≡ session.id
released_id play number code described id session = by (is_success code)
  where
    by : (success : Bool) → (turned (released_turn success session.state) (brought_by (purposes.Released play) number described id) session).id ≡ session.id
    by true = refl
    by false = refl

room_or : (room later : Bool) → room ≡ true → (room || later) ≡ true
room_or true later h = refl
room_or false later h = cc

or_needed : (room : Bool) → (room || true) ≡ true
or_needed true = refl
or_needed false = refl

needs_less : (room one two : Bool) → (one ≡ true → two ≡ true) → (room || (one || false)) ≡ true → (room || (two || false)) ≡ true
needs_less true one two less h = refl
needs_less false true two less h = rw (less refl) refl
needs_less false false two less h = cc

-- without an id that is brought, a session without one gets none
no_id : (turn : PartTurn) (was : Option (List ℕ)) → is_none was ≡ true → is_none (part_then turn was None) ≡ true
no_id Keeps was none = none
no_id Takes was none = refl
no_id Loses was none = refl

asked_id : (asked : Asked) (track : Option Track) (number code : ℕ) (described id : Option (List ℕ)) → is_some id ≡ false → (session : PlayerSession) → is_none session.id ≡ true
    → is_none (session_after (purposes.Client asked track) number code described id session).id ≡ true
asked_id asked track number code described None made session none = no_id (reply_turn (purposes.Client asked track) code false session.state).id session.id none
asked_id asked track number code described (Some id) made session none = cc

-- as many places
pub rooms_length : (at : Option ℕ) (made : Bool) (rooms : List Bool) → length (rooms_with at made rooms) ≡ length rooms
rooms_length None made rooms = refl
rooms_length (Some q) true rooms = length-set rooms q true
rooms_length (Some q) false rooms = refl

-- The session at a place changes, which gets a room where the server made it.
roomy_at : (rooms : List Bool) (q p : ℕ) (made : Bool) (change : PlayerSession → PlayerSession) (sessions : List PlayerSession) → p < length rooms → p < length sessions
    → (made ≡ false → (session : PlayerSession) → is_none session.id ≡ true → is_none (change session).id ≡ true)
    → (slice_index_or rooms p false || needs_none p None (session_at p sessions).id) ≡ true
    → (slice_index_or (rooms_with (Some q) made rooms) p false || needs_none p None (session_at p (changed_at q change sessions)).id) ≡ true
roomy_at rooms q p made change sessions low within less h = by (p == q) made refl refl
  where
    by : (same now : Bool) → (p == q) ≡ same → made ≡ now → (slice_index_or (rooms_with (Some q) now rooms) p false || needs_none p None (session_at p (changed_at q change sessions)).id) ≡ true
    by true true e m =
        let here : p ≡ q = eqb-true p q e in
        room_or (slice_index_or (slice_set rooms q true) p false) (needs_none p None (session_at p (changed_at q change sessions)).id)
        (ap (λ k. slice_index_or (slice_set rooms k true) p false) (sym here) ∙ get_or-set_same rooms p true false low)
    by true false e m =
        let here : p ≡ q = eqb-true p q e in
        let same : is_none (session_at p (changed_at q change sessions)).id ≡ is_none (change (session_at p sessions)).id =
        ap (λ k. is_none (session_at p (changed_at k change sessions)).id) (sym here) ∙ ap (λ (session : PlayerSession). is_none session.id) (changed_here p change sessions within) in
        needs_less (slice_index_or rooms p false) (is_none (session_at p sessions).id) (is_none (session_at p (changed_at q change sessions)).id) (λ none. same ∙ less m (session_at p sessions) none) h
    by false now e m =
        ap (λ room. room || needs_none p None (session_at p (changed_at q change sessions)).id) (other now (eqb-false p q e))
        ∙ ap (λ (session : PlayerSession). slice_index_or rooms p false || needs_none p None session.id) (changed_other q p change sessions (eqb-false p q e))
        ∙ h
      where
        other : (there : Bool) → p ≢ q → slice_index_or (rooms_with (Some q) there rooms) p false ≡ slice_index_or rooms p false
        other true apart = get_or-set_other rooms q p true false apart
        other false apart = refl

roomy_where : (rooms : List Bool) (at : Option ℕ) (p : ℕ) (made : Bool) (change : PlayerSession → PlayerSession) (sessions : List PlayerSession) → p < length rooms → p < length sessions
    → (made ≡ false → (session : PlayerSession) → is_none session.id ≡ true → is_none (change session).id ≡ true)
    → (slice_index_or rooms p false || needs_none p None (session_at p sessions).id) ≡ true
    → (slice_index_or (rooms_with at made rooms) p false || needs_none p None (session_at p (changed_where at change sessions)).id) ≡ true
roomy_where rooms None p made change sessions low within less h = h
roomy_where rooms (Some q) p made change sessions low within less h = roomy_at rooms q p made change sessions low within less h

-- Its closing TEARDOWN is over.
left_roomy : (rooms : List Bool) (q p : ℕ) (made : Bool) (change : PlayerSession → PlayerSession) (sessions : List PlayerSession) → p < length rooms → p < length sessions → ((session : PlayerSession) → (change session).id ≡ None)
    → (slice_index_or rooms p false || needs_none p (Some (purposes.Closing q)) (session_at p sessions).id) ≡ true
    → (slice_index_or (rooms_with (Some q) made rooms) p false || needs_none p None (session_at p (changed_at q change sessions)).id) ≡ true
left_roomy rooms q p made change sessions low within gone h = by (p == q) refl
  where
    by : (same : Bool) → (p == q) ≡ same → (slice_index_or (rooms_with (Some q) made rooms) p false || needs_none p None (session_at p (changed_at q change sessions)).id) ≡ true
    by true e =
        let here : p ≡ q = eqb-true p q e in
        ap (λ k. slice_index_or (rooms_with (Some q) made rooms) p false || needs_none p None (session_at p (changed_at k change sessions)).id) (sym here)
        ∙ ap (λ (session : PlayerSession). slice_index_or (rooms_with (Some q) made rooms) p false || needs_none p None session.id) (changed_here p change sessions within)
        ∙ ap (λ (id : Option (List ℕ)). slice_index_or (rooms_with (Some q) made rooms) p false || needs_none p None id) (gone (session_at p sessions))
        ∙ or_needed (slice_index_or (rooms_with (Some q) made rooms) p false)
    by false e =
        let apart : p ≢ q = eqb-false p q e in
        roomy_at rooms q p made change sessions low within (λ m session none. ap is_none (gone session))
        (ap (λ same. slice_index_or rooms p false || (is_none (session_at p sessions).id || same)) (sym (ne_eqb q p (λ k. apart (sym k)))) ∙ h)

-- so for each place
after_roomy : (client : Client) (rooms : List Bool) (purpose : Purpose) (number code : ℕ) (id : Option (List ℕ)) → client.pending ≡ Some purpose → length client.sessions ≡ MOST_SESSIONS → length rooms ≡ MOST_SESSIONS → AreRoomy client rooms
    → AreRoomy (record client { sessions = sessions_after purpose number code client.described id client.sessions; pending = None }) (rooms_with (settled_place purpose id client.sessions) (is_some id) rooms)
after_roomy client rooms purpose number code id is four all roomy place low = by purpose was
  where
    was : (slice_index_or rooms place false || needs_none place (Some purpose) (session_at place client.sessions).id) ≡ true
    was = ap (λ (pending : Option Purpose). slice_index_or rooms place false || needs_none place pending (session_at place client.sessions).id) (sym is) ∙ roomy place low

    room : place < length rooms
    room = subst (λ (n : ℕ). place < n) (sym all) low

    within : place < length client.sessions
    within = subst (λ (n : ℕ). place < n) (sym four) low

    by : (one : Purpose) → (slice_index_or rooms place false || needs_none place (Some one) (session_at place client.sessions).id) ≡ true
        → (slice_index_or (rooms_with (settled_place one id client.sessions) (is_some id) rooms) place false || needs_none place None (session_at place (sessions_after one number code client.described id client.sessions)).id) ≡ true
    by (purposes.Client asked track) h =
        roomy_where rooms (settled_place (purposes.Client asked track) id client.sessions) place (is_some id) (session_after (purposes.Client asked track) number code client.described id) client.sessions room within
        (asked_id asked track number code client.described id) h
    by (purposes.Released play) h =
        roomy_where rooms play.place place (is_some id) (session_after (purposes.Released play) number code client.described id) client.sessions room within
        (λ made session none. ap is_none (released_id play number code client.described id session) ∙ none) h
    by (purposes.Closing other) h =
        left_roomy rooms other place (is_some id) (session_after (purposes.Closing other) number code client.described id) client.sessions room within (λ session. refl) h

-- A connection whose other request has its final reply.
pub slot_settled : (client : Client) (rooms left : List Bool) (purpose : Purpose) (number code : ℕ) (id : Option (List ℕ)) (sessions : List PlayerSession) (described : Option (List ℕ)) (pending : Option Purpose)
    → client.pending ≡ Some purpose → sessions ≡ sessions_after purpose number code client.described id client.sessions → described ≡ described_after purpose code sessions client.described → pending ≡ None
    → left ≡ rooms_with (settled_place purpose id client.sessions) (is_some id) rooms
    → IsSlot client rooms → IsSlot (record client { sessions = sessions; described = described; pending = pending }) left
slot_settled client rooms left purpose number code id sessions described pending is all uri none roomed slot =
    let placed : IsPlacedIn client.sessions purpose = subst (λ (one : Option Purpose). IfSome one (IsPlacedIn client.sessions)) is slot.placed in
    subst (λ (one : Option Purpose). IsSlot (record client { sessions = sessions; described = described; pending = one }) left) (sym none)
    (subst (λ (one : Option (List ℕ)). IsSlot (record client { sessions = sessions; described = one; pending = None }) left) (sym uri)
    (subst (λ (every : List PlayerSession). IsSlot (record client { sessions = every; described = described_after purpose code every client.described; pending = None }) left) (sym all)
    (subst (λ (one : List Bool). IsSlot (record client { sessions = sessions_after purpose number code client.described id client.sessions; described = described_after purpose code (sessions_after purpose number code client.described id client.sessions) client.described; pending = None }) one) (sym roomed) (record {
      places = where_length (settled_place purpose id client.sessions) (session_after purpose number code client.described id) client.sessions ∙ slot.places;
      tidy = after_tidy purpose number code client.described id client.sessions slot.tidy placed.filled;
      controls = controls_after purpose _ number code client.described id client.sessions placed.here slot.described slot.controls;
      all = rooms_length (settled_place purpose id client.sessions) (is_some id) rooms ∙ slot.all;
      described = after_short purpose _ code (sessions_after purpose number code client.described id client.sessions) client.described placed.here slot.described;
      placed = tt;
      room = after_roomy client rooms purpose number code id is slot.places slot.all slot.room;
    }))))

-- a session that was made has an id
pub made_has : (made : Option MadeSession) → is_some (id_made made) ≡ is_some made
made_has None = refl
made_has (Some one) = refl

pub made_some : (made : Option MadeParts) → is_some (id_kept made) ≡ is_some made
made_some None = refl
made_some (Some one) = refl

-- so do its parts
pub parts_same : (made : Option MadeSession) (parts : Option MadeParts) (is : Bool) → parts ≡ parts_made made → is ≡ is_some parts → is_some (id_made made) ≡ is
parts_same made parts is same some = made_some (parts_made made) ∙ ap is_some (sym same) ∙ sym some

-- the session after its turn, from the parts of which that is made
pub turn_is : (purpose seen : Purpose) (made : Option MadeParts) (number code : ℕ) (session new : PlayerSession) (turn : SessionTurn) (brought : Brought) (is_made : Bool) (state : State)
    → new ≡ turned turn brought session → turn ≡ reply_turn seen code is_made state → seen ≡ purpose → is_made ≡ is_some made → state ≡ session.state
    → brought ≡ brought_by purpose number (described_kept made) (id_kept made) → new ≡ session_after purpose number code (described_kept made) (id_kept made) session
turn_is purpose seen made number code session new turn brought is_made state is by same makes at brings =
    is
    ∙ ap (λ one. turned turn one session) brings
    ∙ ap (λ (one : SessionTurn). turned one (brought_by purpose number (described_kept made) (id_kept made)) session) by
    ∙ ap (λ (one : Purpose). turned (reply_turn one code is_made state) (brought_by purpose number (described_kept made) (id_kept made)) session) same
    ∙ ap (λ (one : Bool). turned (reply_turn purpose code one state) (brought_by purpose number (described_kept made) (id_kept made)) session) (makes ∙ sym (made_some made))
    ∙ ap (λ (one : State). turned (reply_turn purpose code (is_some (id_kept made)) one) (brought_by purpose number (described_kept made) (id_kept made)) session) at

-- What holds of no place and of that of an open request holds of the place that its reply changes.
settled_by : (P : Option ℕ → Type 0) (place : Option ℕ) (sets made : Bool) (empty : Option ℕ) → P None → P (option_or place (cond sets empty None)) → P (option_or place (cond (sets && made) empty None))
settled_by P (Some place) sets made empty none here = here
settled_by P None true true empty none here = here
settled_by P None true false empty none here = none
settled_by P None false made empty none here = none

settled_holds : (P : Option ℕ → Type 0) (purpose : Purpose) (id : Option (List ℕ)) (sessions : List PlayerSession) → P None → P (purpose_place purpose sessions) → P (settled_place purpose id sessions)
settled_holds P (purposes.Client asked track) id sessions none here = settled_by P asked.place (same_method asked.method methods.Setup) (is_some id) (empty_place sessions) none here
settled_holds P (purposes.Released play) id sessions none here = here
settled_holds P (purposes.Closing place) id sessions none here = here

pub settled_within : (purpose : Purpose) (id : Option (List ℕ)) (sessions : List PlayerSession) (place : Option ℕ) → place ≡ settled_place purpose id sessions → IsPlacedIn sessions purpose
    → IfSome place (λ one. one < MOST_SESSIONS)
settled_within purpose id sessions place is placed =
    subst (λ (one : Option ℕ). IfSome one (λ at. at < MOST_SESSIONS)) (sym is)
    (settled_holds (λ (one : Option ℕ). IfSome one (λ at. at < MOST_SESSIONS)) purpose id sessions tt placed.within)

pub settled_placed : (purpose : Purpose) (id : Option (List ℕ)) (sessions : List PlayerSession) (place : Option ℕ) → place ≡ settled_place purpose id sessions → IsPlacedIn sessions purpose
    → IsPlaced (length (session_where place sessions).tracks) purpose
settled_placed purpose id sessions place is placed =
    subst (λ (one : Option ℕ). IsPlaced (length (session_where one sessions).tracks) purpose) (sym is)
    (settled_holds (λ (one : Option ℕ). IsPlaced (length (session_where one sessions).tracks) purpose) purpose id sessions (fewer purpose _ placed.here) placed.here)
  where
    fewer : (one : Purpose) (tracks : ℕ) → IsPlaced tracks one → IsPlaced 0 one
    fewer (purposes.Client asked track) tracks here = (here.0, λ some. omega arith)
    fewer (purposes.Released play) tracks here = here
    fewer (purposes.Closing closed) tracks here = here

pub placed_short : (purpose : Purpose) (tracks : ℕ) → IsPlaced tracks purpose → HasShortUri purpose
placed_short (purposes.Client asked track) tracks here = here.0
placed_short (purposes.Released play) tracks here = here
placed_short (purposes.Closing place) tracks here = here

-- an id, where one was made
abbrev pub some_id : Bool → Option (List ℕ)
some_id made = cond made (Some []) None

pub is_some_id : (made : Bool) → is_some (some_id made) ≡ made
is_some_id true = refl
is_some_id false = refl

pub open_placed : (pending : Option Purpose) (purpose : Purpose) (sessions : List PlayerSession) → pending ≡ Some purpose → IfSome pending (IsPlacedIn sessions) → IsPlacedIn sessions purpose
open_placed pending purpose sessions is placed = subst (λ (one : Option Purpose). IfSome one (IsPlacedIn sessions)) is placed

-- The place of a player's request, by the session that it names.
asked_placed : (sessions : List PlayerSession) (asked : Asked) (track : Option Track) → AreTidy sessions → length sessions ≡ MOST_SESSIONS → IsAskable sessions asked track → IsPlacedIn sessions (purposes.Client asked track)
asked_placed sessions asked track tidy four askable = record {
  within = places (λ (at : Option ℕ). IfSome at (λ place. place < MOST_SESSIONS)) tt (λ place found. subst (λ n. place < n) four (place_is (λ session. is_none session.id) place sessions found).within) askable.within;
  filled = askable.filled;
  here = (
    askable.uri,
    λ some.
        places (λ (at : Option ℕ). length (session_where at sessions).tracks < MOST_TRACKS) few (λ place found. subst (λ (tracks : List Track). length tracks < MOST_TRACKS) (sym (none_there place found)) few) (askable.room some),
  );
  apart = askable.apart;
}
  where
    few : 0 < MOST_TRACKS
    few = omega arith

    places : (P : Option ℕ → Type 0) → P None → ((place : ℕ) → empty_place sessions ≡ Some place → P (Some place)) → P asked.place → P (purpose_place (purposes.Client asked track) sessions)
    places P none found here = by asked.place (same_method asked.method methods.Setup) (empty_place sessions) refl here
      where
        by : (at : Option ℕ) (sets : Bool) (empty : Option ℕ) → empty_place sessions ≡ empty → P at → P (option_or at (cond sets empty None))
        by (Some place) sets empty e h = h
        by None true (Some place) e h = found place e
        by None true None e h = none
        by None false empty e h = none

    none_there : (place : ℕ) → empty_place sessions ≡ Some place → (session_at place sessions).tracks ≡ []
    none_there place found = by (session_at place sessions).id (place_is (λ session. is_none session.id) place sessions found).passes (tidy_at place sessions tidy)
      where
        by : (id : Option (List ℕ)) → is_none id ≡ true → IsTidyBy id (session_at place sessions) → (session_at place sessions).tracks ≡ []
        by None e is = ap (λ (session : PlayerSession). session.tracks) is
        by (Some id) e is = cc

-- A player's request goes up, where none was open.
pub slot_asked : (client : Client) (rooms : List Bool) (asked : Asked) (track : Option Track) → client.pending ≡ None → IsAskable client.sessions asked track → IsSlot client rooms
    → IsSlot (record client { pending = Some (purposes.Client asked track) }) rooms
slot_asked client rooms asked track idle askable slot = record {
  places = slot.places;
  tidy = slot.tidy;
  controls = slot.controls;
  all = slot.all;
  described = slot.described;
  placed = asked_placed client.sessions asked track slot.tidy slot.places askable;
  room = λ place low.
      ap (λ (pending : Option Purpose). slice_index_or rooms place false || needs_none place pending (session_at place client.sessions).id) (sym idle)
      ∙ slot.room place low;
}
