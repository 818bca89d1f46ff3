-- How many places of a connection are empty, once a final reply has settled its open request.
use Rattle.std.proofs.Common.{◌≡◌, ◌∙◌, ℕ, zero, suc, ◌+◌, ◌≤◌, ◌<◌, ◌&&◌, Bool, true, false, cond, List, [], ◌∷◌, length, Option, Some, None, IsSome, refl, sym, ap, subst, arith}
use Rattle.std.specs.Prelude.{is_none, is_some}
use Rattle.std.specs.Option.{option_or, option_map}
use Rattle.rtsp_small.specs.declared.method.Method.{Method}
use Rattle.rtsp_small.specs.declared.method.Method.TheVariants as methods
use Rattle.session_one.specs.declared.parts.Asked.{Asked}
use Rattle.session_one.specs.declared.parts.Track.{Track}
use Rattle.session_one.specs.declared.table.State.{State}
use Rattle.session_one.specs.Table.{same_method, is_success, state_after}
use Rattle.translate_down.specs.Replies.{Told}
use Rattle.translate_down.specs.Sessions.{sets_up as is_set_up}
use Rattle.client_slot.specs.declared.purpose.Purpose.{Purpose}
use Rattle.client_slot.specs.declared.purpose.Purpose.TheVariants as purposes
use Rattle.client_slot.specs.Session.{PlayerSession}
use Rattle.client_slot.specs.SessionTurns.{Brought, if_made, granted_turn, moved_turn, released_turn, brought_by, part_then, turned}
use Rattle.client_slot.specs.Places.{session_at, session_where, changed_at, changed_where, empty_place}
use Rattle.client_slot.specs.Changes.{settled_place, session_after, sessions_after}
use Rattle.client_slot.proofs.PlaceLemmas.{place_is}
use Rattle.client_machine.specs.Step.{session_told, new_id_at, new_id}
use Rattle.client_machine.proofs.HoldLemmas.{AreSame}
use Rattle.gateway_claim.specs.Books.{sets_up, plain, teardown_kind, torn_by, bound_by}
use Rattle.gateway_claim.specs.Follows.{session_asked}
use Rattle.gateway_claim.specs.BooksAndSlots.{IsForSession}
use Rattle.gateway_claim.specs.Turns.{kind_pending}
use Rattle.gateway_mux.specs.Room.{empty_places}
use Rattle.gateway_mux.specs.Settlements.{gives_back}
use Rattle.gateway_mux.specs.Turn.{one_if}

-- Where each place has its id as before, as many are empty.
pub same_empty : (a b : List PlayerSession) → AreSame a b → empty_places b ≡ empty_places a
same_empty [] [] same = refl
same_empty [] (y ∷ b) same = absurd same
same_empty (x ∷ a) [] same = absurd same
same_empty (x ∷ a) (y ∷ b) same = ap (λ (id : Option (List ℕ)). cond (is_none id) 1 0 + empty_places b) same.0.id ∙ ap (λ (n : ℕ). cond (is_none x.id) 1 0 + n) (same_empty a b same.1)

-- One place changes.
first_no_more : (was now : Option (List ℕ)) (n : ℕ) → (is_some was ≡ true → is_some now ≡ true) → cond (is_none now) 1 0 + n ≤ cond (is_none was) 1 0 + n
first_no_more None None n keeps = omega arith
first_no_more None (Some id) n keeps = omega arith
first_no_more (Some id) None n keeps = let some : false ≡ true = keeps refl in cc
first_no_more (Some id) (Some other) n keeps = omega arith

first_one_more : (was now : Option (List ℕ)) (n : ℕ) → cond (is_none now) 1 0 + n ≤ (cond (is_none was) 1 0 + n) + 1
first_one_more None None n = omega arith
first_one_more None (Some id) n = omega arith
first_one_more (Some id) None n = omega arith
first_one_more (Some id) (Some other) n = omega arith

first_one_less : (was now : Option (List ℕ)) (n : ℕ) → is_none was ≡ true → is_some now ≡ true → (cond (is_none now) 1 0 + n) + 1 ≤ cond (is_none was) 1 0 + n
first_one_less None None n empty filled = cc
first_one_less None (Some id) n empty filled = omega arith
first_one_less (Some id) now n empty filled = cc

changed_no_more : (place : ℕ) (change : PlayerSession → PlayerSession) (sessions : List PlayerSession) → (is_some (session_at place sessions).id ≡ true → is_some (change (session_at place sessions)).id ≡ true)
    → empty_places (changed_at place change sessions) ≤ empty_places sessions
changed_no_more place change [] keeps = omega arith
changed_no_more zero change (one ∷ more) keeps = first_no_more one.id (change one).id (empty_places more) keeps
changed_no_more (suc place) change (one ∷ more) keeps = let later = changed_no_more place change more keeps in omega (arith, later)

changed_one_more : (place : ℕ) (change : PlayerSession → PlayerSession) (sessions : List PlayerSession) → empty_places (changed_at place change sessions) ≤ empty_places sessions + 1
changed_one_more place change [] = omega arith
changed_one_more zero change (one ∷ more) = first_one_more one.id (change one).id (empty_places more)
changed_one_more (suc place) change (one ∷ more) = let later = changed_one_more place change more in omega (arith, later)

changed_one_less : (place : ℕ) (change : PlayerSession → PlayerSession) (sessions : List PlayerSession) → place < length sessions → is_none (session_at place sessions).id ≡ true → is_some (change (session_at place sessions)).id ≡ true
    → empty_places (changed_at place change sessions) + 1 ≤ empty_places sessions
changed_one_less place change [] within empty filled = omega (arith, within)
changed_one_less zero change (one ∷ more) within empty filled = first_one_less one.id (change one).id (empty_places more) empty filled
changed_one_less (suc place) change (one ∷ more) within empty filled =
    let below : place < length more = omega (arith, within) in
    let later = changed_one_less place change more below empty filled in omega (arith, later)

where_no_more : (place : Option ℕ) (change : PlayerSession → PlayerSession) (sessions : List PlayerSession) → (is_some (session_where place sessions).id ≡ true → is_some (change (session_where place sessions)).id ≡ true)
    → empty_places (changed_where place change sessions) ≤ empty_places sessions
where_no_more None change sessions keeps = omega arith
where_no_more (Some place) change sessions keeps = changed_no_more place change sessions keeps

where_one_more : (place : Option ℕ) (change : PlayerSession → PlayerSession) (sessions : List PlayerSession) → empty_places (changed_where place change sessions) ≤ empty_places sessions + 1
where_one_more None change sessions = omega arith
where_one_more (Some place) change sessions = changed_one_more place change sessions

where_one_less : (place : Option ℕ) (change : PlayerSession → PlayerSession) (sessions : List PlayerSession) → place ≡ empty_place sessions → IsSome place → ((session : PlayerSession) → is_some (change session).id ≡ true)
    → empty_places (changed_where place change sessions) + 1 ≤ empty_places sessions
where_one_less None change sessions first some filled = cc
where_one_less (Some place) change sessions first some filled =
    let there = place_is (λ session. is_none session.id) place sessions (sym first) in
    changed_one_less place change sessions there.within there.passes (filled (session_at place sessions))

-- A session that is there stays, but for a TEARDOWN's success.
made_keeps : (was id : Option (List ℕ)) → is_some was ≡ true → is_some (part_then (if_made (is_some id)) was id) ≡ true
made_keeps was None some = some
made_keeps was (Some id) some = refl

granted_keeps : (method : Method) (state : State) (brought : Brought) (session : PlayerSession) → same_method method methods.Teardown ≡ false → is_some session.id ≡ true
    → is_some (turned (granted_turn method (is_some brought.id) state) brought session).id ≡ true
granted_keeps methods.Options state brought session other some = some
granted_keeps methods.Describe state brought session other some = some
granted_keeps methods.Setup state brought session other some = made_keeps session.id brought.id some
granted_keeps methods.Play state brought session other some = some
granted_keeps methods.Pause state brought session other some = some
granted_keeps methods.Teardown state brought session other some = cc
granted_keeps methods.GetParameter state brought session other some = some
granted_keeps methods.SetParameter state brought session other some = some

asked_keeps : (asked : Asked) (track : Option Track) (number code : ℕ) (described id : Option (List ℕ)) (session : PlayerSession) → (is_success code ≡ true → same_method asked.method methods.Teardown ≡ false) → is_some session.id ≡ true
    → is_some (session_after (purposes.Client asked track) number code described id session).id ≡ true
asked_keeps asked track number code described id session other some = by (is_success code) refl
  where
    by : (t : Bool) → is_success code ≡ t
        → is_some (turned (cond t (granted_turn asked.method (is_some id) (state_after session.state asked.method code)) (moved_turn session.state)) (brought_by (purposes.Client asked track) number described id) session).id ≡ true
    by true e = granted_keeps asked.method (state_after session.state asked.method code) (brought_by (purposes.Client asked track) number described id) session (other e) some
    by false e = some

asked_no_more : (asked : Asked) (track : Option Track) (number code : ℕ) (described id : Option (List ℕ)) (sessions : List PlayerSession) → (is_success code ≡ true → same_method asked.method methods.Teardown ≡ false)
    → empty_places (sessions_after (purposes.Client asked track) number code described id sessions) ≤ empty_places sessions
asked_no_more asked track number code described id sessions other =
    where_no_more (settled_place (purposes.Client asked track) id sessions) (session_after (purposes.Client asked track) number code described id) sessions
    (asked_keeps asked track number code described id (session_where (settled_place (purposes.Client asked track) id sessions) sessions) other)

-- The success of a SETUP that named none fills an empty place.
setup_fills : (asked : Asked) (track : Option Track) (number code : ℕ) (described id : Option (List ℕ)) (session : PlayerSession) → asked.method ≡ methods.Setup → is_success code ≡ true → is_some id ≡ true
    → is_some (session_after (purposes.Client asked track) number code described id session).id ≡ true
setup_fills asked track number code described None session setup success some = cc
setup_fills asked track number code described (Some id) session setup success some =
    ap (λ t. is_some (turned (cond t (granted_turn asked.method true (state_after session.state asked.method code)) (moved_turn session.state)) (brought_by (purposes.Client asked track) number described (Some id)) session).id) success
    ∙ ap (λ (method : Method). is_some (turned (granted_turn method true (state_after session.state asked.method code)) (brought_by (purposes.Client asked track) number described (Some id)) session).id) setup

setup_one_less : (asked : Asked) (track : Option Track) (number code : ℕ) (described id : Option (List ℕ)) (sessions : List PlayerSession) → asked.method ≡ methods.Setup → asked.place ≡ None → IsSome (empty_place sessions)
    → is_success code ≡ true → is_some id ≡ true → empty_places (sessions_after (purposes.Client asked track) number code described id sessions) + 1 ≤ empty_places sessions
setup_one_less asked track number code described id sessions setup none empty success some =
    where_one_less (settled_place (purposes.Client asked track) id sessions) (session_after (purposes.Client asked track) number code described id) sessions place
    (subst (λ (at : Option ℕ). IsSome at) (sym place) empty)
    (λ session. setup_fills asked track number code described id session setup success some)
  where
    place : settled_place (purposes.Client asked track) id sessions ≡ empty_place sessions
    place =
        ap (λ (at : Option ℕ). option_or at (cond (same_method asked.method methods.Setup && is_some id) (empty_place sessions) None)) none
        ∙ ap (λ (method : Method). cond (same_method method methods.Setup && is_some id) (empty_place sessions) None) setup
        ∙ ap (λ t. cond t (empty_place sessions) None) some

-- what a reply binds
abbrev pub bound_for : List PlayerSession → Option Purpose → Bool → Option (List ℕ) → Option (List ℕ)
bound_for sessions pending success said = cond (is_none (session_asked sessions pending)) (bound_by (kind_pending sessions pending) success said) None

-- The places that are empty, by what is bound and what ends.
abbrev pub Evens : ℕ → ℕ → Option (List ℕ) → Option (List ℕ) → Type 0
Evens now was bound torn = now + one_if (is_some bound) ≤ was + one_if (gives_back bound torn)

pub none_bound : (now was : ℕ) (bound torn : Option (List ℕ)) → bound ≡ None → now ≤ was + one_if (is_some torn) → Evens now was bound torn
none_bound now was bound torn none low = subst (λ (one : Option (List ℕ)). Evens now was one torn) (sym none) (omega (arith, low))

no_more_torn : (now was : ℕ) (torn : Option (List ℕ)) → now ≤ was → now ≤ was + one_if (is_some torn)
no_more_torn now was torn low = omega (arith, low)

either_none : (t : Bool) → cond {A = Option (List ℕ)} t None None ≡ None
either_none true = refl
either_none false = refl

-- A SETUP is for a session that is there, or for an empty place.
abbrev pub IsSetFor : List PlayerSession → Purpose → Type 0
IsSetFor sessions (purposes.Client asked (Some track)) = (asked.method ≡ methods.Setup) × IsForSession asked.place sessions
IsSetFor sessions (purposes.Client asked None) = Unit {0}
IsSetFor sessions (purposes.Released play) = Unit {0}
IsSetFor sessions (purposes.Closing place) = Unit {0}

-- the id that a reply says
abbrev pub id_told : Told → Option (List ℕ)
id_told told = option_map (λ session. session.id) (session_told told)

not_teardown : (method : Method) → method ≡ methods.Setup → same_method method methods.Teardown ≡ false
not_teardown method setup = ap (λ (one : Method). same_method one methods.Teardown) setup

setup_evens : (asked : Asked) (track : Track) (number : ℕ) (described : Option (List ℕ)) (told : Told) (sessions : List PlayerSession) (place : Option ℕ) (success : Bool) (said : Option (List ℕ)) → asked.method ≡ methods.Setup → IsForSession place sessions
    → asked.place ≡ place → is_success told.code ≡ success → id_told told ≡ said
    → Evens (empty_places (sessions_after (purposes.Client asked (Some track)) number told.code described (new_id (purposes.Client asked (Some track)) told) sessions)) (empty_places sessions)
    (cond (is_none (session_where place sessions).id) (bound_by (sets_up track.pair) success said) None) (torn_by (sets_up track.pair) success)
setup_evens asked track number described told sessions place false said setup for is code id =
    none_bound _ (empty_places sessions) (cond (is_none (session_where place sessions).id) None None) None (either_none (is_none (session_where place sessions).id))
    (no_more_torn _ (empty_places sessions) None (asked_no_more asked (Some track) number told.code described (new_id (purposes.Client asked (Some track)) told) sessions (λ e. not_teardown asked.method setup)))
setup_evens asked track number described told sessions (Some place) true said setup for is code id =
    none_bound _ (empty_places sessions) (cond (is_none (session_at place sessions).id) said None) None (named (session_at place sessions).id for)
    (no_more_torn _ (empty_places sessions) None (asked_no_more asked (Some track) number told.code described (new_id (purposes.Client asked (Some track)) told) sessions (λ e. not_teardown asked.method setup)))
  where
    named : (id : Option (List ℕ)) → IsSome id → cond (is_none id) said None ≡ None
    named None some = cc
    named (Some id) some = refl
setup_evens asked track number described told sessions None true None setup for is code id =
    none_bound _ (empty_places sessions) None None refl
    (no_more_torn _ (empty_places sessions) None (asked_no_more asked (Some track) number told.code described (new_id (purposes.Client asked (Some track)) told) sessions (λ e. not_teardown asked.method setup)))
setup_evens asked track number described told sessions None true (Some one) setup for is code id =
    let less = setup_one_less asked (Some track) number told.code described (new_id (purposes.Client asked (Some track)) told) sessions setup is for code made in
    omega (arith, less)
  where
    made : is_some (new_id (purposes.Client asked (Some track)) told) ≡ true
    made =
        ap (λ (method : Method). is_some (new_id_at (is_set_up method) asked.place told)) setup
        ∙ ap (λ (at : Option ℕ). is_some (new_id_at true at told)) is
        ∙ ap (λ (session : Option (List ℕ)). is_some session) id

-- No other request binds a session.
teardown_binds : (shut success : Bool) (id said : Option (List ℕ)) (t : Bool) → cond t (bound_by (teardown_kind shut id) success said) None ≡ None
teardown_binds shut success None said t = either_none t
teardown_binds true success (Some id) said t = either_none t
teardown_binds false success (Some id) said t = either_none t

is_teardown : (method : Method) → same_method method methods.Teardown ≡ true → method ≡ methods.Teardown
is_teardown methods.Options e = cc
is_teardown methods.Describe e = cc
is_teardown methods.Setup e = cc
is_teardown methods.Play e = cc
is_teardown methods.Pause e = cc
is_teardown methods.Teardown e = refl
is_teardown methods.GetParameter e = cc
is_teardown methods.SetParameter e = cc

-- a change at a place that is empty
vacant : (place : Option ℕ) (change : PlayerSession → PlayerSession) (sessions : List PlayerSession) (id : Option (List ℕ)) → (session_where place sessions).id ≡ id → (torn : Option (List ℕ)) → (IsSome id → IsSome torn)
    → empty_places (changed_where place change sessions) ≤ empty_places sessions + one_if (is_some torn)
vacant place change sessions None e torn ends =
    no_more_torn _ (empty_places sessions) torn (where_no_more place change sessions (λ some. let none : false ≡ true = sym (ap (λ (one : Option (List ℕ)). is_some one) e) ∙ some in cc))
vacant place change sessions (Some id) e None ends = let some = ends refl in cc
vacant place change sessions (Some id) e (Some torn) ends = where_one_more place change sessions

torn_ends : (id : Option (List ℕ)) → IsSome id → IsSome (torn_by (teardown_kind false id) true)
torn_ends None some = cc
torn_ends (Some id) some = refl

closed_ends : (success : Bool) (id : Option (List ℕ)) → IsSome id → IsSome (torn_by (teardown_kind true id) success)
closed_ends success None some = cc
closed_ends success (Some id) some = refl

teardown_place : (asked : Asked) (id : Option (List ℕ)) (sessions : List PlayerSession) → asked.method ≡ methods.Teardown → settled_place (purposes.Client asked None) id sessions ≡ asked.place
teardown_place asked id sessions is =
    ap (λ (method : Method). option_or asked.place (cond (same_method method methods.Setup && is_some id) (empty_place sessions) None)) is ∙ or_none asked.place
  where
    or_none : (place : Option ℕ) → option_or place None ≡ place
    or_none None = refl
    or_none (Some place) = refl

asked_evens : (asked : Asked) (number : ℕ) (described : Option (List ℕ)) (told : Told) (sessions : List PlayerSession) (tears success : Bool) (said : Option (List ℕ)) (id : Option (List ℕ)) → same_method asked.method methods.Teardown ≡ tears → is_success told.code ≡ success
    → Evens (empty_places (sessions_after (purposes.Client asked None) number told.code described id sessions)) (empty_places sessions)
    (cond (is_none (session_where asked.place sessions).id) (bound_by (cond tears (teardown_kind false (session_where asked.place sessions).id) plain) success said) None)
    (torn_by (cond tears (teardown_kind false (session_where asked.place sessions).id) plain) success)
asked_evens asked number described told sessions false success said id tears code =
    none_bound _ (empty_places sessions) (cond (is_none (session_where asked.place sessions).id) None None) None (either_none (is_none (session_where asked.place sessions).id))
    (no_more_torn _ (empty_places sessions) None (asked_no_more asked None number told.code described id sessions (λ e. tears)))
asked_evens asked number described told sessions true false said id tears code =
    none_bound _ (empty_places sessions) (cond (is_none (session_where asked.place sessions).id) (bound_by (teardown_kind false (session_where asked.place sessions).id) false said) None) (torn_by (teardown_kind false (session_where asked.place sessions).id) false)
    (teardown_binds false false (session_where asked.place sessions).id said (is_none (session_where asked.place sessions).id))
    (no_more_torn _ (empty_places sessions) (torn_by (teardown_kind false (session_where asked.place sessions).id) false)
    (asked_no_more asked None number told.code described id sessions (λ e. let both : false ≡ true = sym code ∙ e in cc)))
asked_evens asked number described told sessions true true said id tears code =
    none_bound _ (empty_places sessions) (cond (is_none (session_where asked.place sessions).id) (bound_by (teardown_kind false (session_where asked.place sessions).id) true said) None) (torn_by (teardown_kind false (session_where asked.place sessions).id) true)
    (teardown_binds false true (session_where asked.place sessions).id said (is_none (session_where asked.place sessions).id))
    (subst (λ (place : Option ℕ). empty_places (changed_where place (session_after (purposes.Client asked None) number told.code described id) sessions) ≤ empty_places sessions + one_if (is_some (torn_by (teardown_kind false (session_where asked.place sessions).id) true)))
    (sym (teardown_place asked id sessions (is_teardown asked.method tears)))
    (vacant asked.place (session_after (purposes.Client asked None) number told.code described id) sessions (session_where asked.place sessions).id refl (torn_by (teardown_kind false (session_where asked.place sessions).id) true)
    (torn_ends (session_where asked.place sessions).id)))

released_keeps : (success : Bool) (brought : Brought) (session : PlayerSession) → is_some session.id ≡ true → is_some (turned (released_turn success session.state) brought session).id ≡ true
released_keeps true brought session some = some
released_keeps false brought session some = some

-- A final reply to what is open.
pub settled_evens : (purpose : Purpose) (number : ℕ) (described : Option (List ℕ)) (told : Told) (sessions : List PlayerSession) → IsSetFor sessions purpose
    → Evens (empty_places (sessions_after purpose number told.code described (new_id purpose told) sessions)) (empty_places sessions) (bound_for sessions (Some purpose) (is_success told.code) (id_told told))
    (torn_by (kind_pending sessions (Some purpose)) (is_success told.code))
settled_evens (purposes.Client asked (Some track)) number described told sessions for = setup_evens asked track number described told sessions asked.place (is_success told.code) (id_told told) for.0 for.1 refl refl refl
settled_evens (purposes.Client asked None) number described told sessions for =
    asked_evens asked number described told sessions (same_method asked.method methods.Teardown) (is_success told.code) (id_told told) (new_id (purposes.Client asked None) told) refl refl
settled_evens (purposes.Released play) number described told sessions for =
    none_bound _ (empty_places sessions) None None refl
    (no_more_torn _ (empty_places sessions) None
    (where_no_more play.place (session_after (purposes.Released play) number told.code described None) sessions
    (released_keeps (is_success told.code) (brought_by (purposes.Released play) number described None) (session_where play.place sessions))))
settled_evens (purposes.Closing place) number described told sessions for =
    none_bound _ (empty_places sessions) (bound_for sessions (Some (purposes.Closing place)) (is_success told.code) (id_told told)) (torn_by (teardown_kind true (session_at place sessions).id) (is_success told.code))
    (teardown_binds true (is_success told.code) (session_at place sessions).id (id_told told) true)
    (vacant (Some place) (session_after (purposes.Closing place) number told.code described None) sessions (session_at place sessions).id refl (torn_by (teardown_kind true (session_at place sessions).id) (is_success told.code))
    (closed_ends (is_success told.code) (session_at place sessions).id))
