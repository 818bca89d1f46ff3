-- What is bounded of a connection stays so.
use Rattle.std.proofs.Common.{◌≡◌, ◌∙◌, ℕ, ◌<◌, ◌≤◌, ◌==◌, Bool, true, false, not, ◌&&◌, ◌||◌, cond, List, [], ◌∷◌, length, map, Option, Some, None, IfSome, refl, sym, ap, subst}
use Rattle.std.specs.Prelude.{slice_index_or, slice_get, is_some, is_none, if◌then◌else◌}
use Rattle.std.specs.Option.{option_or, option_map}
use Rattle.head_two.specs.Requests.{request_text}
use Rattle.rtsp_head.specs.Items.{Shape}
use Rattle.rtsp_small.specs.declared.method.Method.{Method}
use Rattle.rtsp_small.specs.declared.method.Method.TheVariants as methods
use Rattle.session_one.specs.Table.{same_method}
use Rattle.session_one.specs.declared.parts.TheConstants.{MOST_SESSIONS}
use Rattle.session_one.specs.declared.parts.Track.{Track}
use Rattle.client_slot.specs.declared.purpose.Purpose.{Purpose}
use Rattle.client_slot.specs.declared.purpose.Purpose.TheVariants as purposes
use Rattle.session_one.specs.declared.parts.Play.{Play}
use Rattle.session_one.specs.declared.table.State.TheVariants.{Ready}
use Rattle.session_two.specs.declared.names.Names.{Names}
use Rattle.session_two.specs.Ends.{end_counts}
use Rattle.client_slot.specs.declared.limits.TheConstants.{LONGEST_URI}
use Rattle.client_slot.specs.SessionChanges.{when_ended, when_queued, when_next, when_unqueued}
use Rattle.client_slot.specs.Session.{PlayerSession}
use Rattle.client_slot.specs.Places.{session_at, session_where, changed_at, changed_where, has_due}
use Rattle.client_slot.specs.Changes.{due_place, due_place_at, purpose_place, closing_place, closing_place_at}
use Rattle.client_slot.specs.ClosingRequest.{closing_request, session_closing}
use Rattle.client_slot.specs.Client.{Client}
use Rattle.client_slot.specs.Bounds.{IsTidy, AreControlsShort, is_filled, place_asked, IsPlaced, IsPlacedIn, needs_none, AreRoomy, IsSlot}
use Rattle.client_slot.proofs.TidyLemmas.{tidy_where, unqueued_tidy}
use Rattle.client_slot.proofs.ControlLemmas.{short_at, changed_short, unqueued_short}
use Rattle.client_slot.proofs.PlaceLemmas.{changed_length, kept_each, first_changed, first_mapped, at_mapped, mapped_length, place_is}

-- A change keeps the session's id, its streams, and what it is about.
pub record Keeps (change : PlayerSession → PlayerSession) (session : PlayerSession) : Type 0 where
  pub id : (change session).id ≡ session.id
  pub tracks : (change session).tracks ≡ session.tracks
  pub control : (change session).control ≡ session.control

abbrev place_by : Option ℕ → Method → Option ℕ → Option ℕ
place_by place method empty = option_or place (if same_method method methods.Setup then empty else None)

purpose_kept : (purpose : Purpose) (place : ℕ) (change : PlayerSession → PlayerSession) (sessions : List PlayerSession) → Keeps change (session_at place sessions)
    → purpose_place purpose (changed_at place change sessions) ≡ purpose_place purpose sessions
purpose_kept (purposes.Client asked track) place change sessions keeps =
    ap (place_by asked.place asked.method) (first_changed (λ session. is_none session.id) 0 place change sessions (ap (λ (id : Option (List ℕ)). is_none id) keeps.id))
purpose_kept (purposes.Released play) place change sessions keeps = refl
purpose_kept (purposes.Closing one) place change sessions keeps = refl

where_kept : {A : Type 0} (part : PlayerSession → A) (at : Option ℕ) (place : ℕ) (change : PlayerSession → PlayerSession) (sessions : List PlayerSession)
    → part (change (session_at place sessions)) ≡ part (session_at place sessions) → part (session_where at (changed_at place change sessions)) ≡ part (session_where at sessions)
where_kept part None place change sessions same = refl
where_kept part (Some at) place change sessions same = kept_each part place at change sessions same

pub filled_kept : (at : Option ℕ) (place : ℕ) (change : PlayerSession → PlayerSession) (sessions : List PlayerSession) → Keeps change (session_at place sessions)
    → is_filled at (changed_at place change sessions) ≡ is_filled at sessions
filled_kept None place change sessions keeps = refl
filled_kept (Some at) place change sessions keeps = kept_each (λ session. is_some session.id) place at change sessions (ap (λ (id : Option (List ℕ)). is_some id) keeps.id)

placed_kept : (pending : Option Purpose) (place : ℕ) (change : PlayerSession → PlayerSession) (sessions : List PlayerSession) → Keeps change (session_at place sessions)
    → IfSome pending (IsPlacedIn sessions) → IfSome pending (IsPlacedIn (changed_at place change sessions))
placed_kept None place change sessions keeps placed = tt
placed_kept (Some purpose) place change sessions keeps placed =
    let same : purpose_place purpose (changed_at place change sessions) ≡ purpose_place purpose sessions = purpose_kept purpose place change sessions keeps in
    record {
      within = subst (λ (at : Option ℕ). IfSome at (λ one. one < MOST_SESSIONS)) (sym same) placed.within;
      filled = filled_kept (place_asked purpose) place change sessions keeps ∙ placed.filled;
      here = subst (λ (tracks : List Track). IsPlaced (length tracks) purpose)
          (sym (ap (λ (at : Option ℕ). (session_where at (changed_at place change sessions)).tracks) same ∙ where_kept (λ session. session.tracks) (purpose_place purpose sessions) place change sessions keeps.tracks))
          placed.here;
      apart = placed.apart;
    }

rooms_kept : (client : Client) (rooms : List Bool) (place : ℕ) (change : PlayerSession → PlayerSession) → Keeps change (session_at place client.sessions)
    → AreRoomy client rooms → AreRoomy (record client { sessions = changed_at place change client.sessions }) rooms
rooms_kept client rooms place change keeps roomy at within =
    ap (λ (id : Option (List ℕ)). slice_index_or rooms at false || needs_none at client.pending id) (kept_each (λ session. session.id) place at change client.sessions keeps.id)
    ∙ roomy at within

controls_kept : (place : ℕ) (change : PlayerSession → PlayerSession) (sessions : List PlayerSession) → Keeps change (session_at place sessions) → AreControlsShort sessions → AreControlsShort (changed_at place change sessions)
controls_kept place change sessions keeps short =
    changed_short place change sessions short
    (subst (λ (control : Option (List ℕ)). IfSome control (λ uri. length uri ≤ LONGEST_URI)) (sym keeps.control) (short_at place sessions short))

changed_slot : (client : Client) (rooms : List Bool) (place : ℕ) (change : PlayerSession → PlayerSession) → Keeps change (session_at place client.sessions)
    → IsTidy (change (session_at place client.sessions)) → IsSlot client rooms → IsSlot (record client { sessions = changed_at place change client.sessions }) rooms
changed_slot client rooms place change keeps tidy slot = record {
  places = changed_length place change client.sessions ∙ slot.places;
  tidy = tidy_where (Some place) change client.sessions slot.tidy (λ at is. let same : place ≡ at = cc in subst (λ (k : ℕ). IsTidy (change (session_at k client.sessions))) same tidy);
  controls = controls_kept place change client.sessions keeps slot.controls;
  all = slot.all;
  described = slot.described;
  placed = placed_kept client.pending place change client.sessions keeps slot.placed;
  room = rooms_kept client rooms place change keeps slot.room;
}

-- A connection whose session at a place is changed.
pub slot_changed : (client : Client) (rooms : List Bool) (place : Option ℕ) (change : PlayerSession → PlayerSession) (sessions : List PlayerSession) → Keeps change (session_where place client.sessions)
    → ((at : ℕ) → place ≡ Some at → IsTidy (change (session_at at client.sessions))) → sessions ≡ changed_where place change client.sessions → IsSlot client rooms → IsSlot (record client { sessions = sessions }) rooms
slot_changed client rooms None change sessions keeps tidy is slot = subst (λ (all : List PlayerSession). IsSlot (record client { sessions = all }) rooms) (sym is) slot
slot_changed client rooms (Some place) change sessions keeps tidy is slot = subst (λ (all : List PlayerSession). IsSlot (record client { sessions = all }) rooms) (sym is) (changed_slot client rooms place change keeps (tidy place refl) slot)

-- What the end of what plays and a queue change keeps the session.
pub ended_keeps : (names : Names) (session : PlayerSession) → Keeps (when_ended names) session
ended_keeps names session = record { id = id (end_counts session.running names); tracks = tracks (end_counts session.running names); control = control (end_counts session.running names) }
  where
    id : (counts : Bool) → (cond counts (record session { state = cond (length session.queue == 0) Ready session.state; running = None }) session).id ≡ session.id
    id true = refl
    id false = refl

    tracks : (counts : Bool) → (cond counts (record session { state = cond (length session.queue == 0) Ready session.state; running = None }) session).tracks ≡ session.tracks
    tracks true = refl
    tracks false = refl

    control : (counts : Bool) → (cond counts (record session { state = cond (length session.queue == 0) Ready session.state; running = None }) session).control ≡ session.control
    control true = refl
    control false = refl

pub queued_keeps : (play : Play) (session : PlayerSession) → Keeps (when_queued play) session
queued_keeps play session = record { id = refl; tracks = refl; control = refl }

pub next_keeps : (session : PlayerSession) → Keeps when_next session
next_keeps session = record { id = refl; tracks = refl; control = refl }

-- A request of the gateway itself goes up, where none was open.
pub slot_released : (client : Client) (rooms : List Bool) (play : Play) → client.pending ≡ None → IfSome play.place (λ place. place < MOST_SESSIONS) → is_filled play.place client.sessions ≡ true → length play.uri ≤ LONGEST_URI → IsSlot client rooms
    → IsSlot (record client { pending = Some (purposes.Released play) }) rooms
slot_released client rooms play idle within filled short slot = record {
  places = slot.places;
  tidy = slot.tidy;
  controls = slot.controls;
  all = slot.all;
  described = slot.described;
  placed = record { within = within; filled = filled; here = short; apart = tt };
  room = λ place low.
      ap (λ (pending : Option Purpose). slice_index_or rooms place false || needs_none place pending (session_at place client.sessions).id) (sym idle)
      ∙ slot.room place low;
}

-- A PLAY that is due waits.
pub due_waits : (session : PlayerSession) → has_due session ≡ true → slice_get session.queue 0 ≡ None → ⊥
due_waits session due none = by session.running session.queue due none
  where
    by : (running : Option ℕ) (queue : List Play) → (is_none running && not (length queue == 0)) ≡ true → slice_get queue 0 ≡ None → ⊥
    by None [] due none = cc
    by None (play ∷ plays) due none = cc
    by (Some number) queue due none = cc

-- A connection that closes.
unqueued_place : (purpose : Purpose) (sessions : List PlayerSession) → purpose_place purpose (map when_unqueued sessions) ≡ purpose_place purpose sessions
unqueued_place (purposes.Client asked track) sessions = ap (place_by asked.place asked.method) (first_mapped (λ session. is_none session.id) when_unqueued 0 sessions (λ session. refl))
unqueued_place (purposes.Released play) sessions = refl
unqueued_place (purposes.Closing one) sessions = refl

unqueued_tracks : (place : Option ℕ) (sessions : List PlayerSession) → (session_where place (map when_unqueued sessions)).tracks ≡ (session_where place sessions).tracks
unqueued_tracks None sessions = refl
unqueued_tracks (Some place) sessions = at_mapped (λ session. session.tracks) when_unqueued place sessions (λ session. refl)

unqueued_filled : (place : Option ℕ) (sessions : List PlayerSession) → is_filled place (map when_unqueued sessions) ≡ is_filled place sessions
unqueued_filled None sessions = refl
unqueued_filled (Some place) sessions = at_mapped (λ session. is_some session.id) when_unqueued place sessions (λ session. refl)

unqueued_placed : (pending : Option Purpose) (sessions : List PlayerSession) → IfSome pending (IsPlacedIn sessions) → IfSome pending (IsPlacedIn (map when_unqueued sessions))
unqueued_placed None sessions placed = tt
unqueued_placed (Some purpose) sessions placed = record {
  within = subst (λ (at : Option ℕ). IfSome at (λ one. one < MOST_SESSIONS)) (sym (unqueued_place purpose sessions)) placed.within;
  filled = unqueued_filled (place_asked purpose) sessions ∙ placed.filled;
  here = subst (λ (tracks : List Track). IsPlaced (length tracks) purpose)
      (sym (ap (λ (at : Option ℕ). (session_where at (map when_unqueued sessions)).tracks) (unqueued_place purpose sessions) ∙ unqueued_tracks (purpose_place purpose sessions) sessions)) placed.here;
  apart = placed.apart;
}

pub slot_closed : (client : Client) (rooms : List Bool) (waiting : List Shape) (sessions : List PlayerSession) → sessions ≡ map when_unqueued client.sessions → IsSlot client rooms
    → IsSlot (record { alive = false; sessions = sessions; described = client.described; pending = client.pending; waiting = waiting }) rooms
slot_closed client rooms waiting sessions is slot =
    subst (λ (all : List PlayerSession). IsSlot (record { alive = false; sessions = all; described = client.described; pending = client.pending; waiting = waiting }) rooms) (sym is) (record {
      places = mapped_length when_unqueued client.sessions ∙ slot.places;
      tidy = unqueued_tidy client.sessions slot.tidy;
      controls = unqueued_short client.sessions slot.controls;
      all = slot.all;
      described = slot.described;
      placed = unqueued_placed client.pending client.sessions slot.placed;
      room = λ place low.
          ap (λ (id : Option (List ℕ)). slice_index_or rooms place false || needs_none place client.pending id) (at_mapped (λ session. session.id) when_unqueued place client.sessions (λ session. refl))
          ∙ slot.room place low;
    })

-- The closing TEARDOWN of a place goes up.
pub record IsLeavingAt (client : Client) (place : ℕ) : Type 0 where
  pub closed : client.alive ≡ false
  pub idle : client.pending ≡ None
  pub within : place < length client.sessions
  pub filled : is_some (session_at place client.sessions).id ≡ true

leaving_by : (client : Client) (alive : Bool) (pending : Option Purpose) (place : ℕ) → client.alive ≡ alive → client.pending ≡ pending → closing_place_at alive pending client.sessions ≡ Some place → IsLeavingAt client place
leaving_by client true pending place a p e = cc
leaving_by client false (Some purpose) place a p e = cc
leaving_by client false None place a p e =
    let first = place_is (λ session. is_some session.id) place client.sessions e in
    record { closed = a; idle = p; within = first.within; filled = first.passes }

pub leaving_is : (client : Client) (place : ℕ) → closing_place client ≡ Some place → IsLeavingAt client place
leaving_is client place e = leaving_by client client.alive client.pending place refl refl e

room_needed : (room : Bool) (pending : Option Purpose) (id : Option (List ℕ)) (place : ℕ) → pending ≡ None → is_some id ≡ true → (room || needs_none place pending id) ≡ true → room ≡ true
room_needed true pending id place none some h = refl
room_needed false pending None place none some h = cc
room_needed false pending (Some id) place none some h =
    let went : needs_none place None (Some id) ≡ true = ap (λ (one : Option Purpose). needs_none place one (Some id)) (sym none) ∙ h in cc

pub room_there : (client : Client) (rooms : List Bool) (place : ℕ) → IsLeavingAt client place → IsSlot client rooms → slice_index_or rooms place false ≡ true
room_there client rooms place leaving slot =
    room_needed (slice_index_or rooms place false) client.pending (session_at place client.sessions).id place leaving.idle leaving.filled
    (slot.room place (subst (λ (n : ℕ). place < n) slot.places leaving.within))

-- A PLAY is due at a place.
pub record IsDueAt (client : Client) (place : ℕ) : Type 0 where
  pub idle : client.pending ≡ None
  pub within : place < length client.sessions
  pub passes : has_due (session_at place client.sessions) ≡ true

due_by : (client : Client) (pending : Option Purpose) (place : ℕ) → client.pending ≡ pending → due_place_at pending client.sessions ≡ Some place → IsDueAt client place
due_by client (Some purpose) place p e = cc
due_by client None place p e = let first = place_is has_due place client.sessions e in record { idle = p; within = first.within; passes = first.passes }

pub due_is : (client : Client) (place : ℕ) → due_place client ≡ Some place → IsDueAt client place
due_is client place e = due_by client client.pending place refl e

-- A session with an id has a closing TEARDOWN.
pub closes : (number : ℕ) (session : PlayerSession) → is_some session.id ≡ true → session_closing number session ≡ None → ⊥
closes number session some none = by session.id some none
  where
    by : (id : Option (List ℕ)) → is_some id ≡ true → option_map (λ one. request_text number (closing_request session.control one)) id ≡ None → ⊥
    by None some none = cc
    by (Some id) some none = cc

pub due_queue : (session : PlayerSession) → has_due session ≡ true → (length session.queue == 0) ≡ false
due_queue session due = by (is_none session.running) (length session.queue == 0) due
  where
    by : (none empty : Bool) → (none && not empty) ≡ true → empty ≡ false
    by true true h = cc
    by true false h = refl
    by false empty h = cc
