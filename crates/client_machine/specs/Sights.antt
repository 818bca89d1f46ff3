-- What sessions show to a request that is treated, and which PLAY they have due (this project's own).
use Rattle.std.specs.Prelude.{◌≡◌, ℕ, zero, suc, ◌+◌, Bool, true, ◌&&◌, not, List, [], ◌∷◌, ◌++◌, length, map, slice_get, slice_index_or, Option, Some, None, is_some, if◌then◌else◌}
use Rattle.std.specs.Borrow.{Bor}
use Rattle.std.specs.List.{list_all}
use Rattle.std.specs.Option.{option_copied, option_map_or, option_and_then}
use Rattle.rtsp_uri.specs.declared.base.Bases.{Bases}
use Rattle.session_one.specs.declared.table.State.{State}
use Rattle.session_one.specs.declared.parts.Play.{Play}
use Rattle.session_one.specs.declared.parts.Track.{Track}
use Rattle.translate_up.specs.Views.{SeenSession, Given}
use Rattle.client_slot.specs.ShortUris.{is_short_where}
use Rattle.client_slot.specs.Session.{PlayerSession, new_session}
use Rattle.client_slot.specs.SessionTurns.{Brought}
use Rattle.client_machine.specs.declared.after.LentParts.{LentParts}
use Rattle.client_machine.specs.declared.sight.Showing.{Showing}
use Rattle.client_machine.specs.declared.sight.PlacedShowing.{PlacedShowing}
use Rattle.client_machine.specs.Treatment.{given_shown}

-- its state, its id, what it is about, its streams, whether a PLAY runs, the first PLAY that waits, and how many wait
pub record Sight : Type 0 where
  pub state : State
  pub id : Option (List ℕ)
  pub control : Option (List ℕ)
  pub tracks : List Track
  pub runs : Bool
  pub first : Option Play
  pub queued : ℕ

-- what a session shows
abbrev pub sight : PlayerSession → Sight
sight session = record {
  state = session.state;
  id = session.id;
  control = session.control;
  tracks = session.tracks;
  runs = is_some session.running;
  first = slice_get session.queue 0;
  queued = length session.queue;
}

-- the streams with one more, where there is one
abbrev pub with_added : List Track → Option Track → List Track
with_added tracks None = tracks
with_added tracks (Some track) = tracks ++ track ∷ []

-- what is seen of a session, without where it lies in memory
abbrev pub sight_of : Showing → Sight
sight_of seen = record {
  state = seen.state;
  id = option_copied seen.id;
  control = option_copied seen.control;
  tracks = with_added seen.tracks.now (option_copied seen.added);
  runs = seen.runs;
  first = option_copied seen.first;
  queued = seen.queued;
}

-- what is brought to a session, without where it lies in memory
abbrev pub brought_of : ℕ → LentParts → Brought
brought_of number parts = record { number = number; control = option_copied parts.control; id = option_copied parts.id; track = option_copied parts.track }

-- what the session at a place shows
abbrev pub sight_at : ℕ → List Sight → Sight
sight_at place sights = slice_index_or sights place (sight new_session)

-- what is seen at a place is replaced
abbrev pub replaced : ℕ → Sight → List Sight → List Sight
replaced place new [] = []
replaced zero new (one ∷ more) = new ∷ more
replaced (suc place) new (one ∷ more) = one ∷ replaced place new more

-- where a session changes
abbrev pub replaced_where : Option PlacedShowing → List Sight → List Sight
replaced_where None sights = sights
replaced_where (Some changed) sights = replaced changed.place (sight_of changed.session) sights

-- the streams of the session that changes, as they will be
abbrev pub streams_where : Option PlacedShowing → List Track
streams_where place = option_map_or (λ changed. (sight_of changed.session).tracks) place []

-- the id of the session that changes
abbrev pub id_changed : Option PlacedShowing → Option (Bor (List ℕ))
id_changed place = option_and_then (λ changed. changed.session.id) place

-- the first place, from a number on, whose sight passes a test
abbrev pub first_sight : (Sight → Bool) → ℕ → List Sight → Option ℕ
first_sight test place [] = None
first_sight test place (one ∷ more) = if test one then Some place else first_sight test (place + 1) more

-- what the session at a place shows, where one is given
abbrev pub sight_where : Option ℕ → List Sight → Sight
sight_where None sights = sight new_session
sight_where (Some place) sights = sight_at place sights

-- whether a PLAY waits, and none runs
abbrev pub has_due_seen : Sight → Bool
has_due_seen seen = not seen.runs && is_some seen.first

-- the place that has a PLAY due, where no request is open
abbrev pub due_seen : List Sight → Option ℕ
due_seen sights = first_sight has_due_seen 0 sights

-- the first place that has a session
abbrev pub filled_seen : List Sight → Option ℕ
filled_seen sights = first_sight (λ seen. is_some seen.id) 0 sights

-- a session as a request finds it
abbrev pub session_in_sight : Sight → SeenSession
session_in_sight seen = record { id = seen.id; state = seen.state; tracks = seen.tracks; queued = seen.queued; control = seen.control }

-- what a request is judged by, by what is seen of sessions
abbrev pub given_by : Bases → Bool → List Sight → Option (List ℕ) → Given
given_by bases full sights described = given_shown bases full (map session_in_sight sights) described

-- A place without a session shows an empty one, and with one it is known what that is about.
abbrev pub IsTidySight : Sight → Type 0
IsTidySight seen = (seen.id ≡ None → seen ≡ sight new_session) × (is_some seen.id ≡ true → is_some seen.control ≡ true)

-- so does each place
abbrev pub AreTidySights : List Sight → Type 0
AreTidySights sights = (place : ℕ) → IsTidySight (sight_at place sights)

-- whether what each session is about has a short enough URI
abbrev pub are_sights_short : List Sight → Bool
are_sights_short sights = list_all (λ seen. is_short_where seen.control) sights
