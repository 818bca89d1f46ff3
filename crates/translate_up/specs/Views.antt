-- What a request is judged by. This project's own.
use Rattle.std.specs.Prelude.{ℕ, ◌+◌, Bool, is_none, List, [], ◌∷◌, ◌++◌, map, slice_index_or, Option, Some, None, if◌then◌else◌}
use Rattle.std.specs.Option.{option_or, option_and_then, option_copied}
use Rattle.std.specs.List.{list_any}
use Rattle.session_one.specs.declared.table.State.{State}
use Rattle.session_one.specs.declared.table.State.TheVariants.{Init}
use Rattle.session_one.specs.declared.parts.Track.{Track}
use Rattle.translate_up.specs.declared.view.SessionView.{SessionView}
use Rattle.translate_up.specs.declared.view.View.{View}
use Rattle.translate_up.specs.Ids.{id_of, are_same}

-- a session as a request finds it: its id, where the place is filled, its state, its streams, how many PLAYs wait, and
-- the URI that stands for what it is about
pub record SeenSession : Type 0 where
  pub id : Option (List ℕ)
  pub state : State
  pub tracks : List Track
  pub queued : ℕ
  pub control : Option (List ℕ)

-- an empty place, and what a request has that names no session
abbrev pub no_session : SeenSession
no_session = record { id = None; state = Init; tracks = []; queued = 0; control = None }

-- the connection of a player as it stands when the request is treated: the session of each place; the URI that was
-- described; whether all pairs of channels are held; and the texts of both bases
pub record Given : Type 0 where
  pub sessions : List SeenSession
  pub described : Option (List ℕ)
  pub full : Bool
  pub front : List ℕ
  pub up : List ℕ

-- what a session shows, without where it lies in memory
abbrev pub session_shown : Option SessionView → SeenSession
session_shown None = no_session
session_shown (Some view) = record {
  id = Some view.id.now;
  state = view.state;
  tracks = view.tracks.now;
  queued = view.queued;
  control = Some view.control.now;
}

-- what a view shows, without where it lies in memory
abbrev pub given_of : View → Given
given_of view = record {
  sessions = map session_shown view.sessions.now;
  described = option_copied view.described;
  full = view.full;
  front = view.bases.now.front.text;
  up = view.bases.now.up.text;
}

-- the streams of all sessions
abbrev pub all_tracks : List SeenSession → List Track
all_tracks [] = []
all_tracks (one ∷ more) = one.tracks ++ all_tracks more

-- the streams of sessions that are seen
abbrev pub tracks_shown : List (Option SessionView) → List Track
tracks_shown sessions = all_tracks (map session_shown sessions)

-- the first place, from a number on, whose session has this id
abbrev pub place_from : List ℕ → ℕ → List SeenSession → Option ℕ
place_from id place [] = None
place_from id place (one ∷ more) = if are_same one.id (Some id) then Some place else place_from id (place + 1) more

-- the first place whose session has this id
abbrev pub place_with_id : List ℕ → List SeenSession → Option ℕ
place_with_id id sessions = place_from id 0 sessions

-- the place of the session that a Session field names
abbrev pub place_named : Option (List ℕ) → List SeenSession → Option ℕ
place_named value sessions = option_and_then (λ id. place_with_id id sessions) (option_and_then id_of value)

-- the session at a place, where one is given
abbrev pub session_or_none : Option ℕ → List SeenSession → SeenSession
session_or_none None sessions = no_session
session_or_none (Some place) sessions = slice_index_or sessions place no_session

-- whether a place is empty
abbrev pub has_empty : List SeenSession → Bool
has_empty sessions = list_any (λ one. is_none one.id) sessions

-- What one request is judged by: the place of the session that it names, and that session; whether a place is empty; the
-- streams of all sessions; and the rest as it is given. What the session is about is what was described, where nothing
-- else is known.
pub record Judged : Type 0 where
  pub place : Option ℕ
  pub state : State
  pub session : Option (List ℕ)
  pub tracks : List Track
  pub queued : ℕ
  pub control : Option (List ℕ)
  pub has_room : Bool
  pub all : List Track
  pub full : Bool
  pub front : List ℕ
  pub up : List ℕ

-- by the place of the session that a request names
abbrev pub judged_at : Given → Option ℕ → Judged
judged_at given place =
    let session = session_or_none place given.sessions in
    record {
      place = place;
      state = session.state;
      session = session.id;
      tracks = session.tracks;
      queued = session.queued;
      control = option_or session.control given.described;
      has_room = has_empty given.sessions;
      all = all_tracks given.sessions;
      full = given.full;
      front = given.front;
      up = given.up;
    }

-- by its Session field
abbrev pub judged_by : Given → Option (List ℕ) → Judged
judged_by given value = judged_at given (place_named value given.sessions)

-- the same under other numbers of the pairs of channels
abbrev pub with_pair : (ℕ → ℕ) → Track → Track
with_pair pairs track = record track { pair = pairs track.pair }

-- a session in another numbering of pairs
abbrev pub session_with_pairs : (ℕ → ℕ) → SeenSession → SeenSession
session_with_pairs pairs session = record session { tracks = map (with_pair pairs) session.tracks }

-- a connection in another numbering of pairs
abbrev pub with_pairs : (ℕ → ℕ) → Given → Given
with_pairs pairs given = record given { sessions = map (session_with_pairs pairs) given.sessions }

-- what a request is judged by, in another numbering of pairs
abbrev pub judged_with_pairs : (ℕ → ℕ) → Judged → Judged
judged_with_pairs pairs judged = record judged { tracks = map (with_pair pairs) judged.tracks; all = map (with_pair pairs) judged.all }
