-- The places of a connection's sessions (this project's own). An empty place has the session to which nothing happened.
use Rattle.std.specs.Prelude.{ℕ, zero, suc, ◌+◌, ◌==◌, Bool, false, ◌&&◌, not, is_some, is_none, List, [], ◌∷◌, ◌++◌, length, slice_get, slice_index_or, Option, Some, None, if◌then◌else◌}
use Rattle.std.specs.Str.{bytes_eq}
use Rattle.session_one.specs.declared.parts.Play.{Play}
use Rattle.session_one.specs.declared.parts.Track.{Track}
use Rattle.client_slot.specs.Session.{PlayerSession, new_session}

-- nothing is set up at any of the four places
abbrev pub new_sessions : List PlayerSession
new_sessions = new_session ∷ new_session ∷ new_session ∷ new_session ∷ []

-- the session at a place
abbrev pub session_at : ℕ → List PlayerSession → PlayerSession
session_at place sessions = slice_index_or sessions place new_session

-- the session at a place, where one is given
abbrev pub session_where : Option ℕ → List PlayerSession → PlayerSession
session_where None sessions = new_session
session_where (Some place) sessions = session_at place sessions

-- the sessions once that at a place is changed
abbrev pub changed_at : ℕ → (PlayerSession → PlayerSession) → List PlayerSession → List PlayerSession
changed_at place change [] = []
changed_at zero change (one ∷ more) = change one ∷ more
changed_at (suc place) change (one ∷ more) = one ∷ changed_at place change more

-- the sessions once that at a place is changed, where one is given
abbrev pub changed_where : Option ℕ → (PlayerSession → PlayerSession) → List PlayerSession → List PlayerSession
changed_where None change sessions = sessions
changed_where (Some place) change sessions = changed_at place change sessions

-- the first place, from a number on, whose session passes a test
abbrev pub first_place : (PlayerSession → Bool) → ℕ → List PlayerSession → Option ℕ
first_place test place [] = None
first_place test place (one ∷ more) = if test one then Some place else first_place test (place + 1) more

-- whether a session has this id
abbrev pub is_session : List ℕ → Option (List ℕ) → Bool
is_session id None = false
is_session id (Some one) = bytes_eq one id

-- the place of the session with an id
abbrev pub place_with : List ℕ → List PlayerSession → Option ℕ
place_with id sessions = first_place (λ session. is_session id session.id) 0 sessions

-- the lowest place that is empty
abbrev pub empty_place : List PlayerSession → Option ℕ
empty_place sessions = first_place (λ session. is_none session.id) 0 sessions

-- the lowest place that has a session
abbrev pub filled_place : List PlayerSession → Option ℕ
filled_place sessions = first_place (λ session. is_some session.id) 0 sessions

-- whether a session has a PLAY due: one waits, and none runs
abbrev pub has_due : PlayerSession → Bool
has_due session = is_none session.running && not (length session.queue == 0)

-- the first PLAY that waits at a place
abbrev pub queued_at : ℕ → List PlayerSession → Option Play
queued_at place sessions = slice_get (session_at place sessions).queue 0

-- the streams of all sessions
abbrev pub tracks_of : List PlayerSession → List Track
tracks_of [] = []
tracks_of (one ∷ more) = one.tracks ++ tracks_of more
