-- What is bounded of a connection, so that no call but the first takes memory (this project's own).
use Rattle.std.specs.Prelude.{◌≡◌, ◌≢◌, ℕ, ◌≤◌, ◌<◌, ◌==◌, Bool, true, false, ◌||◌, List, [], ◌∷◌, length, map, slice_index_or, slice_set, if◌then◌else◌, All, Option, Some, None, is_some, is_none, IsSome, IfSome}
use Rattle.rtsp_small.specs.Sessions.{is_session_id}
use Rattle.client_slot.specs.declared.limits.TheConstants.{LONGEST_URI}
use Rattle.session_one.specs.declared.parts.TheConstants.{MOST_SESSIONS, MOST_TRACKS}
use Rattle.session_one.specs.declared.parts.Asked.{Asked}
use Rattle.session_one.specs.declared.parts.Track.{Track}
use Rattle.client_slot.specs.declared.purpose.Purpose.{Purpose}
use Rattle.client_slot.specs.declared.purpose.Purpose.TheVariants as purposes
use Rattle.client_slot.specs.Session.{PlayerSession, new_session}
use Rattle.client_slot.specs.Places.{session_at, session_where}
use Rattle.client_slot.specs.Changes.{purpose_place}
use Rattle.client_slot.specs.Client.{Client}

-- The id is one; URIs are short enough; and there are not too many streams.
pub record IsBounded (session : PlayerSession) : Type 0 where
  pub id : IfSome session.id (λ id. is_session_id id ≡ true)
  pub control : IfSome session.control (λ uri. length uri ≤ LONGEST_URI)
  pub tracks : length session.tracks ≤ MOST_TRACKS
  pub queue : All (λ play. length play.uri ≤ LONGEST_URI) session.queue

-- A place without a session is an empty one, and with one it is known what that is about.
abbrev pub IsTidyBy : Option (List ℕ) → PlayerSession → Type 0
IsTidyBy None session = session ≡ new_session
IsTidyBy (Some id) session = IsSome session.control

-- by its id
abbrev pub IsTidy : PlayerSession → Type 0
IsTidy session = IsTidyBy session.id session

-- so is each place
abbrev pub AreTidy : List PlayerSession → Type 0
AreTidy [] = Unit {0}
AreTidy (session ∷ more) = IsTidy session × AreTidy more

-- What each is about has a short enough URI.
abbrev pub AreControlsShort : List PlayerSession → Type 0
AreControlsShort [] = Unit {0}
AreControlsShort (session ∷ more) = IfSome session.control (λ uri. length uri ≤ LONGEST_URI) × AreControlsShort more

-- whether a place that is given has a session
abbrev pub is_filled : Option ℕ → List PlayerSession → Bool
is_filled None sessions = true
is_filled (Some place) sessions = is_some (session_at place sessions).id

-- the URI of an open request is short enough
abbrev pub HasShortUri : Purpose → Type 0
HasShortUri (purposes.Client asked track) = length asked.uri ≤ LONGEST_URI
HasShortUri (purposes.Released play) = length play.uri ≤ LONGEST_URI
HasShortUri (purposes.Closing place) = Unit {0}

-- The URI of an open request is short enough, and a stream that it sets up has a place beside so many others.
abbrev pub IsPlaced : ℕ → Purpose → Type 0
IsPlaced tracks (purposes.Client asked track) = (length asked.uri ≤ LONGEST_URI) × (IsSome track → tracks < MOST_TRACKS)
IsPlaced tracks (purposes.Released play) = length play.uri ≤ LONGEST_URI
IsPlaced tracks (purposes.Closing place) = Unit {0}

-- the place of the session that a request names, or that it is for
abbrev pub place_asked : Purpose → Option ℕ
place_asked (purposes.Client asked track) = asked.place
place_asked (purposes.Released play) = play.place
place_asked (purposes.Closing place) = None

-- the two channels of a stream that it sets up differ
abbrev pub HasTwoChannels : Purpose → Type 0
HasTwoChannels (purposes.Client asked track) = IfSome track (λ one. one.client.rtp ≢ one.client.rtcp)
HasTwoChannels (purposes.Released play) = Unit {0}
HasTwoChannels (purposes.Closing place) = Unit {0}

-- so beside the streams of the session that it is for, whose place is one of the four
pub record IsPlacedIn (sessions : List PlayerSession) (purpose : Purpose) : Type 0 where
  pub within : IfSome (purpose_place purpose sessions) (λ place. place < MOST_SESSIONS)
  pub filled : is_filled (place_asked purpose) sessions ≡ true
  pub here : IsPlaced (length (session_where (purpose_place purpose sessions) sessions).tracks) purpose
  pub apart : HasTwoChannels purpose

-- A player's request can go up: its URI is short enough, the session that it names is there, and a stream that it sets up
-- has a place beside those of that session, and two channels.
pub record IsAskable (sessions : List PlayerSession) (asked : Asked) (track : Option Track) : Type 0 where
  pub uri : length asked.uri ≤ LONGEST_URI
  pub within : IfSome asked.place (λ place. place < MOST_SESSIONS)
  pub filled : is_filled asked.place sessions ≡ true
  pub room : IsSome track → length (session_where asked.place sessions).tracks < MOST_TRACKS
  pub apart : IfSome track (λ one. one.client.rtp ≢ one.client.rtcp)

-- whether the closing TEARDOWN of a place is open
abbrev pub is_closing : ℕ → Option Purpose → Bool
is_closing place None = false
is_closing place (Some (purposes.Client asked track)) = false
is_closing place (Some (purposes.Released play)) = false
is_closing place (Some (purposes.Closing other)) = other == place

-- whether the closing TEARDOWN of a place needs no room: there is no session, or it went up
abbrev pub needs_none : ℕ → Option Purpose → Option (List ℕ) → Bool
needs_none place pending id = is_none id || is_closing place pending

-- which places have room for a closing TEARDOWN
abbrev pub rooms_left : {R : Type 0} → List (Option R) → List Bool
rooms_left rooms = map is_some rooms

-- so once a place, where one is given, has a room that is there
abbrev pub rooms_with : Option ℕ → Bool → List Bool → List Bool
rooms_with None there rooms = rooms
rooms_with (Some place) there rooms = if there then slice_set rooms place true else rooms

-- Each place has room for the closing TEARDOWN of its session, where that did not go up.
abbrev pub AreRoomy : Client → List Bool → Type 0
AreRoomy client rooms = (place : ℕ) → place < MOST_SESSIONS → (slice_index_or rooms place false || needs_none place client.pending (session_at place client.sessions).id) ≡ true

-- There are four places, and each is tidy; what sessions are about, and what was described, is short enough; the open request
-- has its place; and there is room.
pub record IsSlot (client : Client) (rooms : List Bool) : Type 0 where
  pub places : length client.sessions ≡ MOST_SESSIONS
  pub tidy : AreTidy client.sessions
  pub controls : AreControlsShort client.sessions
  pub all : length rooms ≡ MOST_SESSIONS
  pub described : IfSome client.described (λ uri. length uri ≤ LONGEST_URI)
  pub placed : IfSome client.pending (IsPlacedIn client.sessions)
  pub room : AreRoomy client rooms
