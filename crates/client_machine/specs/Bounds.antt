-- The numbers that are kept of a connection are those of its own requests: from 1 up to as many as went up; and the channels
-- of its streams are apart (RFC 2326, 10.12: a channel names one stream; the rest is this project's own).
use Rattle.std.specs.Prelude.{ℕ, ◌≤◌, List, [], ◌∷◌, Option, Some, IfSome, ◌≡◌, ◌≢◌, false, ◌++◌}
use Rattle.session_one.specs.declared.parts.Track.{Track}
use Rattle.client_slot.specs.declared.purpose.Purpose.{Purpose}
use Rattle.client_slot.specs.declared.purpose.Purpose.TheVariants as purposes
use Rattle.client_slot.specs.Session.{PlayerSession}
use Rattle.client_slot.specs.Client.{Client}
use Rattle.std.specs.Option.{option_to_list}
use Rattle.translate_up.specs.Channels.{share}
use Rattle.client_slot.specs.Places.{tracks_of}
use Rattle.std.specs.List.{AllByRecursion}

-- a number from 1 up to as many as went up
abbrev pub IsWithin : ℕ → ℕ → Type 0
IsWithin n number = (1 ≤ number) × (number ≤ n)

-- of the PLAY that runs, or of a pair that is free
abbrev pub IsNumberBelow : ℕ → Option ℕ → Type 0
IsNumberBelow n number = IfSome number (IsWithin n)

-- of the streams
abbrev pub ArePairsBelow : ℕ → List Track → Type 0
ArePairsBelow n tracks = AllByRecursion (λ track. IsWithin n track.pair) tracks

-- of the stream that a SETUP sets up
abbrev pub IsTrackBelow : ℕ → Option Track → Type 0
IsTrackBelow n track = IfSome track (λ one. IsWithin n one.pair)

-- of what the open request is for
abbrev pub IsPurposeBelow : ℕ → Option Purpose → Type 0
IsPurposeBelow n (Some (purposes.Client asked track)) = IsTrackBelow n track
IsPurposeBelow n purpose = Unit {0}

-- all numbers of a session are within those that went up
pub record IsSessionBelow (n : ℕ) (session : PlayerSession) : Type 0 where
  pub running : IsNumberBelow n session.running
  pub tracks : ArePairsBelow n session.tracks

-- of each session
abbrev pub AreSessionsBelow : ℕ → List PlayerSession → Type 0
AreSessionsBelow n sessions = AllByRecursion (IsSessionBelow n) sessions

-- all numbers of a connection
pub record AreBelow (n : ℕ) (all : List PlayerSession) (purpose : Option Purpose) : Type 0 where
  pub sessions : AreSessionsBelow n all
  pub pending : IsPurposeBelow n purpose

-- of a connection
abbrev pub IsBelow : ℕ → Client → Type 0
IsBelow n client = AreBelow n client.sessions client.pending

-- a request that is open went up
abbrev pub IsOpened : ℕ → Option Purpose → Type 0
IsOpened n purpose = IfSome purpose (λ one. 1 ≤ n)

-- the stream that an open SETUP will set up
abbrev pub stream_asked : Option Purpose → List Track
stream_asked (Some (purposes.Client asked track)) = option_to_list track
stream_asked purpose = []

-- the streams of a connection: those that are set up, in their order, and then that of its open SETUP
abbrev pub streams_of : Client → List Track
streams_of client = tracks_of client.sessions ++ stream_asked client.pending

-- Two streams have different pairs of channels on the server's connection, and no channel in common on the player's.
pub record AreStreamsApart (one other : Track) : Type 0 where
  pub pairs : one.pair ≢ other.pair
  pub channels : share one.client other.client ≡ false

-- a stream and each of these
abbrev pub IsStreamApart : Track → List Track → Type 0
IsStreamApart track others = AllByRecursion (AreStreamsApart track) others

-- each of these and each one behind it
abbrev pub AreAllStreamsApart : List Track → Type 0
AreAllStreamsApart [] = Unit {0}
AreAllStreamsApart (track ∷ tracks) = IsStreamApart track tracks × AreAllStreamsApart tracks
