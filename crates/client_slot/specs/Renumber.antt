-- A connection under another numbering of its requests and of its pairs of channels. The numbers that the server's one
-- connection has for all players, and those that a player alone would count, differ by that (this project's own).
use Rattle.std.specs.Prelude.{◌≡◌, ℕ, ◌==◌, map, Option, Some, None}
use Rattle.std.specs.Option.{option_map}
use Rattle.session_one.specs.declared.parts.Track.{Track}
use Rattle.session_two.specs.declared.names.Names.{Names}
use Rattle.session_two.specs.declared.names.Names.TheVariants.{Unsaid, This}
use Rattle.client_slot.specs.declared.purpose.Purpose.{Purpose}
use Rattle.client_slot.specs.declared.purpose.Purpose.TheVariants as purposes
use Rattle.client_slot.specs.Session.{PlayerSession}
use Rattle.client_slot.specs.Client.{Client}

-- a stream in another numbering
abbrev pub track_under : (ℕ → ℕ) → Track → Track
track_under pairs track = record track { pair = pairs track.pair }

-- what a request is for, in another numbering
abbrev pub purpose_under : (ℕ → ℕ) → Purpose → Purpose
purpose_under pairs (purposes.Client asked track) = purposes.Client asked (option_map (track_under pairs) track)
purpose_under pairs (purposes.Released play) = purposes.Released play
purpose_under pairs (purposes.Closing place) = purposes.Closing place

-- A stream has a pair, and what plays has a number.
abbrev pub session_under : (ℕ → ℕ) → (ℕ → ℕ) → PlayerSession → PlayerSession
session_under numbers pairs session = record session { tracks = map (track_under pairs) session.tracks; running = option_map numbers session.running }

-- a connection in another numbering
abbrev pub client_under : (ℕ → ℕ) → (ℕ → ℕ) → Client → Client
client_under numbers pairs client = record client {
  sessions = map (session_under numbers pairs) client.sessions;
  pending = option_map (purpose_under pairs) client.pending;
}

-- the request that a notify names, in another numbering
abbrev pub names_under : (ℕ → ℕ) → Names → Names
names_under numbers Unsaid = Unsaid
names_under numbers (This number) = This (numbers number)

-- The numbering tells the request that is named from the PLAY that runs.
abbrev pub AreToldApart : (ℕ → ℕ) → Option ℕ → Names → Type 0
AreToldApart numbers None names = Unit {0}
AreToldApart numbers (Some running) Unsaid = Unit {0}
AreToldApart numbers (Some running) (This number) = (numbers number == numbers running) ≡ (number == running)
