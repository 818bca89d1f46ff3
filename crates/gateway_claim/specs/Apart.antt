-- What connections have apart from one another, and whom a frame reaches (this project's own).
use Rattle.std.specs.Prelude.{◌≡◌, ℕ, ◌+◌, ◌*◌, ◌/◌, ◌%◌, map, List, Option, Some}
use Rattle.std.specs.List.{Contains}
use Rattle.rtsp_head.specs.Items.{Shape}
use Rattle.rtsp_uri.specs.declared.base.Bases.{Bases}
use Rattle.session_one.specs.declared.parts.Track.{Track}
use Rattle.client_slot.specs.Places.{session_at, tracks_of}
use Rattle.client_machine.specs.Bounds.{streams_of}
use Rattle.client_machine.specs.Frames.{channel_in, behind_channel, frame_text, half_on, player_channel}
use Rattle.gateway_claim.specs.declared.event.ToClient.{ToClient}
use Rattle.gateway_claim.specs.declared.event.UpMessage.{UpMessage}
use Rattle.gateway_claim.specs.declared.event.UpMessage.TheVariants.{Frame}
use Rattle.gateway_claim.specs.Happenings.{HistoryEntry}
use Rattle.gateway_claim.specs.OwnEvents.{owner_of, books_of}
use Rattle.gateway_claim.specs.Turns.{client_alone}

-- The pairs of channels that the streams of connection i have on the server's connection: of those that are set up, in
-- their order, and then of that of its open SETUP.
abbrev pub pairs_held : Bases → List HistoryEntry → ℕ → List ℕ
pairs_held bases history i = map (λ track. (books_of history).pair_of i track.pair) (streams_of (client_alone bases history i))

-- the id of the session that connection i has at a place, where it has one
abbrev pub session_held : Bases → List HistoryEntry → ℕ → ℕ → Option (List ℕ)
session_held bases history i place = (session_at place (client_alone bases history i).sessions).id

-- A stream of connection i has this pair of channels on the server's connection, which granted it to no other connection.
pub record IsStreamOn (bases : Bases) (history : List HistoryEntry) (i pair : ℕ) (track : Track) : Type 0 where
  pub stream : Contains (tracks_of (client_alone bases history i).sessions) track
  pub named : (books_of history).pair_of i track.pair ≡ pair
  pub owner : owner_of ((books_of history).held pair) ≡ Some i

-- A frame of the server reaches the player that holds the pair of its channel: the bytes are the frame, on the same half
-- of the channels that this player has for the stream.
abbrev pub IsFrameDown : Bases → List HistoryEntry → ℕ → List ℕ → ToClient → Type 0
IsFrameDown bases history channel rest piece =
    (track : Track) × IsStreamOn bases history piece.conn (channel / 2) track × (piece.bytes ≡ frame_text (player_channel (channel % 2) track) rest)

-- A frame of a player goes up on a pair that the player holds: that of its stream which has the channel, on the same half.
abbrev pub IsFrameUp : Bases → List HistoryEntry → ℕ → Shape → UpMessage → Type 0
IsFrameUp bases history i frame message =
    (track : Track) × (half pair : ℕ) × IsStreamOn bases history i pair track × (half_on (channel_in frame) track ≡ Some half)
    × (message ≡ Frame (frame_text (2 * pair + half) (behind_channel frame)))
