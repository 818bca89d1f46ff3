-- Frames of media between a player and the server (RFC 2326, 10.12; RFC 7826, 14): `$`, the channel, the length in two
-- bytes, and the load.
use Rattle.std.specs.Prelude.{ℕ, ◌==◌, ◌∷◌, List, [], drop, slice_index, Option, Some, None, option_map, if◌then◌else◌}
use Rattle.std.specs.Option.{option_or}
use Rattle.std.specs.List.{find}
use Rattle.gate_bytes.specs.Ascii.{dollar}
use Rattle.rtsp_head.specs.Items.{Shape}
use Rattle.session_one.specs.declared.parts.Track.{Track}
use Rattle.client_machine.specs.declared.frames.StreamHalf.{StreamHalf}

-- the channel of a frame, and all that stands behind it
abbrev pub channel_in : Shape → ℕ
channel_in frame = slice_index frame.bytes 1

-- the bytes of a frame behind its channel
abbrev pub behind_channel : Shape → List ℕ
behind_channel frame = drop 2 frame.bytes

-- a frame on a channel
abbrev pub frame_text : ℕ → List ℕ → List ℕ
frame_text channel rest = dollar ∷ channel ∷ rest

-- Half of a pair of channels: the first is for RTP and the second for RTCP.
pub record Half : Type 0 where
  pub pair : ℕ
  pub half : ℕ

-- which half of a stream a channel of the player is
abbrev pub half_on : ℕ → Track → Option ℕ
half_on channel track = if track.client.rtp == channel then Some 0 else (if track.client.rtcp == channel then Some 1 else None)

-- the half that a player's channel stands for
abbrev pub half_for : ℕ → List Track → Option Half
half_for channel [] = None
half_for channel (track ∷ tracks) = option_or (option_map (λ half. record { pair = track.pair; half = half }) (half_on channel track)) (half_for channel tracks)

-- the player's channel for a half of a stream
abbrev pub player_channel : ℕ → Track → ℕ
player_channel half track = if half == 0 then track.client.rtp else track.client.rtcp

-- the player's channel for a half of a pair, where one of its streams has the pair
abbrev pub channel_for : ℕ → ℕ → List Track → Option ℕ
channel_for pair half tracks = option_map (player_channel half) (find (λ track. track.pair == pair) tracks)

-- a half as it is handed out
abbrev pub half_of : StreamHalf → Half
half_of one = record { pair = one.pair; half = one.half }
