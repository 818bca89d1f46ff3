-- The channels of a stream on the player's connection (RFC 2326, 10.12 and 12.39).
use Rattle.std.specs.Prelude.{◌≡◌, ℕ, suc, zero, ◌+◌, ◌*◌, ◌<◌, ◌==◌, ◌||◌, Bool, true, false, List, Option, Some, None, Result, Ok, Err, if◌then◌else◌}
use Rattle.std.specs.List.{list_any}
use Rattle.rtsp_transport.specs.declared.channels.Pair.{Pair}
use Rattle.rtsp_transport.specs.declared.alternative.Wanted.{Wanted}
use Rattle.rtsp_transport.specs.declared.alternative.Wanted.TheVariants.{Any, Exact}
use Rattle.rtsp_transport.specs.declared.fault.TransportFault.{TransportFault}
use Rattle.rtsp_transport.specs.Wants.{wanted_of}
use Rattle.session_one.specs.declared.parts.Track.{Track}

-- two pairs have a channel in common
abbrev pub share : Pair → Pair → Bool
share one other = (one.rtp == other.rtp || one.rtp == other.rtcp) || (one.rtcp == other.rtp || one.rtcp == other.rtcp)

-- a channel of the pair is one of a stream that was set up
abbrev pub is_taken : List Track → Pair → Bool
is_taken tracks pair = list_any (λ track. share track.client pair) tracks

-- a channel and the next one
abbrev pub pair_at : ℕ → Pair
pair_at rtp = record { rtp = rtp; rtcp = rtp + 1 }

-- The first channel, from this one on in steps of two, that begins a pair which is not taken; the last one, where
-- none of so many does.
unfoldable pub free_from : ℕ → List Track → ℕ → ℕ
free_from zero tracks rtp = rtp
free_from (suc more) tracks rtp = if is_taken tracks (pair_at rtp) then free_from more tracks (rtp + 2) else rtp

-- The pair of the lowest even channel that is free with the next one (this project's own). The streams of a
-- connection leave one free: they are 32 at most, 8 in each of 4 sessions, and there are 128 such pairs.
unfoldable pub free_pair : List Track → Pair
free_pair tracks = pair_at (free_from 127 tracks 0)

-- The pair that a player gets: the one that it asks for, where that is not taken, and where it asks for none, the lowest
-- free one.
abbrev pub pair_for : List Track → Result Wanted TransportFault → Option Pair
pair_for tracks (Ok Any) = Some (free_pair tracks)
pair_for tracks (Ok (Exact pair)) = if is_taken tracks pair then None else Some pair
pair_for tracks (Err fault) = None

-- the channels that a player's SETUP gets, where it has a Transport
abbrev pub client_pair : List Track → Option (List ℕ) → Option Pair
client_pair tracks None = None
client_pair tracks (Some value) = pair_for tracks (wanted_of value)

-- a pair that begins with an even channel, is not taken, and has no such pair below it
pub record IsLowestFree (tracks : List Track) (pair : Pair) : Type 0 where
  pub even : (half : ℕ) × (pair ≡ pair_at (2 * half))
  pub free : is_taken tracks pair ≡ false
  pub lowest : (half : ℕ) → 2 * half < pair.rtp → is_taken tracks (pair_at (2 * half)) ≡ true
