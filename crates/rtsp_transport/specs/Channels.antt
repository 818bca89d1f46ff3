-- Pairs of channels (RFC 2326, 10.12; RFC 7826, 14).
use Rattle.std.specs.Prelude.{ℕ, ◌≢◌, ◌+◌, ◌==◌, nat_le, if◌then◌else◌, List, Option, Some, None, option_and_then}
use Rattle.gate_bytes.specs.Ascii.{hyphen}
use Rattle.gate_bytes.specs.Places.{cut_at}
use Rattle.gate_bytes.specs.Numbers.{number_in}
use Rattle.rtsp_transport.specs.declared.channels.TheConstants.{LAST_CHANNEL, CHANNEL_DIGITS}
use Rattle.rtsp_transport.specs.declared.channels.Pair.{Pair}

-- two channels that differ
abbrev pub AreApart : Pair → Type 0
AreApart pair = pair.rtp ≢ pair.rtcp

-- a channel: one or more digits up to the most, and no number above the last channel (RFC 7826, 20.2)
abbrev pub channel_of : List ℕ → Option ℕ
channel_of text = option_and_then (λ channel. if nat_le channel LAST_CHANNEL then Some channel else None) (number_in CHANNEL_DIGITS text)

-- two different channels (that they differ is this project's own)
abbrev pub two_channels : List ℕ → List ℕ → Option Pair
two_channels first second =
    option_and_then (λ rtp. option_and_then (λ rtcp. if rtp == rtcp then None else Some (record { rtp = rtp; rtcp = rtcp })) (channel_of second)) (channel_of first)

-- a channel that is not the last, and the next one (this project's own)
abbrev pub first_channel : List ℕ → Option Pair
first_channel text = option_and_then (λ rtp. if rtp == LAST_CHANNEL then None else Some (record { rtp = rtp; rtcp = rtp + 1 })) (channel_of text)

-- `a-b`
abbrev pub pair_of : List ℕ → Option Pair
pair_of value = option_and_then (λ parts. two_channels parts.0 parts.1) (cut_at hyphen value)

-- `a-b`, or `a` alone
abbrev pub pair_with : List ℕ → Option (List ℕ × List ℕ) → Option Pair
pair_with value None = first_channel value
pair_with value (Some parts) = two_channels parts.0 parts.1

-- a pair of channels, or the first of one
abbrev pub pair_or_first : List ℕ → Option Pair
pair_or_first value = pair_with value (cut_at hyphen value)
