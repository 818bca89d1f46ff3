-- The channels that a player gets are of one byte.
use Rattle.std.proofs.Common.{◌≡◌, ◌+◌, ◌*◌, ◌<◌, ◌≤◌, ℕ, zero, suc, Bool, true, false, ◌&&◌, ◌==◌, not, cond, nat_le, List, [], ◌∷◌, Option, None, Some, IfSome, IfOk, Result, Ok, Err, refl, option_map, option_and_then, ok_or, arith}
use Rattle.std.specs.Option.{option_or}
use Rattle.std.specs.List.{list_any}
use Rattle.gate_bytes.specs.Ascii.{comma, hyphen}
use Rattle.gate_bytes.specs.Numbers.{number_in}
use Rattle.gate_bytes.specs.Places.{cut_at}
use Rattle.rtsp_transport.specs.declared.channels.TheConstants.{LAST_CHANNEL, CHANNEL_DIGITS}
use Rattle.rtsp_transport.specs.declared.channels.Pair.{Pair}
use Rattle.rtsp_transport.specs.declared.alternative.Wanted.{Wanted}
use Rattle.rtsp_transport.specs.declared.alternative.Wanted.TheVariants.{Any, Exact}
use Rattle.rtsp_transport.specs.declared.fault.TransportFault.{TransportFault}
use Rattle.rtsp_transport.specs.declared.fault.TransportFault.TheVariants.{Grammar, NoneFits}
use Rattle.rtsp_transport.specs.Channels.{channel_of, pair_with, pair_or_first}
use Rattle.rtsp_transport.specs.Parameters.{parameters_of, value_of, is_multicast}
use Rattle.rtsp_transport.specs.Splits.{unquoted_parts, is_readable}
use Rattle.rtsp_transport.specs.Wants.{is_tcp, mode_fits, wanted_channels, wanted_in, first_fit, wanted_of}
use Rattle.session_one.specs.declared.parts.Track.{Track}
use Rattle.translate_up.specs.Channels.{is_taken, pair_at, free_from, free_pair, pair_for, client_pair}
use Rattle.std.specs.Prelude.{codes}

-- a pair of channels of one byte, where there is one
abbrev pub IsOfBytes : Pair → Type 0
IsOfBytes pair = (pair.rtp < 256) × (pair.rtcp < 256)

abbrev pub AreOfBytes : Option Pair → Type 0
AreOfBytes pair = IfSome pair IsOfBytes

free_within : (more : ℕ) (tracks : List Track) (rtp : ℕ) → free_from more tracks rtp ≤ rtp + 2 * more
unfolding free_from
free_within zero tracks rtp = omega arith
free_within (suc more) tracks rtp = by (is_taken tracks (pair_at rtp)) (free_within more tracks (rtp + 2))
  where
    by : (taken : Bool) → free_from more tracks (rtp + 2) ≤ rtp + 2 + 2 * more → cond taken (free_from more tracks (rtp + 2)) rtp ≤ rtp + 2 * suc more
    by true within = omega (arith, within)
    by false within = omega arith

free_bytes : (tracks : List Track) → IsOfBytes (free_pair tracks)
unfolding free_pair
free_bytes tracks = let within = free_within 127 tracks 0 in (omega (arith, within), omega (arith, within))

-- a channel that is read
channel_by : (number : Option ℕ) → IfSome (option_and_then (λ channel. cond (nat_le channel LAST_CHANNEL) (Some channel) None) number) (λ channel. channel < 256)
channel_by None = tt
channel_by (Some channel) = by (nat_le channel LAST_CHANNEL) refl
  where
    by : (fits : Bool) → nat_le channel LAST_CHANNEL ≡ fits → IfSome (cond fits (Some channel) None) (λ channel. channel < 256)
    by true e = grind (arith, e)
    by false e = tt

channel_byte : (text : List ℕ) → IfSome (channel_of text) (λ channel. channel < 256)
channel_byte text = channel_by (number_in CHANNEL_DIGITS text)

two_by : (rtp rtcp : Option ℕ) → IfSome rtp (λ channel. channel < 256) → IfSome rtcp (λ channel. channel < 256)
    → AreOfBytes (option_and_then (λ one. option_and_then (λ other. cond (one == other) None (Some (record { rtp = one; rtcp = other }))) rtcp) rtp)
two_by None rtcp a b = tt
two_by (Some one) None a b = tt
two_by (Some one) (Some other) a b = by (one == other)
  where
    by : (same : Bool) → AreOfBytes (cond same None (Some (record { rtp = one; rtcp = other })))
    by true = tt
    by false = (a, b)

first_by : (rtp : Option ℕ) → IfSome rtp (λ channel. channel < 256) → AreOfBytes (option_and_then (λ one. cond (one == LAST_CHANNEL) None (Some (record { rtp = one; rtcp = one + 1 }))) rtp)
first_by None a = tt
first_by (Some one) a = by (one == LAST_CHANNEL) refl
  where
    by : (last : Bool) → (one == LAST_CHANNEL) ≡ last → AreOfBytes (cond last None (Some (record { rtp = one; rtcp = one + 1 })))
    by true e = tt
    by false e = (a, grind (arith, a, e))

pair_bytes : (value : List ℕ) (cut : Option (List ℕ × List ℕ)) → AreOfBytes (pair_with value cut)
pair_bytes value None = first_by (channel_of value) (channel_byte value)
pair_bytes value (Some parts) = two_by (channel_of parts.0) (channel_of parts.1) (channel_byte parts.0) (channel_byte parts.1)

-- the channels that are wanted
abbrev IsWantedOfBytes : Wanted → Type 0
IsWantedOfBytes Any = Unit {0}
IsWantedOfBytes (Exact pair) = IsOfBytes pair

exact_bytes : (pair : Option Pair) → AreOfBytes pair → IfSome (option_map Exact pair) IsWantedOfBytes
exact_bytes None all = tt
exact_bytes (Some pair) all = all

channels_bytes : (value : Option (Option (List ℕ))) → IfSome (wanted_channels value) IsWantedOfBytes
channels_bytes None = tt
channels_bytes (Some None) = tt
channels_bytes (Some (Some value)) = exact_bytes (pair_or_first value) (pair_bytes value (cut_at hyphen value))

where_bytes : (fits : Bool) (wanted : Option Wanted) → IfSome wanted IsWantedOfBytes → IfSome (cond fits wanted None) IsWantedOfBytes
where_bytes true wanted all = all
where_bytes false wanted all = tt

wanted_bytes : (alternative : List (List ℕ)) → IfSome (wanted_in alternative) IsWantedOfBytes
wanted_bytes [] = tt
wanted_bytes (protocol ∷ parameters) =
    where_bytes ((is_tcp protocol && not (list_any is_multicast parameters)) && mode_fits (value_of (codes "mode") parameters))
    (wanted_channels (value_of (codes "interleaved") parameters)) (channels_bytes (value_of (codes "interleaved") parameters))

either_bytes : (one other : Option Wanted) → IfSome one IsWantedOfBytes → IfSome other IsWantedOfBytes → IfSome (option_or one other) IsWantedOfBytes
either_bytes None other a b = b
either_bytes (Some wanted) other a b = a

fit_bytes : (alternatives : List (List ℕ)) → IfSome (first_fit alternatives) IsWantedOfBytes
fit_bytes [] = tt
fit_bytes (alternative ∷ more) = either_bytes (wanted_in (parameters_of alternative)) (first_fit more) (wanted_bytes (parameters_of alternative)) (fit_bytes more)

ok_bytes : (wanted : Option Wanted) → IfSome wanted IsWantedOfBytes → IfOk (ok_or wanted NoneFits) IsWantedOfBytes
ok_bytes None all = tt
ok_bytes (Some wanted) all = all

read_bytes : (readable : Bool) (value : List ℕ) → IfOk (cond (not readable) (Err Grammar) (ok_or (first_fit (unquoted_parts comma value)) NoneFits)) IsWantedOfBytes
read_bytes true value = ok_bytes (first_fit (unquoted_parts comma value)) (fit_bytes (unquoted_parts comma value))
read_bytes false value = tt

free_or : (taken : Bool) (pair : Pair) → IsOfBytes pair → AreOfBytes (cond taken None (Some pair))
free_or true pair all = tt
free_or false pair all = all

for_bytes : (tracks : List Track) (wanted : Result Wanted TransportFault) → IfOk wanted IsWantedOfBytes → AreOfBytes (pair_for tracks wanted)
for_bytes tracks (Ok Any) all = free_bytes tracks
for_bytes tracks (Ok (Exact pair)) all = free_or (is_taken tracks pair) pair all
for_bytes tracks (Err fault) all = tt

pub client_bytes : (tracks : List Track) (value : Option (List ℕ)) → AreOfBytes (client_pair tracks value)
client_bytes tracks None = tt
client_bytes tracks (Some value) = for_bytes tracks (wanted_of value) (read_bytes (is_readable value) value)
