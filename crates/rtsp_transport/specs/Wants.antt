-- What a player wants.
use Rattle.std.specs.Prelude.{ℕ, Bool, true, false, ◌&&◌, ◌||◌, not, codes, if◌then◌else◌, List, [], ◌∷◌, Option, Some, None, Result, Err, option_map}
use Rattle.std.specs.Option.{option_or, ok_or}
use Rattle.std.specs.List.{list_any}
use Rattle.gate_bytes.specs.Ascii.{comma}
use Rattle.gate_bytes.specs.Tokens.{equal_fold}
use Rattle.rtsp_transport.specs.Splits.{unquoted_parts, is_readable}
use Rattle.rtsp_transport.specs.Parameters.{parameters_of, value_of, is_multicast}
use Rattle.rtsp_transport.specs.Channels.{AreApart, pair_or_first}
use Rattle.rtsp_transport.specs.declared.alternative.Wanted.{Wanted}
use Rattle.rtsp_transport.specs.declared.alternative.Wanted.TheVariants.{Any, Exact}
use Rattle.rtsp_transport.specs.declared.fault.TransportFault.{TransportFault}
use Rattle.rtsp_transport.specs.declared.fault.TransportFault.TheVariants.{Grammar, NoneFits}

-- the channels that are wanted differ, where they are named
abbrev pub NamesApart : Wanted → Type 0
NamesApart Any = Unit {0}
NamesApart (Exact pair) = AreApart pair

-- RTP over the connection itself (RFC 2326, 12.39)
abbrev pub is_tcp : List ℕ → Bool
is_tcp protocol = equal_fold protocol (codes "RTP/AVP/TCP")

-- a mode that is missing, or is `PLAY`, in double quotes or not; one without a value doesn't fit (RFC 2326, 12.39)
abbrev pub mode_fits : Option (Option (List ℕ)) → Bool
mode_fits None = true
mode_fits (Some None) = false
mode_fits (Some (Some mode)) = equal_fold mode (codes "PLAY") || equal_fold mode (codes "\"PLAY\"")

-- the channels that are named, or any; where they have the name and no value the alternative doesn't fit
abbrev pub wanted_channels : Option (Option (List ℕ)) → Option Wanted
wanted_channels None = Some Any
wanted_channels (Some None) = None
wanted_channels (Some (Some value)) = option_map Exact (pair_or_first value)

-- An alternative fits that is RTP over the connection, to one player, for playing, with channels that can
-- be read or with none named (RFC 2326, 12.39; this project's own in what it leaves out).
abbrev pub wanted_in : List (List ℕ) → Option Wanted
wanted_in [] = None
wanted_in (protocol ∷ parameters) =
    if (is_tcp protocol && not (list_any is_multicast parameters)) && mode_fits (value_of (codes "mode") parameters)
    then wanted_channels (value_of (codes "interleaved") parameters) else None

-- what the first alternative wants that fits
abbrev pub first_fit : List (List ℕ) → Option Wanted
first_fit [] = None
first_fit (alternative ∷ more) = option_or (wanted_in (parameters_of alternative)) (first_fit more)

-- what a Transport field with this value wants
abbrev pub wanted_of : List ℕ → Result Wanted TransportFault
wanted_of value = if not (is_readable value) then Err Grammar else ok_or (first_fit (unquoted_parts comma value)) NoneFits
