-- What the server grants.
use Rattle.std.specs.Prelude.{ℕ, not, codes, if◌then◌else◌, List, [], ◌∷◌, Option, None, Result, Err, option_map, option_and_then}
use Rattle.std.specs.Option.{ok_or}
use Rattle.gate_bytes.specs.Ascii.{comma}
use Rattle.rtsp_transport.specs.Splits.{unquoted_parts, is_readable}
use Rattle.rtsp_transport.specs.Parameters.{parameters_of, value_of}
use Rattle.rtsp_transport.specs.Channels.{pair_of}
use Rattle.rtsp_transport.specs.Sources.{first_source}
use Rattle.rtsp_transport.specs.Wants.{is_tcp}
use Rattle.rtsp_transport.specs.declared.grant.Grant.{Grant}
use Rattle.rtsp_transport.specs.declared.fault.TransportFault.{TransportFault}
use Rattle.rtsp_transport.specs.declared.fault.TransportFault.TheVariants.{Grammar, NoneFits}

-- RTP over the connection, on channels that the first `interleaved` names; other parameters are ignored (RFC 7826,
-- 18.54)
abbrev pub grant_in : List (List ℕ) → Option Grant
grant_in [] = None
grant_in (protocol ∷ parameters) =
    if is_tcp protocol then option_map (λ pair. record { pair = pair; ssrc = first_source parameters }) (option_and_then (λ value. option_and_then pair_of value) (value_of (codes "interleaved") parameters))
    else None

-- A grant is one alternative.
abbrev pub grant_among : List (List ℕ) → Option Grant
grant_among [] = None
grant_among (alternative ∷ []) = grant_in (parameters_of alternative)
grant_among (alternative ∷ next ∷ more) = None

-- what a Transport field with this value grants
abbrev pub grant_of : List ℕ → Result Grant TransportFault
grant_of value = if not (is_readable value) then Err Grammar else ok_or (grant_among (unquoted_parts comma value)) NoneFits
