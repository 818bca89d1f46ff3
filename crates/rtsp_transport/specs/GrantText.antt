-- How a Transport field is written.
use Rattle.std.specs.Prelude.{ℕ, codes, decimal, List, [], ◌∷◌, ◌++◌, Option, Some, None}
use Rattle.gate_bytes.specs.Ascii.{hyphen}
use Rattle.rtsp_transport.specs.Sources.{source_digits}
use Rattle.rtsp_transport.specs.declared.channels.Pair.{Pair}
use Rattle.rtsp_transport.specs.declared.grant.Grant.{Grant}

-- how a pair of channels is written
abbrev pub pair_text : Pair → List ℕ
pair_text pair = decimal pair.rtp ++ (hyphen ∷ decimal pair.rtcp)

-- how a source is written, where there is one
abbrev pub source_text : Option ℕ → List ℕ
source_text None = []
source_text (Some source) = codes ";ssrc=" ++ source_digits source

-- RTP over the connection to one player, the channels, and the source where there is one (RFC 2326, 12.39;
-- RFC 7826, 18.54)
abbrev pub grant_text : Grant → List ℕ
grant_text grant = codes "RTP/AVP/TCP;unicast;interleaved=" ++ pair_text grant.pair ++ source_text grant.ssrc
