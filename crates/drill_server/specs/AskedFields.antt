-- What a request asks the drill's server (RFC 7826, 7).
use Rattle.std.specs.Prelude.{ℕ, List, [], Option, Some, None, unwrap_or, Result, Ok, Err}
use Rattle.rtsp_head.specs.Headers.{field_of}
use Rattle.rtsp_head.specs.HeadParts.{Start, Request, Status}
use Rattle.rtsp_transport.specs.Grants.{grant_of}
use Rattle.rtsp_transport.specs.declared.fault.TransportFault.{TransportFault}
use Rattle.rtsp_transport.specs.declared.grant.Grant.{Grant}
use Rattle.head_two.specs.declared.ask.Ask2.{Ask2}

-- the URI of a request
abbrev pub uri_asked : Start → List ℕ
uri_asked (Request method uri version) = uri
uri_asked (Status version code reason) = []

-- the value of a field; nothing where it is missing
abbrev pub field_asked : Ask2 → List ℕ → List ℕ
field_asked ask name = unwrap_or (field_of ask.head.headers name) []

-- the first channel of a grant
abbrev pub channel_granted : Result Grant TransportFault → Option ℕ
channel_granted (Ok grant) = Some grant.pair.rtp
channel_granted (Err fault) = None

-- the first channel that a Transport names, where it can be read (RFC 7826, 18.54)
abbrev pub channel_asked : List ℕ → Option ℕ
channel_asked value = channel_granted (grant_of value)
