-- Requests as they go up (RFC 7826, 13 and 18).
use Rattle.std.specs.Prelude.{ℕ, suc, Bool, ◌&&◌, not, ◌==◌, codes, List, [], ◌∷◌, ◌++◌, length, Option, Some, None, unwrap_or, option_map, if◌then◌else◌}
use Rattle.std.specs.List.{filter}
use Rattle.std.specs.Str.{bytes_eq}
use Rattle.gate_bytes.specs.Tokens.{equal_fold}
use Rattle.rtsp_head.specs.declared.header.Header.{Header}
use Rattle.rtsp_head.specs.Optional.{said_where, Field, named, field_headers}
use Rattle.rtsp_small.specs.declared.method.Method.{Method}
use Rattle.rtsp_small.specs.declared.method.Method.TheVariants.{Options, Describe, Setup, Play, Pause, Teardown, GetParameter, SetParameter}
use Rattle.rtsp_small.specs.Methods.{method_name}
use Rattle.rtsp_range.specs.declared.range.Range.{Range}
use Rattle.rtsp_range.specs.RangeText.{range_text}
use Rattle.rtsp_transport.specs.declared.channels.Pair.{Pair}
use Rattle.rtsp_transport.specs.GrantText.{grant_text}
use Rattle.rtsp_uri.specs.Swaps.{swapped}
use Rattle.head_one.specs.declared.request.Request1.{Request1}
use Rattle.head_two.specs.declared.request.Request2.{Request2}
use Rattle.session_one.specs.declared.parts.Asked.{Asked}
use Rattle.translate_up.specs.Views.{Judged}
use Rattle.translate_up.specs.Fields.{field, Said, is_describe, is_setup, is_play, is_named, brings_body_up, scale_of}

-- The URI with the server's authority in the place of the gateway's. What is asked of the server itself is asked of what
-- the session is about, or else of what was described, where one of them is known (this project's own).
abbrev pub uri_up : Judged → List ℕ → List ℕ
uri_up judged uri = if bytes_eq uri (codes "*") then unwrap_or judged.control (codes "*") else swapped judged.front judged.up uri

-- OPTIONS for a session goes up as a SET_PARAMETER that sets nothing, which keeps the session alive (this project's own).
abbrev pub method_up : Method → Method
method_up Options = SetParameter
method_up Describe = Describe
method_up Setup = Setup
method_up Play = Play
method_up Pause = Pause
method_up Teardown = Teardown
method_up GetParameter = GetParameter
method_up SetParameter = SetParameter

-- the session, where the request names it (RFC 7826, 18.49): its id alone
abbrev pub session_said : Judged → Said → Option (List ℕ)
session_said judged said = said_where (is_named said) judged.session

-- the formats of times that players read (RFC 7826, 18.5)
abbrev pub units : List ℕ
units = codes "npt, smpte, smpte-30-drop, smpte-25, clock"

-- a method that brings a body, and a body
abbrev pub has_body_up : Request1 → Bool
has_body_up request = brings_body_up request.method && not (length request.body == 0)

-- the fields of the session and of what is asked for
abbrev pub asked_fields : Judged → Request1 → Said → List Field
asked_fields judged request said =
    named (codes "Session") (session_said judged said)
    ∷ named (codes "Accept") (said_where (is_describe request.method) (field request (codes "Accept")))
    ∷ named (codes "Accept-Ranges") (said_where (is_setup request.method) (Some units))
    ∷ []

-- the fields of what is to be played
abbrev pub played_fields : Request1 → Option Range → List Field
played_fields request range =
    named (codes "Range") (option_map range_text range)
    ∷ named (codes "Scale") (said_where (is_play request.method) (scale_of request))
    ∷ []

-- the fields of the body
abbrev pub body_fields : Request1 → List Field
body_fields request =
    named (codes "Content-Type") (said_where (has_body_up request) (field request (codes "Content-Type")))
    ∷ named (codes "Content-Encoding") (said_where (has_body_up request) (field request (codes "Content-Encoding")))
    ∷ []

-- The fields of a request that goes up, in their order, each where it is said; the range stands in the one form that both
-- versions read. Nothing else of a request goes up.
abbrev pub fields_up : Judged → Request1 → Said → Option Range → List Field
fields_up judged request said range = asked_fields judged request said ++ (played_fields request range ++ body_fields request)

-- a request as it goes up with its range, without its number, and a SETUP without its channels
abbrev pub request_up : Judged → Request1 → Said → List ℕ → Option Range → Request2
request_up judged request said uri range = record {
  method = method_name (method_up request.method);
  uri = uri;
  headers = field_headers (fields_up judged request said range);
  body = if has_body_up request then request.body else [];
}

-- what is kept of a request that goes up
abbrev pub asked_of : Judged → Request1 → Said → List ℕ → Asked
asked_of judged request said uri = record { method = request.method; cseq = request.cseq; named = is_named said; uri = uri; place = judged.place }

-- the header with a pair of channels (RFC 7826, 18.54)
abbrev pub transport_header : Pair → Header
transport_header pair = record { name = codes "Transport"; value = grant_text (record { pair = pair; ssrc = None }) }

-- the place of the formats of times, or else the end
abbrev pub transport_place : List Header → ℕ
transport_place [] = 0
transport_place (header ∷ headers) = if bytes_eq header.name (codes "Accept-Ranges") then 0 else suc (transport_place headers)

-- The channels stand before the formats of times (this project's own).
abbrev pub headers_with_transport : Pair → List Header → List Header
headers_with_transport pair [] = transport_header pair ∷ []
headers_with_transport pair (header ∷ headers) =
    if bytes_eq header.name (codes "Accept-Ranges") then transport_header pair ∷ header ∷ headers else header ∷ headers_with_transport pair headers

-- a SETUP with its channels
abbrev pub with_transport : Pair → Request2 → Request2
with_transport pair request = record { method = request.method; uri = request.uri; headers = headers_with_transport pair request.headers; body = request.body }

-- a header without channels
abbrev pub is_other : Header → Bool
is_other header = not (equal_fold header.name (codes "Transport"))

-- headers without those that have channels
abbrev pub without_transport : List Header → List Header
without_transport headers = filter is_other headers
