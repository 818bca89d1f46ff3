-- The server's replies as players get them (RFC 2326, 7; RFC 7826, 8). Which headers are handed on, and in which order, is
-- this project's own.
use Rattle.std.specs.Prelude.{ℕ, Bool, true, false, ◌==◌, not, codes, List, [], ◌∷◌, ◌++◌, filter, Option, Some, if◌then◌else◌}
use Rattle.gate_bytes.specs.Tokens.{equal_fold}
use Rattle.rtsp_head.specs.declared.header.Header.{Header}
use Rattle.rtsp_head.specs.Headers.{field_of}
use Rattle.rtsp_head.specs.Messages.{own_fields}
use Rattle.rtsp_small.specs.declared.method.Method.{Method}
use Rattle.rtsp_small.specs.declared.method.Method.TheVariants.{Options}
use Rattle.rtsp_small.specs.Methods.{methods_text}
use Rattle.rtsp_status.specs.Codes.{code_one}
use Rattle.head_one.specs.declared.reply.Reply1.{Reply1}
use Rattle.head_one.specs.Replies.{reply_text}
use Rattle.head_two.specs.declared.reply.Reply2.{Reply2}
use Rattle.session_one.specs.declared.parts.Asked.{Asked}
use Rattle.session_one.specs.Table.{is_success}
use Rattle.rtsp_head.specs.Optional.{header_with, said_where, Field, named, field_headers}
use Rattle.translate_down.specs.Settings.{Setting}
use Rattle.translate_down.specs.Sessions.{session_value, transport_value}
use Rattle.translate_down.specs.Plays.{range_value, scale_value, info_value}
use Rattle.translate_down.specs.Contents.{base_value, type_value, encoding_value, body_told}

-- what the server tells in a reply
pub record Told : Type 0 where
  pub code : ℕ
  pub fields : List Header
  pub body : List ℕ

-- Unsupported is told with 551 (RFC 2326, 12.41)
abbrev pub unsupported_value : Told → Option (List ℕ)
unsupported_value told = said_where (told.code == 551) (field_of told.fields (codes "Unsupported"))

-- a refusal: the code as RTSP 1.0 has it, and no header but the number and what is not supported
abbrev pub refusal_of : Asked → Told → Reply1
refusal_of asked told = record {
  code = code_one told.code;
  cseq = Some asked.cseq;
  headers = header_with (codes "Unsupported") (unsupported_value told);
  body = [];
}

-- whether the reply to this method lists methods
abbrev pub tells_methods : Method → Bool
tells_methods Options = true
tells_methods method = false

-- Public: the methods that the gateway has (RFC 2326, 10.1)
abbrev pub public_value : Method → Option (List ℕ)
public_value method = said_where (tells_methods method) (Some methods_text)

-- the fields of a success that tell of the session
abbrev pub session_fields : Setting → Asked → List Field
session_fields setting asked =
    named (codes "Session") (session_value setting asked)
    ∷ named (codes "Transport") (transport_value setting asked.method)
    ∷ []

-- those that tell of playing
abbrev pub play_fields : Setting → Method → List Header → List Field
play_fields setting method fields =
    named (codes "Range") (range_value method fields)
    ∷ named (codes "Scale") (scale_value method fields)
    ∷ named (codes "RTP-Info") (info_value setting method fields)
    ∷ []

-- those that tell of the body
abbrev pub content_fields : Setting → Method → List Header → List ℕ → List Field
content_fields setting method fields body =
    named (codes "Content-Base") (base_value setting method fields body)
    ∷ named (codes "Content-Type") (type_value method fields body)
    ∷ named (codes "Content-Encoding") (encoding_value method fields body)
    ∷ []

-- The fields of a success in their order, each where it has a value. The number comes before them, and the body's length
-- after them.
abbrev pub success_fields : Setting → Asked → Told → List Field
success_fields setting asked told =
    session_fields setting asked
    ++ play_fields setting asked.method told.fields
    ++ named (codes "Public") (public_value asked.method) ∷ []
    ++ content_fields setting asked.method told.fields told.body

-- a success: always 200
abbrev pub success_of : Setting → Asked → Told → Reply1
success_of setting asked told = record {
  code = 200;
  cseq = Some asked.cseq;
  headers = field_headers (success_fields setting asked told);
  body = body_told setting asked.method told.fields told.body;
}

-- the reply that a player gets
abbrev pub reply_down : Setting → Asked → Told → Reply1
reply_down setting asked told = if is_success told.code then success_of setting asked told else refusal_of asked told

-- its text
abbrev pub reply_text_of : Setting → Asked → Told → List ℕ
reply_text_of setting asked told = reply_text (reply_down setting asked told)

-- what a reply tells, with all its fields
abbrev pub told_whole : Reply2 → Told
told_whole reply = record { code = reply.code; fields = reply.head.headers; body = reply.body }

-- a field other than Transport
abbrev pub is_no_transport : Header → Bool
is_no_transport header = not (equal_fold header.name (codes "Transport"))

-- What a reply tells but for its number, its body's length and its Transport. Those are of the one connection to the
-- server, on which each player has a share of the numbers and the channels.
abbrev pub told_by : Reply2 → Told
told_by reply = record { code = reply.code; fields = filter is_no_transport (own_fields reply.head.headers); body = reply.body }
