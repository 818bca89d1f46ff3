-- Requests to the server: how they are written, and what request some bytes are.
use Rattle.std.specs.Prelude.{◌≡◌, ℕ, ◌<◌, ◌^◌, true, false, not, List, length, Option, Some, None, if◌then◌else◌}
use Rattle.std.specs.Option.{option_and_then, option_map}
use Rattle.std.specs.List.{list_all}
use Rattle.std.specs.Str.{bytes_eq}
use Rattle.rtsp_head.specs.declared.header.Header.{Header}
use Rattle.rtsp_head.specs.HeadParts.{Start, Request, Status}
use Rattle.rtsp_head.specs.Messages.{message_headers, message_text, Message, message, message_of, is_added, own_fields}
use Rattle.rtsp_head.specs.Spellings.{begins_frame}
use Rattle.rtsp_head.specs.HeadText.{CanBeWritten}
use Rattle.rtsp_small.specs.declared.cseq.TheConstants.{CSEQ_TWO_DIGITS}
use Rattle.head_two.specs.declared.request.Request2.{Request2}
use Rattle.head_two.specs.Messages.{version_two, server_cseq}

-- The request line, the number, the headers in their order, the length of the body where that has a byte, an empty
-- line, and the body (RFC 7826, 7).
abbrev pub request_text : ℕ → Request2 → List ℕ
request_text number request = message_text (Request request.method request.uri version_two) (Some number) request.headers request.body

-- a request and its number
pub record Numbered : Type 0 where
  pub number : ℕ
  pub request : Request2

-- a request of RTSP 2.0 that begins so
abbrev pub request_at : Start → List Header → List ℕ → Option Numbered
request_at (Request method uri version) headers body =
    if bytes_eq version version_two
    then option_map (λ number. record { number = number; request = record { method = method; uri = uri; headers = own_fields headers; body = body } }) (server_cseq headers)
    else None
request_at (Status version code reason) headers body = None

-- The request that a message is, with its number apart: its own fields are all but the number and the body's length.
abbrev pub server_request : Message → Option Numbered
server_request message = request_at message.head.start message.head.headers message.body

-- the one request that these bytes are
abbrev pub request_in : List ℕ → Option Numbered
request_in bytes = option_and_then server_request (message_of bytes)

-- the message that is written of a request
abbrev pub request_message : ℕ → Request2 → Message
request_message number request = message (Request request.method request.uri version_two) (Some number) request.headers request.body

-- A request that can be written and read back: its number has as many digits as one may have, it does not begin as a
-- frame does, each of its parts fits into one line, it brings neither a number nor a length of its own, and memory can
-- hold its body.
pub record IsRequest (number : ℕ) (request : Request2) : Type 0 where
  pub short : number < 10 ^ CSEQ_TWO_DIGITS
  pub no_frame : begins_frame request.method ≡ false
  pub held : length request.body < 2 ^ 64
  pub writable : CanBeWritten (Request request.method request.uri version_two) (message_headers (Some number) request.headers request.body)
  pub own : list_all (λ header. not (is_added header)) request.headers ≡ true
