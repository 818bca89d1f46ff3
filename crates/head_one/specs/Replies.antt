-- Replies to players (RFC 2326, 7): how they are written, and what reply some bytes are.
use Rattle.std.specs.Prelude.{◌≡◌, ℕ, ◌<◌, ◌^◌, true, not, List, [], ◌++◌, length, Option, Some, None, IfSome, unwrap_or, if◌then◌else◌}
use Rattle.std.specs.Option.{option_and_then}
use Rattle.std.specs.List.{list_all, flat_map}
use Rattle.std.specs.Str.{bytes_eq}
use Rattle.rtsp_head.specs.declared.header.Header.{Header}
use Rattle.rtsp_head.specs.HeadParts.{Start, Request, Status}
use Rattle.rtsp_head.specs.Messages.{number_headers, message_headers, is_added, own_fields, message_text, Message, message, message_of}
use Rattle.rtsp_head.specs.HeadText.{ended, start_text, header_text, CanBeWritten}
use Rattle.rtsp_status.specs.Reasons.{reason_of}
use Rattle.head_one.specs.declared.reply.Reply1.{Reply1}
use Rattle.rtsp_small.specs.declared.cseq.TheConstants.{CSEQ_ONE_DIGITS}
use Rattle.head_one.specs.Refusals.{version_one, client_cseq}

-- the status line with a code (RFC 2326, 7.1)
abbrev pub start_with : ℕ → Start
start_with code = Status version_one code (unwrap_or (reason_of code) [])

-- the status line of a reply
abbrev pub reply_start : Reply1 → Start
reply_start reply = start_with reply.code

-- what stands before the headers of a reply: the status line, and the number where there is one
abbrev pub reply_front : ℕ → Option ℕ → List ℕ
reply_front code cseq = ended (start_text (start_with code)) ++ flat_map (λ header. ended (header_text header)) (number_headers cseq)

-- The status line, the number where there is one, the headers in their order, the length of the body where that has a
-- byte, an empty line, and the body.
abbrev pub reply_text : Reply1 → List ℕ
reply_text reply = message_text (reply_start reply) reply.cseq reply.headers reply.body

-- a reply of RTSP 1.0 that begins so
abbrev pub client_reply_at : Start → List Header → List ℕ → Option Reply1
client_reply_at (Status version code reason) headers body =
    if bytes_eq version version_one then Some (record { code = code; cseq = client_cseq headers; headers = own_fields headers; body = body }) else None
client_reply_at (Request method uri version) headers body = None

-- the reply that a message is: its own headers are all but the number and the body's length
abbrev pub client_reply : Message → Option Reply1
client_reply message = client_reply_at message.head.start message.head.headers message.body

-- the one reply that these bytes are
abbrev pub client_reply_in : List ℕ → Option Reply1
client_reply_in bytes = option_and_then client_reply (message_of bytes)

-- the message that is written of a reply
abbrev pub reply_message : Reply1 → Message
reply_message reply = message (reply_start reply) reply.cseq reply.headers reply.body

-- A reply that can be written and read back: its number has as many digits as that of a request, each of its parts fits
-- into one line, it brings neither a number nor a length of its own, and memory can hold its body.
pub record IsReply (reply : Reply1) : Type 0 where
  pub short : IfSome reply.cseq (λ cseq. cseq < 10 ^ CSEQ_ONE_DIGITS)
  pub writable : CanBeWritten (reply_start reply) (message_headers reply.cseq reply.headers reply.body)
  pub own : list_all (λ header. not (is_added header)) reply.headers ≡ true
  pub held : length reply.body < 2 ^ 64
