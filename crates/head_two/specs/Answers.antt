-- Answers to requests of the server (RFC 7826, 8).
use Rattle.std.specs.Prelude.{ℕ, ◌==◌, codes, List, [], Option, Some, None, unwrap_or, if◌then◌else◌}
use Rattle.std.specs.Option.{option_and_then, option_map}
use Rattle.std.specs.Str.{bytes_eq}
use Rattle.rtsp_head.specs.declared.header.Header.{Header}
use Rattle.rtsp_head.specs.HeadParts.{Start, Request, Status}
use Rattle.rtsp_head.specs.Messages.{message_text, Message, message, message_of, own_fields}
use Rattle.rtsp_head.specs.Optional.{header_with}
use Rattle.rtsp_status.specs.Reasons.{reason_of}
use Rattle.head_two.specs.Messages.{version_two, server_cseq}

-- the session that an answer names, where there is one (RFC 7826, 18.49)
abbrev pub answer_session : Option (List ℕ) → List Header
answer_session session = header_with (codes "Session") session

-- A refusal names no session (this project's own).
abbrev pub answer_headers : ℕ → Option (List ℕ) → List Header
answer_headers code session = if code == 200 then answer_session session else []

-- The status line, the number, and the session where it is a success.
abbrev pub answer_text : ℕ → ℕ → Option (List ℕ) → List ℕ
answer_text code cseq session = message_text (Status version_two code (unwrap_or (reason_of code) [])) (Some cseq) (answer_headers code session) []

-- an answer: its code, its number, and its other fields
pub record AnswerParts : Type 0 where
  pub code : ℕ
  pub cseq : ℕ
  pub fields : List Header

-- an answer of RTSP 2.0 that begins so
abbrev pub answer_at : Start → List Header → Option AnswerParts
answer_at (Status version code reason) headers =
    if bytes_eq version version_two then option_map (λ cseq. record { code = code; cseq = cseq; fields = own_fields headers }) (server_cseq headers) else None
answer_at (Request method uri version) headers = None

-- the answer that a message is
abbrev pub server_answer : Message → Option AnswerParts
server_answer message = answer_at message.head.start message.head.headers

-- the one answer that these bytes are
abbrev pub answer_in : List ℕ → Option AnswerParts
answer_in bytes = option_and_then server_answer (message_of bytes)

-- the message that is written of an answer
abbrev pub answer_message : ℕ → ℕ → Option (List ℕ) → Message
answer_message code cseq session = message (Status version_two code (unwrap_or (reason_of code) [])) (Some cseq) (answer_headers code session) []
