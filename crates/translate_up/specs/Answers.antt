-- What the gateway answers by itself (RFC 2326, 7).
use Rattle.std.specs.Prelude.{◌≡◌, ℕ, true, codes, List, [], ◌++◌, Option, Some}
use Rattle.rtsp_head.specs.declared.header.Header.{Header}
use Rattle.rtsp_head.specs.Optional.{header_with}
use Rattle.rtsp_small.specs.Methods.{methods_text}
use Rattle.rtsp_status.specs.Reasons.{has_reason}
use Rattle.head_one.specs.declared.refusal.Refusal.{Refusal}
use Rattle.head_one.specs.Replies.{reply_text}

-- the answer with this code, and the fields beside the number
abbrev pub own_answer : ℕ → Option ℕ → List Header → List ℕ
own_answer code cseq headers = reply_text (record { code = code; cseq = cseq; headers = headers; body = [] })

-- A refusal tells the number where it could be read, and with 551 what is not supported (RFC 2326, 12.41).
abbrev pub refusal_text : Refusal → List ℕ
refusal_text refusal = own_answer refusal.code refusal.cseq (header_with (codes "Unsupported") refusal.unsupported)

-- the code of a refusal has a reason
abbrev pub HasReason : Refusal → Type 0
HasReason refusal = has_reason refusal.code ≡ true

-- the answer to OPTIONS: the methods that the gateway has (RFC 2326, 12.28)
abbrev pub options_text : ℕ → List ℕ
options_text cseq = own_answer 200 (Some cseq) (header_with (codes "Public") (Some methods_text))

-- the answer to a PLAY while streams play: the session, and the range where one will be played
abbrev pub play_text : ℕ → Option (List ℕ) → Option (List ℕ) → List ℕ
play_text cseq session range = own_answer 200 (Some cseq) (header_with (codes "Session") session ++ header_with (codes "Range") range)
