-- The server's replies and its own requests (RFC 7826, 7 and 8).
use Rattle.std.specs.Prelude.{ℕ, List, take, drop, Result, Ok, Err}
use Rattle.rtsp_head.specs.Heads.{head_of}
use Rattle.rtsp_head.specs.Items.{Shape}
use Rattle.rtsp_head.specs.Lines.{result_map}
use Rattle.rtsp_head.specs.declared.head.Head.{Head}
use Rattle.rtsp_head.specs.HeadParts.{Start, Request, Status}
use Rattle.rtsp_head.specs.declared.fault.HeadFault.{HeadFault}
use Rattle.head_two.specs.declared.fault.TwoFault.{TwoFault}
use Rattle.head_two.specs.declared.fault.TwoFault.TheVariants.{Version}
use Rattle.head_two.specs.declared.reply.Reply2.{Reply2}
use Rattle.head_two.specs.declared.ask.Ask2.{Ask2}
use Rattle.head_two.specs.Messages.{checked_cseq}

-- a reply: its code, its number, its head and its body; a head without a status line names no version
abbrev pub reply_at_start : Start → Head → List ℕ → Result Reply2 TwoFault
reply_at_start (Status version code reason) head body = result_map (λ cseq. record { code = code; cseq = cseq; head = head; body = body }) (checked_cseq version head.headers)
reply_at_start (Request method uri version) head body = Err Version

-- a reply with this head, or why it can't be read
abbrev pub reply_of_head : Result Head HeadFault → List ℕ → Result Reply2 TwoFault
reply_of_head (Ok head) body = reply_at_start head.start head body
reply_of_head (Err fault) body = Err Version

-- the reply that an item is
abbrev pub reply_of_item : Shape → Result Reply2 TwoFault
reply_of_item shape = reply_of_head (head_of (take shape.head shape.bytes)) (drop shape.head shape.bytes)

-- a request of the server: its method, its number and its head
abbrev pub ask_at_start : Start → Head → Result Ask2 TwoFault
ask_at_start (Request method uri version) head = result_map (λ cseq. record { method = method; cseq = cseq; head = head }) (checked_cseq version head.headers)
ask_at_start (Status version code reason) head = Err Version

-- a request of the server with this head, or why it can't be read
abbrev pub ask_of_head : Result Head HeadFault → Result Ask2 TwoFault
ask_of_head (Ok head) = ask_at_start head.start head
ask_of_head (Err fault) = Err Version

-- the request that an item is
abbrev pub ask_of_item : Shape → Result Ask2 TwoFault
ask_of_item shape = ask_of_head (head_of (take shape.head shape.bytes))
