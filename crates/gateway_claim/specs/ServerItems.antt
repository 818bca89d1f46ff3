-- What the server says (RFC 7826, 7, 8 and 14), as the gateway takes it, and what its requests are answered (13.5).
-- PLAY_NOTIFY is the only one that is taken. The order of the refusals is this project's own.
use Rattle.std.specs.Prelude.{ℕ, List, Result, Ok, Err, codes, Option, Some, None, if◌then◌else◌}
use Rattle.rtsp_head.specs.Items.{Shape}
use Rattle.rtsp_head.specs.declared.item.ItemKind.{ItemKind}
use Rattle.rtsp_head.specs.declared.item.ItemKind.TheVariants.{Request, Response, Frame, Bad}
use Rattle.head_two.specs.declared.fault.TwoFault.{TwoFault}
use Rattle.head_two.specs.declared.fault.TwoFault.TheVariants as two
use Rattle.head_two.specs.declared.reply.Reply2.{Reply2}
use Rattle.head_two.specs.declared.ask.Ask2.{Ask2}
use Rattle.head_two.specs.Replies.{reply_of_item, ask_of_item}
use Rattle.client_machine.specs.Frames.{channel_in, behind_channel}
use Rattle.gateway_claim.specs.declared.event.FramingFault.{FramingFault}
use Rattle.gateway_claim.specs.declared.event.FramingFault.TheVariants as framing
use Rattle.std.specs.Option.{option_and_then, option_map}
use Rattle.std.specs.Str.{bytes_eq}
use Rattle.rtsp_head.specs.Headers.{field_of}
use Rattle.rtsp_small.specs.declared.notify.NotifyReason.{NotifyReason}
use Rattle.rtsp_small.specs.Notices.{notify_reason_of}
use Rattle.rtsp_small.specs.Sessions.{session_of}
use Rattle.head_two.specs.Answers.{answer_text}
use Rattle.session_two.specs.declared.names.Names.{Names}
use Rattle.session_two.specs.Ends.{names_in}

-- a reply, a request, a frame with its channel and all behind it, or what can't be taken
pub data Heard : Type 0 where
  replies : (reply : Reply2) → Heard
  requests : (request : Ask2) → Heard
  frames : (channel : ℕ) → (rest : List ℕ) → Heard
  faults : (fault : FramingFault) → Heard

-- why a message of the server can't be taken
abbrev pub framing_of : TwoFault → FramingFault
framing_of two.Version = framing.Version
framing_of two.Cseq = framing.Cseq
framing_of two.Memory = framing.Version

-- a reply that is read, or why it can't be
abbrev pub heard_reply : Result Reply2 TwoFault → Heard
heard_reply (Ok reply) = replies reply
heard_reply (Err fault) = faults (framing_of fault)

-- a request of the server that is read, or why it can't be
abbrev pub heard_ask : Result Ask2 TwoFault → Heard
heard_ask (Ok request) = requests request
heard_ask (Err fault) = faults (framing_of fault)

-- an item of the server, by its kind
abbrev pub heard_at : ItemKind → Shape → Heard
heard_at Request shape = heard_ask (ask_of_item shape)
heard_at Response shape = heard_reply (reply_of_item shape)
heard_at Frame shape = frames (channel_in shape) (behind_channel shape)
heard_at (Bad kind) shape = faults (framing.Bad kind)

-- what an item of the server says
abbrev pub heard : Shape → Heard
heard shape = heard_at shape.kind shape

-- a notify of a session, the connection that holds it, why it comes, and the request that it names
pub record HeardNotice : Type 0 where
  pub conn : ℕ
  pub id : List ℕ
  pub reason : NotifyReason
  pub names : Names

-- the session that the server's request names
abbrev pub session_named : Ask2 → Option (List ℕ)
session_named request = option_map (λ session. session.id) (option_and_then session_of (field_of request.head.headers (codes "Session")))

-- a notify with a known reason; else 465
abbrev pub known_reason : Ask2 → List ℕ → ℕ → Option NotifyReason → Result HeardNotice ℕ
known_reason request id conn None = Err 465
known_reason request id conn (Some reason) = Ok (record { conn = conn; id = id; reason = reason; names = names_in (field_of request.head.headers (codes "Request-Status")) })

-- a notify that says a reason; else 400
abbrev pub said_reason : Ask2 → List ℕ → ℕ → Option (List ℕ) → Result HeardNotice ℕ
said_reason request id conn None = Err 400
said_reason request id conn (Some value) = known_reason request id conn (notify_reason_of value)

-- a notify for a session that somebody has; else 454
abbrev pub held_session : Ask2 → List ℕ → Option ℕ → Result HeardNotice ℕ
held_session request id None = Err 454
held_session request id (Some conn) = said_reason request id conn (field_of request.head.headers (codes "Notify-Reason"))

-- a notify that names a session; else 454
abbrev pub named_session : (List ℕ → Option ℕ) → Ask2 → Option (List ℕ) → Result HeardNotice ℕ
named_session holder request None = Err 454
named_session holder request (Some id) = held_session request id (holder id)

-- what a request of the server tells, or the code with which it is refused; by who holds each session
abbrev pub notice_of : (List ℕ → Option ℕ) → Ask2 → Result HeardNotice ℕ
notice_of holder request = if bytes_eq request.method (codes "PLAY_NOTIFY") then named_session holder request (session_named request) else Err 501

-- the answer to it
abbrev pub answer_to : Ask2 → Result HeardNotice ℕ → List ℕ
answer_to request (Ok notice) = answer_text 200 request.cseq (Some notice.id)
answer_to request (Err code) = answer_text code request.cseq None
