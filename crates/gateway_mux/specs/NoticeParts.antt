-- A request of the server as it was read, as a history has it (this project's own).
use Rattle.std.specs.Prelude.{ℕ, Result, Ok, Err}
use Rattle.gateway_claim.specs.ServerItems.{HeardNotice}
use Rattle.gateway_mux.specs.declared.notice.Notice.{Notice as Read}
use Rattle.gateway_mux.specs.declared.notice.NoticeRefusal.{NoticeRefusal}
use Rattle.gateway_mux.specs.declared.notice.NoticeRefusal.TheVariants as refusals

-- the code that a request of the server is refused with (RFC 7826, 13.5 and 17.4)
abbrev pub refusal_code : NoticeRefusal → ℕ
refusal_code refusals.Method = 501
refusal_code refusals.Session = 454
refusal_code refusals.NoReason = 400
refusal_code refusals.Reason = 465

-- a notify that was read, or the code that refuses it
abbrev pub notice_seen : Result Read NoticeRefusal → Result HeardNotice ℕ
notice_seen (Ok notice) = Ok (record { conn = notice.conn; id = notice.id.now; reason = notice.reason; names = notice.names })
notice_seen (Err refusal) = Err (refusal_code refusal)
