use Rattle.std.proofs.Common.{◌≡◌, ◌∙◌, [], ◌++◌, ℕ, List, Some, IfOk, subst, ap}
use Rattle.std.specs.Prelude.{codes}
use Rattle.std.specs.Option.{option_copied}
use Rattle.rtsp_head.specs.declared.header.Header.{Header}
use Rattle.head_one.specs.declared.reply.Reply1.{Reply1}
use Rattle.head_one.specs.Replies.{reply_text}
use Rattle.head_two.specs.ServerMessages.{ReplyParts}
use Rattle.rtsp_status.specs.Codes.{code_one}
use Rattle.rtsp_head.specs.Optional.{header_with}
use Rattle.translate_down.specs.Replies.{unsupported_value, refusal_of, told_whole}
use Rattle.translate_down.proofs.reply.refusal.Goals as goal

-- a refusal by its parts
abbrev refusal_with : ℕ → ℕ → List Header → Reply1
refusal_with cseq code headers = record { code = code; cseq = Some cseq; headers = headers; body = [] }

pub returns : goal.returns
returns c =
    let told : c.push_lent.new.self ≡ header_with (codes "Unsupported") (unsupported_value (told_whole c.args.reply.now)) =
    c.in_ok-push_lent.ensures.ok
    ∙ ap (λ (hs : List Header). hs ++ header_with (codes "Unsupported") (option_copied c.unsupported.result)) c.new-headers.ensures
    ∙ ap (header_with (codes "Unsupported")) c.unsupported.ensures in
    let whole : refusal_with c.args.asked.now.cseq c.to_one.result c.push_lent.new.self ≡ refusal_of c.args.asked.now (told_whole c.args.reply.now) =
    ap (λ (n : ℕ). refusal_with c.args.asked.now.cseq n c.push_lent.new.self) (c.to_one.ensures.one ∙ ap (λ (r : ReplyParts). code_one r.code) c.reply.view_is)
    ∙ ap (λ (hs : List Header). refusal_with c.args.asked.now.cseq (code_one c.args.reply.now.code) hs) told in
    subst (λ (reply : Reply1). IfOk c.write_reply.result (λ text. text ≡ reply_text reply)) whole c.write_reply.ensures
