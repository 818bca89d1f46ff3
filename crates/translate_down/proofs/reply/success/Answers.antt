use Rattle.std.proofs.Common.{◌∙◌, [], ◌++◌, ℕ, List, Some, ap}
use Rattle.std.specs.List.{flat_map}
use Rattle.rtsp_head.specs.declared.header.Header.{Header}
use Rattle.rtsp_head.specs.HeadText.{ended, header_text}
use Rattle.rtsp_head.specs.Messages.{length_headers}
use Rattle.rtsp_head.specs.Optional.{field_headers, field_lines}
use Rattle.head_one.specs.Replies.{reply_text}
use Rattle.head_one.proofs.LineLemmas.{reply_by_lines}
use Rattle.translate_down.specs.Settings.{setting_of}
use Rattle.translate_down.specs.Replies.{success_fields, told_whole}
use Rattle.translate_down.proofs.reply.success.Goals as goal

pub returns : goal.returns
returns c =
    let fields = success_fields (setting_of c.args.context.now) c.args.asked.now (told_whole c.args.reply.now) in
    let body = c.as_bytes-bytes.result.now in
    c.in_ok-push_end.ensures.ok
    ∙ ap (λ (front : List ℕ). front ++ flat_map (λ (header : Header). ended (header_text header)) (length_headers body) ++ ended [] ++ body)
    (c.in_ok-push_fields.ensures ∙ ap (λ (front : List ℕ). front ++ field_lines fields) c.in_ok-text.ensures)
    ∙ reply_by_lines 200 (Some c.args.asked.now.cseq) fields body
    ∙ ap (λ (told : List ℕ). reply_text (record { code = 200; cseq = Some c.args.asked.now.cseq; headers = field_headers fields; body = told }))
    (c.as_bytes-bytes.ensures ∙ c.in_ok-body.ensures)
