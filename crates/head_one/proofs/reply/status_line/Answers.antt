use Rattle.std.proofs.Common.{◌++◌, codes, sym, ◌∙◌, ap}
use Rattle.std.specs.Fmt.{digits}
use Rattle.rtsp_head.specs.HeadText.{ended, start_text}
use Rattle.head_one.specs.Replies.{start_with}
use Rattle.head_one.proofs.reply.status_line.Goals as goal

pub returns-then-code-eq-SUCCESS : goal.returns-then-code-eq-SUCCESS
unfolding digits
returns-then-code-eq-SUCCESS c =
    c.in_ok-push_slice.ensures.ok
    ∙ ap (λ text. text ++ codes "RTSP/1.0 200 OK\r\n") c.in_ok-text.ensures
    ∙ ap (λ code. ended (start_text (start_with code))) (sym c.if-code-eq-SUCCESS.true)
