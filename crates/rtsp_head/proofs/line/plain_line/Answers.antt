use Rattle.std.proofs.Common.{[], ◌∷◌, sym, ◌∙◌, ap, cond}
use Rattle.rtsp_head.specs.Lines.{head_lines}
use Rattle.rtsp_head.proofs.LineLemmas.{lines_apart}
use Rattle.rtsp_head.proofs.line.plain_line.Goals as goal

pub returns-then-is_empty-clause-line : goal.returns-then-is_empty-clause-line
returns-then-is_empty-clause-line c =
    let line = c.plain_first.result.0.now in
    let rest = c.plain_first.result.1.now in
    lines_apart c.args.bytes.now line rest c.plain_first.ensures ∙ ap (λ t. cond t [] (line ∷ head_lines rest)) (sym c.is_empty.ensures ∙ c.if-is_empty.true)

pub returns-else-is_empty-clause-line : goal.returns-else-is_empty-clause-line
returns-else-is_empty-clause-line c =
    let line = c.plain_first.result.0.now in
    let rest = c.plain_first.result.1.now in
    lines_apart c.args.bytes.now line rest c.plain_first.ensures ∙ ap (λ t. cond t [] (line ∷ head_lines rest)) (sym c.is_empty.ensures ∙ c.if-is_empty.false)
