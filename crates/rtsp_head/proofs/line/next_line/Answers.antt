use Rattle.std.proofs.Common.{[], ◌∷◌, sym, ◌∙◌, ap, cond}
use Rattle.rtsp_head.specs.Lines.{head_lines}
use Rattle.rtsp_head.proofs.LineLemmas.{lines_apart}
use Rattle.rtsp_head.proofs.PassLemmas.{passed_line}
use Rattle.rtsp_head.proofs.line.next_line.Goals as goal

pub returns-then-is_empty-clause-line : goal.returns-then-is_empty-clause-line
returns-then-is_empty-clause-line c =
    let line = c.first_line-line.result.0 in
    let rest = c.first_line-line.result.1.now in
    lines_apart c.args.bytes.now line rest c.first_line-line.ensures ∙ ap (λ t. cond t [] (line ∷ head_lines rest)) (sym c.is_empty.ensures ∙ c.if-is_empty.true)

pub returns-else-is_empty-clause-line : goal.returns-else-is_empty-clause-line
returns-else-is_empty-clause-line c =
    let line = c.first_line-line.result.0 in
    let rest = c.first_line-line.result.1.now in
    lines_apart c.args.bytes.now line rest c.first_line-line.ensures ∙ ap (λ t. cond t [] (line ∷ head_lines rest)) (sym c.is_empty.ensures ∙ c.if-is_empty.false)

pub returns-else-is_empty-clause-passed : goal.returns-else-is_empty-clause-passed
returns-else-is_empty-clause-passed c =
    passed_line c.args.bytes.now c.first_line-line.result.0 c.first_line-line.result.1.now c.first_line-line.ensures (sym c.is_empty.ensures ∙ c.if-is_empty.false)
