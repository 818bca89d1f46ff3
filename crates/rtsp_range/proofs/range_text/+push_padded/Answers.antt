use Rattle.std.proofs.Common.{◌++◌, sym, ◌∙◌, ap, arith}
use Rattle.std.proofs.lemmas.List.{append-nil}
use Rattle.std.proofs.lemmas.Result.{on_ok_weaker}
use Rattle.rtsp_range.specs.RangeText.{padded}
use Rattle.rtsp_range.proofs.ZeroLemmas.{padded_more, none_stays}
use Rattle.rtsp_range.proofs.range_text.+push_padded.Goals as goal

pub returns-then-width-eq0 : goal.returns-then-width-eq0
returns-then-width-eq0 t c =
    sym (ap (λ w. c.args.text.now ++ padded w c.args.number) c.if-width-eq0.true ∙ ap (λ p. c.args.text.now ++ p) (none_stays c.args.number) ∙ append-nil c.args.text.now)

pub returns : goal.returns
returns t c =
    on_ok_weaker c.push_slice.result
    (λ last. padded_more c.args.text.now c.push_padded.new.text c.push_slice.new.self c.args.width c.args.number (omega arith) c.in_ok-push_padded.ensures last)
    c.push_slice.ensures.ok
