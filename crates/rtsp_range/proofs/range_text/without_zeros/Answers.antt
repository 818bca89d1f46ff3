use Rattle.std.proofs.Common.{sym, ◌∙◌, arith}
use Rattle.rtsp_range.proofs.ZeroLemmas.{zero_goes, digit_stays, none_at}
use Rattle.rtsp_range.proofs.range_text.without_zeros.Goals as goal

pub loop-width-preserved : goal.loop-width-preserved
loop-width-preserved c = zero_goes c.loop-width.width c.loop-width.number c.loop-width-test.true c.if-number-eq0.true ∙ c.loop-width.invariant

pub returns-else-number-eq0 : goal.returns-else-number-eq0
returns-else-number-eq0 c = sym (digit_stays c.loop-width.width c.loop-width.number c.loop-width-test.true (omega arith)) ∙ c.loop-width.invariant

pub returns-after-loop-width : goal.returns-after-loop-width
returns-after-loop-width c = none_at c.loop-width.width c.loop-width.number (omega arith) ∙ c.loop-width.invariant
