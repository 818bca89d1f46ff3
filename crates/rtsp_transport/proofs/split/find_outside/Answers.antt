use Rattle.std.proofs.Common.{sym, ◌∙◌}
use Rattle.rtsp_transport.proofs.PlaceLemmas.{none_outside, first_outside}
use Rattle.rtsp_transport.proofs.split.find_outside.Goals as goal

pub returns-in_err-at-clause-place : goal.returns-in_err-at-clause-place
returns-in_err-at-clause-place c = c.from_residual.ensures ∙ sym (none_outside c.args.byte c.args.text.now c.in_err-at.ensures)

pub returns-then-text-at-clause-place : goal.returns-then-text-at-clause-place
returns-then-text-at-clause-place c = sym (first_outside c.args.byte c.args.text.now c.in_ok-at.at c.in_ok-at.ensures c.if-text-at.true)
