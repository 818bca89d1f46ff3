-- The first session that is left.
use Rattle.std.proofs.Common.{sym}
use Rattle.client_machine.specs.Outlooks.{sights_of}
use Rattle.client_machine.proofs.PlanLemmas.{is_idle, close_idle}
use Rattle.client_machine.proofs.ends.plan_close.Goals as goal

pub returns-clause-plan : goal.returns-clause-plan
returns-clause-plan c = λ bases next pair.
    close_idle bases next pair c.args.slot.now c.args.why (sights_of c.now.result) c.leave.result c.new-2.result c.still-2.result (sym c.if-not-alive.ensures) (is_idle c.args.slot.now c.if-busy.ensures) c.now.ensures.sights c.leave.ensures
    c.new-2.ensures c.still-2.ensures
