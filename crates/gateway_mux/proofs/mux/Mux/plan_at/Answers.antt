use Rattle.std.proofs.Common.{sym}
use Rattle.gateway_mux.specs.declared.act.Act.TheVariants.{Nothing}
use Rattle.gateway_mux.proofs.MuxLemmas.{plan_over, plan_for}
use Rattle.gateway_mux.proofs.mux.Mux.plan_at.Goals as goal

pub returns-then-is_some-clause-plan : goal.returns-then-is_some-clause-plan
returns-then-is_some-clause-plan c = plan_over c.args.self.now.ended c.args.self.now c.args.event.now Nothing (sym c.if-is_some.ensures)

pub returns-clause-plan : goal.returns-clause-plan
returns-clause-plan c =
    plan_for c.args.self.now.ended c.args.self.now c.args.event.now c.in_ok-act.act (sym c.if-is_some.ensures) c.in_ok-act.ensures.act c.in_ok-act.ensures.short c.in_ok-act.ensures.key
