use Rattle.std.proofs.Common.{sym}
use Rattle.gateway_mux.specs.declared.act.Act.TheVariants.{Nothing}
use Rattle.gateway_mux.proofs.MuxLemmas.{plan_over, act_for}
use Rattle.gateway_mux.proofs.mux.Mux.act.Goals as goal

pub returns-then-is_some-clause-act : goal.returns-then-is_some-clause-act
returns-then-is_some-clause-act c = plan_over c.args.self.now.ended c.args.self.now c.args.event.now Nothing (sym c.if-is_some.ensures)

pub returns-clause-act : goal.returns-clause-act
returns-clause-act c =
    act_for c.args.self.now.ended c.args.self.now c.args.event.now c.plan.result (sym c.if-is_some.ensures) c.plan.ensures.act c.plan.ensures.short c.plan.ensures.key
