use Rattle.std.proofs.Common.{Option, None, IfSome, sym, subst}
use Rattle.client_slot.specs.Client.{Client}
use Rattle.client_machine.specs.Plans.{IsReady}
use Rattle.test_transcripts.proofs.trial.Trial.close_seat.Goals as goal

pub commit-done-requires-clause-ready : goal.commit-done-requires-clause-ready
commit-done-requires-clause-ready c = subst (λ (o : Option Client). IfSome o (λ client. IsReady client c.plan_close-plan.result)) (sym c.in_ok-seat.ensures.1) (c.plan_close-plan.ensures.plan c.args.self.now.bases 0 None).ready
