use Rattle.std.proofs.Common.{subst, sym}
use Rattle.client_machine.specs.declared.parts.Change.{Change}
use Rattle.client_machine.specs.Plans.{IsReadyChange}
use Rattle.client_machine.proofs.parts.PlannedStep.commit.Goals as goal

pub make-close-requires : goal.make-close-requires
make-close-requires c = subst (λ (change : Change). IsReadyChange c.args.slot.now change) (sym c.take.ensures.taken) (c.requires c.args.number).change
