use Rattle.std.proofs.Common.{◌≡◌}
use Rattle.client_machine.specs.Plans.{without}
use Rattle.client_machine.proofs.commit.take_out.Given as goal

abbrev pub invariant-loop-at : goal.invariant-loop-at
invariant-loop-at l = l.slot ≡ without l._at l.initial.slot
