-- The end counts, or does not.
use Rattle.std.proofs.Common.{arith}
use Rattle.client_machine.proofs.SightLemmas.{not_ended}
use Rattle.client_machine.proofs.after.ended_at.Goals as goal

pub returns-then-not-ends : goal.returns-then-not-ends
returns-then-not-ends c = grind (arith, not_ended)
