-- A PLAY that is due is there.
use Rattle.std.proofs.Common.{arith}
use Rattle.client_machine.proofs.SightLemmas.{passes_at, due_first}
use Rattle.client_machine.proofs.onward.due_up.Goals as goal

pub unreachable-requires : goal.unreachable-requires
unreachable-requires c = grind (arith, due_first, passes_at)
