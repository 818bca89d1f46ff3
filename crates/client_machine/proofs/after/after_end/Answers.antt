-- Each place stays tidy, and what is known stays short enough.
use Rattle.std.proofs.Common.{arith}
use Rattle.client_machine.proofs.SightLemmas.{ended_tidily, short_is, ended_short, kept_short}
use Rattle.client_machine.proofs.after.after_end.Goals as goal

pub invariant_of-result : goal.invariant_of-result
invariant_of-result c = grind (arith, ended_tidily, ended_short, short_is, kept_short)
