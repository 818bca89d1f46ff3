-- Each place is tidy, and what is known is short enough.
use Rattle.std.proofs.Common.{arith}
use Rattle.client_machine.proofs.SightLemmas.{tidy_sights, short_is, shown_short, kept_short}
use Rattle.client_machine.proofs.outlook.Outlook.now.Goals as goal

pub invariant_of-result : goal.invariant_of-result
invariant_of-result c = grind (arith, tidy_sights, shown_short, short_is, kept_short)
