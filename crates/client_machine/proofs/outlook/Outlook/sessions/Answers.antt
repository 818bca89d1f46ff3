-- There are four.
use Rattle.std.proofs.Common.{arith}
use Rattle.client_machine.proofs.SightLemmas.{outlook_length, four_mapped, four_same}
use Rattle.client_machine.proofs.outlook.Outlook.sessions.Goals as goal

pub returns : goal.returns
returns c = λ streams. grind (arith, four_same, four_mapped, outlook_length)
