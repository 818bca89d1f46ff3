-- One place after another.
use Rattle.std.proofs.Common.{arith}
use Rattle.client_machine.proofs.SightLemmas.{outlook_length, next_sight, here_sight, none_sight, copied_some}
use Rattle.client_machine.proofs.outlook.Outlook.has_session.Goals as goal

pub returns-then-is_some : goal.returns-then-is_some
returns-then-is_some c = grind (arith, here_sight, outlook_length, copied_some)

pub loop-place-preserved : goal.loop-place-preserved
loop-place-preserved c = grind (arith, next_sight, outlook_length, copied_some)

pub returns : goal.returns
returns c = grind (arith, none_sight, outlook_length)
