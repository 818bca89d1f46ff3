-- One place after another.
use Rattle.std.proofs.Common.{arith}
use Rattle.client_machine.proofs.SightLemmas.{outlook_length, next_sight, here_sight, none_sight}
use Rattle.client_machine.proofs.outlook.Outlook.due_place.Goals as goal

pub returns-then-has_due-clause-place : goal.returns-then-has_due-clause-place
returns-then-has_due-clause-place c = grind (arith, here_sight, outlook_length)

pub loop-place-preserved : goal.loop-place-preserved
loop-place-preserved c = grind (arith, next_sight, outlook_length)

pub returns-clause-place : goal.returns-clause-place
returns-clause-place c = grind (arith, none_sight, outlook_length)
