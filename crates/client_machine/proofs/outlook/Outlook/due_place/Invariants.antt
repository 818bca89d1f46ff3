-- No place before has one.
use Rattle.std.proofs.Common.{◌≡◌, drop}
use Rattle.client_machine.specs.Sights.{first_sight, has_due_seen, due_seen}
use Rattle.client_machine.specs.Outlooks.{sights_of}
use Rattle.client_machine.proofs.outlook.Outlook.due_place.Given as goal

abbrev pub invariant-loop-place : goal.invariant-loop-place
invariant-loop-place l = first_sight has_due_seen l.place (drop l.place (sights_of l.self)) ≡ due_seen (sights_of l.self)
