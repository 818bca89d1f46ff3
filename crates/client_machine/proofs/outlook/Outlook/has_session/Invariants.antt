-- No place before has one.
use Rattle.std.proofs.Common.{◌≡◌, drop}
use Rattle.std.specs.Prelude.{is_some}
use Rattle.client_machine.specs.Sights.{first_sight, filled_seen}
use Rattle.client_machine.specs.Outlooks.{sights_of}
use Rattle.client_machine.proofs.outlook.Outlook.has_session.Given as goal

abbrev pub invariant-loop-place : goal.invariant-loop-place
invariant-loop-place l = first_sight (λ seen. is_some seen.id) l.place (drop l.place (sights_of l.self)) ≡ filled_seen (sights_of l.self)
