use Rattle.client_ports.specs.Ends.{taken_of, takers_port}
use Rattle.client_ports.specs.Rule.{BeginsIn}
use Rattle.std.proofs.Common.{◌≡◌}
use Rattle.hub_queues.specs.Parcels.{items_in}
use Rattle.hub_queues.proofs.line.next_in_port.Given as goal

abbrev pub invariant-loop : goal.invariant-loop
invariant-loop g l =
    (goal.iterator-loop g).can_next l.iterator' × (goal.iterator-loop g).is_finite l.iterator'
    × (takers_port l.inward ≡ takers_port l.initial.inward) × (items_in (taken_of l.inward) ≡ items_in (taken_of l.initial.inward))
    × BeginsIn (taken_of l.initial.inward) (taken_of l.inward)
