use Rattle.std.proofs.Common.{◌≡◌, ◌≤◌}
use Rattle.client_ports.specs.Ends.{takers_port, taken_of, told_of}
use Rattle.gateway_links.specs.Turns.{Forwards}
use Rattle.gateway_links.proofs.ends.gather_more.Given as goal

-- the parcels taken so far were gathered, and no fault was met
abbrev pub invariant-loop : goal.invariant-loop
invariant-loop g l = (takers_port l.taker ≡ takers_port l.fn.taker) × (told_of l.taker ≡ told_of l.fn.taker)
    × Forwards (g.O.Sink.written l.fn.outlet) (g.O.Sink.written l.outlet) (taken_of l.fn.taker) (taken_of l.taker) l.fn.held l.held
    × (g.O.Sink.faults l.fn.outlet ≤ g.O.Sink.faults l.outlet)
