use Rattle.std.proofs.Common.{◌≤◌}
use Rattle.gateway_replay.specs.Alive.{how_many_live}
use Rattle.gateway_replay.specs.CoreRecords.{ClosesSoFar}
use Rattle.gateway_replay.proofs.outcomes.write_ends.Given as goal

-- the closes of the first of them were written, and the sink's count of faults has not fallen
abbrev pub invariant-loop-conn : goal.invariant-loop-conn
invariant-loop-conn g l = record {
  so_far : ClosesSoFar l.fn.living l.living (g.K.Sink.written l.fn.sink) (g.K.Sink.written l.sink);
  later : g.K.Sink.faults l.fn.sink ≤ g.K.Sink.faults l.sink;
}

abbrev pub decreases-loop-conn : goal.decreases-loop-conn
decreases-loop-conn g l = how_many_live l.living
