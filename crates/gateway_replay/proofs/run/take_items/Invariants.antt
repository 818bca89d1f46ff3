use Rattle.std.proofs.Common.{◌≤◌}
use Rattle.gateway_replay.specs.Framers.{left_with}
use Rattle.gateway_replay.specs.Runs.{TakesSome}
use Rattle.gateway_replay.specs.CoreRecords.{Watches}
use Rattle.gateway_replay.proofs.run.take_items.Given as goal

-- some items were taken, and the sink's count of faults has not fallen
abbrev pub invariant-loop-next : goal.invariant-loop-next
invariant-loop-next g l = record {
  some : TakesSome l.fn.framer l.framer l.next (Watches g.M.Core.stands g.M.Core.bases l.fn.watched.core l.fn.watched.living) (Watches g.M.Core.stands g.M.Core.bases l.watched.core l.watched.living) l.speaker l.fn.piece (g.K.Sink.written l.fn.sink) (g.K.Sink.written l.sink);
  later : g.K.Sink.faults l.fn.sink ≤ g.K.Sink.faults l.sink;
}

abbrev pub decreases-loop-next : goal.decreases-loop-next
decreases-loop-next g l = left_with l.next l.framer
