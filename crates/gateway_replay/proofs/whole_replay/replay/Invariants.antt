use Rattle.std.proofs.Common.{◌≤◌}
use Rattle.gateway_replay.specs.CoreRecords.{Watches}
use Rattle.gateway_replay.specs.Replays.{IsReplaying}
use Rattle.gateway_replay.proofs.whole_replay.replay.Given as goal

-- what was taken was processed, and no count has fallen
abbrev pub invariant-loop-room : goal.invariant-loop-room
invariant-loop-room g l = record {
  going : IsReplaying (g.M.Core.bases l.fn.core) l.reader l.run.streams (Watches g.M.Core.stands g.M.Core.bases l.run.watched.core l.run.watched.living) l.room (g.S.Source.rest l.fn.source) (g.S.Source.rest l.source) (g.K.Sink.written l.fn.sink) (g.K.Sink.written l.sink);
  source_later : g.S.Source.faults l.fn.source ≤ g.S.Source.faults l.source;
  sink_later : g.K.Sink.faults l.fn.sink ≤ g.K.Sink.faults l.sink;
}

abbrev pub decreases-loop-room : goal.decreases-loop-room
decreases-loop-room g l = l.room
