use Rattle.std.proofs.Common.{◌≤◌, ℕ, List, Option}
use Rattle.rtsp_uri.specs.declared.base.Bases.{Bases}
use Rattle.gate_transcript.specs.Reads.{bytes_held}
use Rattle.gateway_replay.specs.CoreRecords.{Watches}
use Rattle.gateway_replay.specs.Replays.{ReplayedSoFar, SomeSoFar}
use Rattle.gateway_replay.proofs.whole_replay.process_entries.Given as goal

-- what was so before is so, with the entries that were processed since
abbrev pub invariant-loop-entry : goal.invariant-loop-entry
invariant-loop-entry g l = record {
  keeps : (bases : Bases) (bytes : List ℕ) (before : Option (List ℕ)) → ReplayedSoFar bases l.fn.reader l.fn.run.streams (Watches g.M.Core.stands g.M.Core.bases l.fn.run.watched.core l.fn.run.watched.living) bytes before (g.K.Sink.written l.fn.sink)
      → ReplayedSoFar bases l.reader l.run.streams (Watches g.M.Core.stands g.M.Core.bases l.run.watched.core l.run.watched.living) bytes before (g.K.Sink.written l.sink);
  some : SomeSoFar l.reader l.run.streams (Watches g.M.Core.stands g.M.Core.bases l.run.watched.core l.run.watched.living) (g.K.Sink.written l.sink);
  later : g.K.Sink.faults l.fn.sink ≤ g.K.Sink.faults l.sink;
}

abbrev pub decreases-loop-entry : goal.decreases-loop-entry
decreases-loop-entry g l = bytes_held l.reader
