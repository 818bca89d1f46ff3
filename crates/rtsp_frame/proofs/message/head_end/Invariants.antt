use Rattle.std.proofs.Common.{◌+◌, ◌*◌, ◌-◌, ◌≤◌, length}
use Rattle.rtsp_frame.specs.Fronts.{IsLineTo}
use Rattle.rtsp_frame.proofs.message.head_end.Given as goal

abbrev pub invariant-loop-end : goal.invariant-loop-end
invariant-loop-end g l = record {
  reached : IsLineTo l.bytes l.begin l.from;
  further : l.fn.searched ≤ l.from;
  steps : l.steps + 2 * l.fn.searched ≤ l.fn.steps + 2 * l.from;
  lines : 2 * l.steps + 2 * l.fn.searched + l.line ≤ 2 * l.fn.steps + 2 * l.from + l.begin;
}

abbrev pub decreases-loop-end : goal.decreases-loop-end
decreases-loop-end g l = length l.bytes - l.from
