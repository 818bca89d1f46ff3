use Rattle.std.proofs.Common.{◌≡◌, ◌+◌, ◌*◌, ◌≤◌, length}
use Rattle.rtsp_head.specs.Items.{blank_lines}
use Rattle.rtsp_frame.proofs.extent.blank_lines.Given as goal

abbrev pub invariant-loop-left : goal.invariant-loop-left
invariant-loop-left g l = record {
  counted : l.count + blank_lines l.left ≡ blank_lines l.stream;
  whole : l.count + length l.left ≡ length l.stream;
  steps : l.steps ≤ l.fn.steps + 2 * l.count;
}

abbrev pub decreases-loop-left : goal.decreases-loop-left
decreases-loop-left g l = length l.left
