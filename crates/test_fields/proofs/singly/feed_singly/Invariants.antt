use Rattle.std.proofs.Common.{◌≤◌, ◌+◌, ◌*◌, length}
use Rattle.rtsp_frame.specs.Fronts.{unfinished_of}
use Rattle.test_fields.proofs.singly.feed_singly.Given as goal

-- twelve steps pay for each byte that came
abbrev pub invariant-loop-left : goal.invariant-loop-left
invariant-loop-left g l =
    l.steps + 4 * unfinished_of l.framer.rest + 12 * length l.left ≤ l.fn.steps + 4 * unfinished_of l.fn.framer.rest + 12 * length l.stream

abbrev pub decreases-loop-left : goal.decreases-loop-left
decreases-loop-left g l = length l.left
