use Rattle.std.proofs.Common.{◌≤◌, ◌+◌, length}
use Rattle.rtsp_frame.specs.StreamFronts.{IsStreamFront, IsMarkedFront, owed}
use Rattle.rtsp_frame.proofs.CutStepLemmas.{Cutting}
use Rattle.rtsp_frame.proofs.cut_items.cut_on.Given as goal

abbrev pub invariant-items : goal.invariant-items
invariant-items g l = record {
  cutting : Cutting l.fn.queue.waiting.items l.queue.waiting.items l.bytes l.left l.used;
  next : IsStreamFront l.left l.next;
  marks : IsMarkedFront l.left l.next l.marks;
  steps : l.steps + owed l.next (length l.left) ≤ l.fn.steps + owed l.fn.first (length l.bytes);
}

abbrev pub decreases-items : goal.decreases-items
decreases-items g l = length l.left
