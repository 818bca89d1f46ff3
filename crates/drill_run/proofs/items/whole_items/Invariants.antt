use Rattle.std.proofs.Common.{length}
use Rattle.rtsp_head.specs.Shapes.{shapes}
use Rattle.drill_run.specs.FramerSteps.{HasGiven}
use Rattle.drill_run.proofs.items.whole_items.Given as goal

abbrev pub invariant-loop-item : goal.invariant-loop-item
invariant-loop-item l = HasGiven l.fn.framer l.framer (shapes l.items.items)

abbrev pub decreases-loop-item : goal.decreases-loop-item
decreases-loop-item l = length l.framer.waiting
