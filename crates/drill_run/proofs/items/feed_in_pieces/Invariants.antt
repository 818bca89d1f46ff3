use Rattle.std.proofs.Common.{length}
use Rattle.drill_run.specs.FramerSteps.{FrontFed}
use Rattle.drill_run.proofs.items.feed_in_pieces.Given as goal

abbrev pub invariant-loop-rest : goal.invariant-loop-rest
invariant-loop-rest l = FrontFed l.fn.framer l.framer l.text l.rest

abbrev pub decreases-loop-rest : goal.decreases-loop-rest
decreases-loop-rest l = length l.rest
