use Rattle.rtsp_head.specs.Shapes.{shapes}
use Rattle.rtsp_uri.specs.declared.base.Bases.{Bases}
use Rattle.drill_run.specs.Plays.{Plays, DrivesFirst}
use Rattle.drill_run.proofs.drill_core.Drill.take_items.Given as goal

-- the items so far were taken
abbrev pub invariant-loop-item : goal.invariant-loop-item
invariant-loop-item g l = (between : Bases) → DrivesFirst (Plays g.M.Core.stands g.M.Core.bases l.fn.self.core l.fn.self.stage between)
    (Plays g.M.Core.stands g.M.Core.bases l.self.core l.self.stage between) l.who (shapes l.fn.items.items) (shapes l.item-iterator.rest.items)
