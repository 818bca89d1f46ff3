use Rattle.std.proofs.Common.{◌≡◌, length, ap, rules}
use Rattle.rtsp_head.specs.Shapes.{shape_of, shapes}
use Rattle.drill_run.specs.Plays.{Plays}
use Rattle.drill_run.proofs.PlayLemmas.{first_none, first_more, first_all, no_shapes}
use Rattle.drill_run.proofs.drill_core.Drill.take_items.Goals as goal

pub loop-item-init : goal.loop-item-init
loop-item-init g c = λ between.
    first_none (Plays g.M.Core.stands g.M.Core.bases c.args.self.now.core c.args.self.now.stage between) c.args.who (shapes c.args.items.items) _ (ap shapes c.into_iter-item-iterator.ensures.into_iter_gives.0)

pub loop-item-preserved : goal.loop-item-preserved
loop-item-preserved g c = λ between.
    first_more (Plays g.M.Core.stands g.M.Core.bases c.args.self.now.core c.args.self.now.stage between) (Plays g.M.Core.stands g.M.Core.bases c.loop-item.self.core c.loop-item.self.stage between)
    (Plays g.M.Core.stands g.M.Core.bases c.take.new.self.core c.take.new.self.stage between) c.args.who (shapes c.args.items.items) (shapes c.loop-item.item-iterator.rest.items)
    (shapes c.next.new.self.rest.items) (shape_of c.in-Some.item) _ (c.loop-item.invariant between) (ap shapes c.in-Some.ensures.steps.0) c.event_of.ensures (c.in_ok-take.ensures between)

pub returns : goal.returns
returns g c = λ between.
    let none : length c.loop-item.item-iterator.rest.items ≡ 0 = search rules in
    first_all (Plays g.M.Core.stands g.M.Core.bases c.args.self.now.core c.args.self.now.stage between) (Plays g.M.Core.stands g.M.Core.bases c.loop-item.self.core c.loop-item.self.stage between)
    c.args.who (shapes c.args.items.items) (shapes c.loop-item.item-iterator.rest.items) (c.loop-item.invariant between) (no_shapes c.loop-item.item-iterator.rest.items none)
