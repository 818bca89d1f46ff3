use Rattle.rtsp_head.specs.Shapes.{shapes}
use Rattle.drill_run.proofs.FramerLemmas.{given_none, given_more}
use Rattle.drill_run.proofs.items.whole_items.Goals as goal

pub loop-item-init : goal.loop-item-init
loop-item-init c = given_none c.args.framer.now c.new-items.result.items c.new-items.ensures.items

pub loop-item-preserved : goal.loop-item-preserved
loop-item-preserved c =
    given_more c.args.framer.now c.loop-item.framer c.next.new.self c.loop-item.items.items c.push.new.self.items c.in-Some.item c.loop-item.invariant c.in-Some.ensures.some c.in_ok-push.ensures.items

pub returns : goal.returns
returns c = λ stream h. (c.in_default.ensures.none stream (shapes c.loop-item.items.items) (c.loop-item.invariant.framed stream h)).1
