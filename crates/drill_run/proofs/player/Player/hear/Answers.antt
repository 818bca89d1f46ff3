use Rattle.drill_run.proofs.ReplyLemmas.{heard_more}
use Rattle.drill_run.proofs.player.Player.hear.Goals as goal

pub loop-item-preserved : goal.loop-item-preserved
loop-item-preserved c =
    heard_more c.args.self.now c.loop-item.self c.take.new.self c.args.items.now c.loop-item.item-index c.item-item.result c.loop-item-test.true
    c.item-item.is c.loop-item.invariant c.in_ok-take.ensures
