use Rattle.drill_run.specs.Plays.{Plays}
use Rattle.std.proofs.Common.{◌∙◌, ap}
use Rattle.rtsp_head.specs.Items.{items_of}
use Rattle.rtsp_head.specs.Shapes.{shapes}
use Rattle.drill_run.proofs.PlayLemmas.{player_turn}
use Rattle.drill_run.proofs.drill_core.Drill.play.Goals as goal

pub returns : goal.returns
returns g c = λ between.
    player_turn g.M.Core.stands g.M.Core.bases c.args.self.now.core c.args.self.now.stage c.say.new.self between
    (Plays g.M.Core.stands g.M.Core.bases c.take_items.new.self.core c.take_items.new.self.stage between)
    (Plays g.M.Core.stands g.M.Core.bases c.take_end.new.self.core c.take_end.new.self.stage between)
    c.args.conn c.in_ok-said.said (shapes c.in_ok-items.items.items) c.in_ok-said.ensures.said c.in_ok-said.ensures.after (c.in_ok-items.ensures ∙ ap items_of c.as_bytes.ensures)
    (c.in_ok-take_items.ensures between) (c.in_ok-take_end.ensures between)
