use Rattle.std.proofs.Common.{◌+◌, ◌∙◌, ap}
use Rattle.drill_run.proofs.ReadyLemmas.{ready_more}
use Rattle.drill_run.proofs.stage.ready_players.Goals as goal

pub loop-player-preserved : goal.loop-player-preserved
loop-player-preserved c = record {
  ready =
      ready_more c.args.players.now c.loop-player.player-index c.loop-player.conn c.player-item.result c.loop-player.ready.items c.push_ready.new.ready.items
      c.loop-player-test.true c.player-item.is c.loop-player.invariant.number c.loop-player.invariant.ready c.in_ok-push_ready.ensures;
  number = c.in_ok-conn.ensures ∙ ap (λ n. n + 1) c.loop-player.invariant.number;
}
