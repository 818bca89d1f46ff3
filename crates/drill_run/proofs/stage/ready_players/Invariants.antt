use Rattle.std.proofs.Common.{◌≡◌, take}
use Rattle.drill_run.specs.Turns.{ready_from}
use Rattle.drill_run.proofs.stage.ready_players.Given as goal

-- the players so far were looked at
abbrev pub invariant-loop-player : goal.invariant-loop-player
invariant-loop-player l = record {
  ready : l.ready.items ≡ ready_from 0 (take l.player-index l.players);
  number : l.conn ≡ l.player-index;
}
