use Rattle.std.proofs.Common.{◌≡◌, replicate}
use Rattle.drill_run.specs.Players.{new_player}
use Rattle.drill_run.proofs.stage.new_players.Given as goal

-- so many players are there
abbrev pub invariant-loop : goal.invariant-loop
invariant-loop l = l.players.items ≡ replicate l.counter new_player
