use Rattle.std.proofs.Common.{◌≡◌, take}
use Rattle.rtsp_head.specs.Shapes.{shapes}
use Rattle.drill_run.specs.Players.{heard_player}
use Rattle.drill_run.proofs.player.Player.hear.Given as goal

-- the player has heard the items so far
abbrev pub invariant-loop-item : goal.invariant-loop-item
invariant-loop-item l = l.self ≡ heard_player l.fn.self (shapes (take l.item-index l.items))
