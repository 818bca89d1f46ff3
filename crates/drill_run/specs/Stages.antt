-- What the code of a drill has, and what the definitions say of it.
use Rattle.std.specs.Prelude.{◌≡◌, [], Option, Some, None}
use Rattle.drill_server.specs.ServerSteps.{Serves}
use Rattle.drill_run.specs.declared.stage.DrillStage.{DrillStage}
use Rattle.drill_run.specs.declared.turn.Who.{Who}
use Rattle.drill_run.specs.CountSteps.{counts_of}
use Rattle.drill_run.specs.Turns.{Drilled, candidates, chosen, after_draw}

-- the players, the draw, the server and the counts are those of a drill
pub record IsStage (stage : DrillStage) (drilled : Drilled) : Type 0 where
  pub players : stage.players.items ≡ drilled.players
  pub draw : stage.draw ≡ drilled.draw
  pub server : Serves stage.server drilled.server
  pub counts : stage.counts ≡ counts_of drilled.history
  pub turns : stage.turns ≡ drilled.turns

-- who has the next turn: none only where there is no candidate, and then nothing changed
abbrev pub Picks : Option Who → DrillStage → Drilled → Type 0
Picks None stage drilled = (candidates drilled ≡ []) × IsStage stage drilled
Picks (Some who) stage drilled = (chosen drilled ≡ Some who) × IsStage stage (after_draw drilled)
