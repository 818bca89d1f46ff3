use Rattle.std.proofs.Common.{sym, ◌∙◌, refl}
use Rattle.drill_run.proofs.CountLemmas.{counts_entered}
use Rattle.drill_run.proofs.stage.DrillStage.new.Goals as goal

pub returns : goal.returns
returns c = record {
  players = c.in_ok-new_players.ensures;
  draw = c.new.ensures;
  server = c.new-2.ensures;
  counts = c.none.ensures ∙ sym (counts_entered c.args.players);
  turns = refl;
}
