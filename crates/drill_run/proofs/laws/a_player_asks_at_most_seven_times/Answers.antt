use Rattle.drill_run.proofs.RequestCountLemmas.{requests_few}
use Rattle.drill_run.proofs.laws.a_player_asks_at_most_seven_times.Goals as goal

pub returns : goal.returns
returns c = requests_few
