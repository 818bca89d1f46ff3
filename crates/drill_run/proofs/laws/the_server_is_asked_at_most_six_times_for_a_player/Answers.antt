use Rattle.drill_run.proofs.LimitLemmas.{upstream_six}
use Rattle.drill_run.proofs.laws.the_server_is_asked_at_most_six_times_for_a_player.Goals as goal

pub returns : goal.returns
returns c = upstream_six
