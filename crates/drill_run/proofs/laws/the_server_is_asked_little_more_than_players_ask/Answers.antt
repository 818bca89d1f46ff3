use Rattle.drill_run.proofs.UpstreamLemmas.{upstream_few}
use Rattle.drill_run.proofs.EnterLemmas.{run_enters}
use Rattle.drill_run.proofs.laws.the_server_is_asked_little_more_than_players_ask.Goals as goal

pub returns : goal.returns
returns c players number drilled ran made =
    upstream_few made.bases drilled.history players made.is_history (run_enters players number drilled ran)
