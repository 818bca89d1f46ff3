use Rattle.drill_run.proofs.HearLemmas.{heard_few}
use Rattle.drill_run.proofs.laws.the_server_hears_no_more_than_goes_up.Goals as goal

pub returns : goal.returns
returns c players number drilled ran made = heard_few made.bases players number drilled ran made.is_history
