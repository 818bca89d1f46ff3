use Rattle.gateway_run.proofs.FaultlessLemmas.{run_unhindered}
use Rattle.gateway_run.proofs.laws.a_run_that_nothing_hinders_ends_well.Goals as goal

pub returns : goal.returns
returns g c = run_unhindered g.M.Core.follows
