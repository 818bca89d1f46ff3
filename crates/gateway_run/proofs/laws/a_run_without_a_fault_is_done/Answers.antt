use Rattle.gateway_run.proofs.FaultlessLemmas.{run_done}
use Rattle.gateway_run.proofs.laws.a_run_without_a_fault_is_done.Goals as goal

pub returns : goal.returns
returns g c = run_done g.M.Core.follows
