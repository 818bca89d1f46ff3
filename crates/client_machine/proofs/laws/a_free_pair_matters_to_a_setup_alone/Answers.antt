use Rattle.client_machine.proofs.FullLemmas.{step_unmarked}
use Rattle.client_machine.proofs.laws.a_free_pair_matters_to_a_setup_alone.Goals as goal

pub returns : goal.returns
returns c bases number pair client event = step_unmarked bases number pair client event
