use Rattle.client_machine.proofs.RenumberLemmas.{step_under}
use Rattle.client_machine.proofs.laws.a_step_keeps_any_numbering.Goals as goal

pub returns : goal.returns
returns c numbers pairs bases number pair client event = step_under numbers pairs bases number pair client event
