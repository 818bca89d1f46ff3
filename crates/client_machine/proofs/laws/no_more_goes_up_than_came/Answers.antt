use Rattle.client_machine.proofs.AskCountLemmas.{few_asked}
use Rattle.client_machine.proofs.laws.no_more_goes_up_than_came.Goals as goal

pub returns : goal.returns
returns c = few_asked
