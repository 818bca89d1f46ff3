use Rattle.gateway_claim.proofs.TurnLawLemmas.{stepped}
use Rattle.gateway_claim.proofs.laws.a_turn_is_one_step_by_the_books.Goals as goal

pub returns : goal.returns
returns c = stepped
