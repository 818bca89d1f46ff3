use Rattle.gateway_claim.proofs.OrderLemmas.{follows_orderly}
use Rattle.gateway_claim.proofs.laws.entries_are_orderly.Goals as goal

pub returns : goal.returns
returns c bases earlier entry = follows_orderly bases earlier entry
