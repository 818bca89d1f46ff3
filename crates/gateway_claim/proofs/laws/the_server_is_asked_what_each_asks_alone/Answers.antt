use Rattle.gateway_claim.proofs.AskLemmas.{asked}
use Rattle.gateway_claim.proofs.laws.the_server_is_asked_what_each_asks_alone.Goals as goal

pub returns : goal.returns
returns c bases history i is = asked bases history i is
