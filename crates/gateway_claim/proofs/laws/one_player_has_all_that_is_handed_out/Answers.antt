use Rattle.gateway_claim.proofs.AskLemmas.{one_player}
use Rattle.gateway_claim.proofs.laws.one_player_has_all_that_is_handed_out.Goals as goal

pub returns : goal.returns
returns c bases history i is only = one_player bases history i is only
