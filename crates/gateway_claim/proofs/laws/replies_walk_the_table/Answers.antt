use Rattle.gateway_claim.proofs.SeenRunLemmas.{history_seen}
use Rattle.gateway_claim.proofs.laws.replies_walk_the_table.Goals as goal

pub returns : goal.returns
returns c bases history i is items = history_seen bases history i is items
