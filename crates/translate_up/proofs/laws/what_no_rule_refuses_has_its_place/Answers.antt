use Rattle.translate_up.proofs.SessionPlaceLemmas.{decided_in}
use Rattle.translate_up.proofs.laws.what_no_rule_refuses_has_its_place.Goals as goal

pub returns : goal.returns
returns c = decided_in
