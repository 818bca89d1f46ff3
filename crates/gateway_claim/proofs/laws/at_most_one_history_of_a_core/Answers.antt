use Rattle.gateway_claim.proofs.AskLemmas.{one_core_history}
use Rattle.gateway_claim.proofs.laws.at_most_one_history_of_a_core.Goals as goal

pub returns : goal.returns
returns g c bases one other =
    let laws = g.met.M.Core g.world.𝓛 g.world.𝓜 g.world.𝓡 ((λ s x. x), (λ x. x), (λ x. x), λ x. x) in
    one_core_history g.M.Core.follows laws.one_next bases one other
