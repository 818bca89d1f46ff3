use Rattle.gateway_mux.proofs.UpstreamLemmas.{lowest_low}
use Rattle.gateway_mux.proofs.upstream.UpstreamBooks.free_once.Goals as goal

-- src/upstream.rt:73:5
pub returns-in-Some-clause-low : goal.returns-in-Some-clause-low
returns-in-Some-clause-low c = lowest_low _ c.free_after.result c.free_after.ensures.lowest

-- src/upstream.rt:73:5
pub returns-in_default-clause-low : goal.returns-in_default-clause-low
returns-in_default-clause-low c = lowest_low _ c.free_after-in_default.result c.free_after-in_default.ensures.lowest
