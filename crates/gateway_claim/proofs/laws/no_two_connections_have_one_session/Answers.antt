use Rattle.gateway_claim.proofs.ApartLemmas.{sessions_apart}
use Rattle.gateway_claim.proofs.laws.no_two_connections_have_one_session.Goals as goal

pub returns : goal.returns
returns c bases history i j a b id is standing at_a at_b = sessions_apart bases history i j a b id is standing at_a at_b
