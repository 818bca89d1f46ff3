use Rattle.client_ports.proofs.Steps.{hears_put}
use Rattle.client_ports.proofs.taker.Taker.hear.Goals as goal

pub absorb-requires-clause-rule : goal.absorb-requires-clause-rule
absorb-requires-clause-rule c = hears_put _ _ _ _
