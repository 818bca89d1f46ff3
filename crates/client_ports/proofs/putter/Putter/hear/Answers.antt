use Rattle.client_ports.proofs.Steps.{hears_taken}
use Rattle.client_ports.proofs.putter.Putter.hear.Goals as goal

pub absorb-requires-clause-rule : goal.absorb-requires-clause-rule
absorb-requires-clause-rule c = hears_taken _ _ _ _
