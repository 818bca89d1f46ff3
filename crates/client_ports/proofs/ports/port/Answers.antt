use Rattle.std.proofs.Common.{rules}
use Rattle.client_ports.proofs.Steps.{begins, parts}
use Rattle.client_ports.proofs.ports.port.Goals as goal

pub ruled-requires-clause-rule : goal.ruled-requires-clause-rule
ruled-requires-clause-rule c = begins

pub another-takes-requires-clause-rule : goal.another-takes-requires-clause-rule
another-takes-requires-clause-rule c = parts _ _ (search rules) (search rules)
