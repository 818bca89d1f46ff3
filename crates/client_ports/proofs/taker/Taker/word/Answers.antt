use Rattle.client_ports.proofs.Steps.{tells_taken}
use Rattle.client_ports.proofs.taker.Taker.word.Goals as goal

pub another-requires-clause-rule : goal.another-requires-clause-rule
another-requires-clause-rule c = tells_taken _ _ c.args.self.now.takes
