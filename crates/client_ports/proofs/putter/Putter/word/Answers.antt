use Rattle.client_ports.proofs.Steps.{tells_put}
use Rattle.client_ports.proofs.putter.Putter.word.Goals as goal

pub another-requires-clause-rule : goal.another-requires-clause-rule
another-requires-clause-rule c = tells_put _ _ c.args.self.now.puts
