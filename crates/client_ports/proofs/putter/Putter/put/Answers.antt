use Rattle.client_ports.proofs.Steps.{puts_keep, puts_learn}
use Rattle.client_ports.proofs.putter.Putter.put.Goals as goal

pub push_as-requires-clause-rule : goal.push_as-requires-clause-rule
push_as-requires-clause-rule g c = (puts_keep _ _ _ _ c.args.self.now.puts, puts_learn _ _ c.args.self.now.puts)
