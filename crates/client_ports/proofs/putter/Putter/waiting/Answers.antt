use Rattle.client_ports.proofs.Steps.{puts_learn}
use Rattle.client_ports.proofs.putter.Putter.waiting.Goals as goal

pub len_as-requires-clause-rule : goal.len_as-requires-clause-rule
len_as-requires-clause-rule g c = puts_learn _ _ c.args.self.now.puts
