use Rattle.client_ports.proofs.Steps.{takes_keep, takes_learn}
use Rattle.client_ports.proofs.taker.Taker.take.Goals as goal

pub pop_as-requires-clause-rule : goal.pop_as-requires-clause-rule
pop_as-requires-clause-rule g c = (takes_keep _ _ c.args.self.now.takes, takes_learn _ _ c.args.self.now.takes)
