use Rattle.client_ports.proofs.Steps.{meets}
use Rattle.client_ports.proofs.ports.meet.Goals as goal

pub absorb-requires-clause-rule : goal.absorb-requires-clause-rule
absorb-requires-clause-rule c = meets _ _ _ _ c.args.putter.puts c.args.taker.takes
