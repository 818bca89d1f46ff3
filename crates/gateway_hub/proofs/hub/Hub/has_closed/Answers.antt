use Rattle.gateway_hub.proofs.EndLemmas.{ends_here}
use Rattle.gateway_hub.proofs.hub.Hub.has_closed.Goals as goal

pub returns-clause-ends : goal.returns-clause-ends
returns-clause-ends g c = ends_here c.args.self.now.state.desk
