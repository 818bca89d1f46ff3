use Rattle.hub_queues.specs.Places.{Closes}
use Rattle.hub_queues.proofs.PlaceLemmas.{seated_changes}
use Rattle.hub_queues.proofs.line.Place.close_as.Goals as goal

pub returns-in-Seated-clause-line : goal.returns-in-Seated-clause-line
returns-in-Seated-clause-line c = seated_changes (Closes c.args.close) c.args.self.now c.in-Seated.line c.deref_mut.result.now c.close_as.new.self c.in-Seated.is c.deref_mut.ensures.value c.close_as.ensures
