use Rattle.hub_queues.specs.Places.{CountsItem}
use Rattle.hub_queues.proofs.PlaceLemmas.{seated_changes}
use Rattle.hub_queues.proofs.line.Place.count_arrival.Goals as goal

pub returns-in-Seated-clause-line : goal.returns-in-Seated-clause-line
returns-in-Seated-clause-line c = seated_changes CountsItem c.args.self.now c.in-Seated.line c.deref_mut.result.now c.count_arrival.new.self c.in-Seated.is c.deref_mut.ensures.value c.count_arrival.ensures
