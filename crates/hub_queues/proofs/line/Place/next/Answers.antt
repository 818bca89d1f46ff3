use Rattle.hub_queues.specs.Places.{FetchesLine}
use Rattle.hub_queues.proofs.PlaceLemmas.{seated_changes}
use Rattle.hub_queues.proofs.line.Place.next.Goals as goal

pub returns-in-Seated-clause-line : goal.returns-in-Seated-clause-line
returns-in-Seated-clause-line g c = seated_changes (FetchesLine c.next.result) c.args.self.now c.in-Seated.line c.deref_mut.result.now c.next.new.self c.in-Seated.is c.deref_mut.ensures.value c.next.ensures
