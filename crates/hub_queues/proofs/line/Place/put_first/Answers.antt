use Rattle.hub_queues.specs.Places.{PutsFirst}
use Rattle.hub_queues.proofs.PlaceLemmas.{seated_changes}
use Rattle.hub_queues.proofs.line.Place.put_first.Goals as goal

pub returns-in-Seated-clause-line : goal.returns-in-Seated-clause-line
returns-in-Seated-clause-line c = seated_changes (PutsFirst c.args.item) c.args.self.now c.in-Seated.line c.deref_mut.result.now c.put_first.new.self c.in-Seated.is c.deref_mut.ensures.value c.put_first.ensures
