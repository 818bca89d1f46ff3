use Rattle.hub_queues.specs.Places.{PutsBytes}
use Rattle.hub_queues.proofs.PlaceLemmas.{seated_changes}
use Rattle.hub_queues.proofs.line.Place.put.Goals as goal

pub returns-in-Seated-clause-line : goal.returns-in-Seated-clause-line
returns-in-Seated-clause-line g c = seated_changes (PutsBytes c.args.bytes c.put.result) c.args.self.now c.in-Seated.line c.deref_mut.result.now c.put.new.self c.in-Seated.is c.deref_mut.ensures.value c.put.ensures
