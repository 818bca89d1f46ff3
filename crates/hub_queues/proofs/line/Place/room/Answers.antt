use Rattle.hub_queues.specs.Room.{IsLookedAt}
use Rattle.hub_queues.proofs.PlaceLemmas.{seated_changes}
use Rattle.hub_queues.proofs.line.Place.room.Goals as goal

pub returns-in-Seated-clause-line : goal.returns-in-Seated-clause-line
returns-in-Seated-clause-line g c = seated_changes IsLookedAt c.args.self.now c.in-Seated.line c.deref_mut.result.now c.room.new.self c.in-Seated.is c.deref_mut.ensures.value c.room.ensures.line
