-- The session at the place is changed.
use Rattle.std.proofs.Common.{rules}
use Rattle.client_slot.specs.SessionChanges.{when_next}
use Rattle.client_slot.proofs.PlaceLemmas.{set_back}
use Rattle.client_slot.proofs.at_place.next_at.Goals as goal

pub returns-clause-rest : goal.returns-clause-rest
returns-clause-rest c =
    set_back c.args.place c.from.result when_next c.args.sessions.now.items c.index_mut.result.now c.next.new.self c.from.ensures (search rules) (search rules) c.next.ensures.rest
