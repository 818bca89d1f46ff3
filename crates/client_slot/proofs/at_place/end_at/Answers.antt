-- The session at the place is changed.
use Rattle.std.proofs.Common.{rules}
use Rattle.client_slot.specs.SessionChanges.{when_ended}
use Rattle.client_slot.proofs.PlaceLemmas.{set_back}
use Rattle.client_slot.proofs.at_place.end_at.Goals as goal

pub returns-clause-ended : goal.returns-clause-ended
returns-clause-ended c =
    set_back c.args.place c.from.result (when_ended c.args.names) c.args.sessions.now.items c.index_mut.result.now c.end.new.self c.from.ensures (search rules) (search rules) c.end.ensures.ended
