-- The room of the place is gone.
use Rattle.std.proofs.Common.{◌∙◌, ap, false}
use Rattle.std.specs.Prelude.{is_some, slice_set}
use Rattle.client_slot.specs.Bounds.{rooms_left}
use Rattle.client_slot.proofs.RoomLemmas.{rooms_set}
use Rattle.client_slot.proofs.slot.changes.take_room.Goals as goal

pub returns-clause-left : goal.returns-clause-left
returns-clause-left c =
    rooms_set c.args.rooms.now.items c.from.result c.take.new.self false (ap (λ room. is_some room) c.take.ensures.after)
    ∙ ap (λ place. slice_set (rooms_left c.args.rooms.now.items) place false) c.from.ensures
