-- The place has the room.
use Rattle.std.proofs.Common.{◌∙◌, Bool, Option, Some, ℕ, true, sym, ap}
use Rattle.std.specs.Prelude.{is_some, slice_set}
use Rattle.client_slot.specs.Bounds.{rooms_left, rooms_with}
use Rattle.client_slot.proofs.RoomLemmas.{rooms_set}
use Rattle.client_slot.proofs.slot.changes.put_room.Goals as goal

pub returns-then-is_some : goal.returns-then-is_some
returns-then-is_some c =
    let there = sym c.is_some.ensures ∙ c.if-is_some.true in
    rooms_set c.args.rooms.now.items c.from.result c.args.room true there
    ∙ ap (λ place. slice_set (rooms_left c.args.rooms.now.items) place true) c.from.ensures
    ∙ sym (ap (λ (place : Option ℕ). rooms_with place (is_some c.args.room) (rooms_left c.args.rooms.now.items)) c.in-Some.is
    ∙ ap (λ (b : Bool). rooms_with (Some c.in-Some.place) b (rooms_left c.args.rooms.now.items)) there)
