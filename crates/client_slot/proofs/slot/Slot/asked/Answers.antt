-- The request has its place.
use Rattle.std.proofs.Common.{◌∙◌, sym, ap, subst}
use Rattle.rtsp_head.specs.Shapes.{shapes}
use Rattle.client_slot.specs.Client.{Client}
use Rattle.client_slot.specs.Bounds.{IsAskable, rooms_left}
use Rattle.client_slot.proofs.RoomLemmas.{slot_asked}
use Rattle.client_slot.proofs.slot.Slot.asked.Goals as goal

pub invariant_of-self : goal.invariant_of-self
invariant_of-self c =
    let client : Client = record { alive = c.self.inside.alive; sessions = c.self.inside.sessions.items; described = c.self.inside.described; pending = c.self.inside.pending; waiting = shapes c.self.inside.waiting } in
    slot_asked client (rooms_left c.self.inside.rooms.items) c.args.asked c.args.track (ap (λ (one : Client). one.pending) c.self.view_is ∙ c.requires.idle)
    (subst (λ (one : Client). IsAskable one.sessions c.args.asked c.args.track) (sym c.self.view_is) c.requires.placed) c.self.invariant
