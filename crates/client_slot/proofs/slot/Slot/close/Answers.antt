-- The sessions keep their ids and their streams.
use Rattle.rtsp_head.specs.Shapes.{shapes}
use Rattle.client_slot.specs.Bounds.{rooms_left}
use Rattle.client_slot.proofs.LimitLemmas.{slot_closed}
use Rattle.client_slot.proofs.slot.Slot.close.Goals as goal

pub invariant_of-self : goal.invariant_of-self
invariant_of-self c = slot_closed (record { alive = c.self.inside.alive; sessions = c.self.inside.sessions.items; described = c.self.inside.described; pending = c.self.inside.pending; waiting = shapes c.self.inside.waiting }) (rooms_left c.self.inside.rooms.items) (shapes c.clear.new.self) c.unqueue_all.new.sessions.items c.unqueue_all.ensures c.self.invariant
