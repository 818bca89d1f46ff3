-- The session keeps its id and its streams.
use Rattle.std.proofs.Common.{Some}
use Rattle.rtsp_head.specs.Shapes.{shapes}
use Rattle.client_slot.specs.Client.{Client}
use Rattle.client_slot.specs.Places.{session_at}
use Rattle.client_slot.specs.SessionChanges.{when_ended}
use Rattle.client_slot.specs.Bounds.{rooms_left}
use Rattle.client_slot.proofs.TidyLemmas.{ended_tidy, tidy_at}
use Rattle.client_slot.proofs.LimitLemmas.{slot_changed, ended_keeps}
use Rattle.client_slot.proofs.slot.Slot.noted.Goals as goal

pub invariant_of-self : goal.invariant_of-self
invariant_of-self c =
    let client : Client = (record { alive = c.self.inside.alive; sessions = c.self.inside.sessions.items; described = c.self.inside.described; pending = c.self.inside.pending; waiting = shapes c.self.inside.waiting }) in
    slot_changed client (rooms_left c.self.inside.rooms.items) (Some c.args.place) (when_ended c.args.names) c.end_at.new.sessions.items
    (ended_keeps c.args.names (session_at c.args.place client.sessions)) (λ at is. ended_tidy c.args.names (session_at at client.sessions) (tidy_at at client.sessions c.self.invariant.tidy)) c.end_at.ensures.ended c.self.invariant
