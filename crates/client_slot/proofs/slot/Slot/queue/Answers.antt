-- The session keeps its id and its streams.
use Rattle.std.proofs.Common.{◌∙◌, ℕ, Option, sym, ap}
use Rattle.rtsp_head.specs.Shapes.{shapes}
use Rattle.client_slot.specs.Client.{Client}
use Rattle.client_slot.specs.Places.{session_at, session_where}
use Rattle.client_slot.specs.SessionChanges.{when_queued}
use Rattle.client_slot.specs.Bounds.{is_filled, rooms_left}
use Rattle.client_slot.proofs.TidyLemmas.{queued_tidy, tidy_at}
use Rattle.client_slot.proofs.LimitLemmas.{slot_changed, queued_keeps}
use Rattle.client_slot.proofs.slot.Slot.queue.Goals as goal

pub invariant_of-self : goal.invariant_of-self
invariant_of-self c =
    let client : Client = (record { alive = c.self.inside.alive; sessions = c.self.inside.sessions.items; described = c.self.inside.described; pending = c.self.inside.pending; waiting = shapes c.self.inside.waiting }) in
    slot_changed client (rooms_left c.self.inside.rooms.items) c.args.play.place (when_queued c.args.play) c.queue_at.new.sessions.items
    (queued_keeps c.args.play (session_where c.args.play.place client.sessions))
    (λ at is. queued_tidy c.args.play (session_at at client.sessions) (ap (λ (one : Option ℕ). is_filled one client.sessions) (sym is) ∙ ap (λ (one : Client). is_filled c.args.play.place one.sessions) c.self.view_is ∙ c.requires.session) (tidy_at at client.sessions c.self.invariant.tidy)) c.queue_at.ensures c.self.invariant
