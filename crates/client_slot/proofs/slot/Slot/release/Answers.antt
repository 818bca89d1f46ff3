-- A PLAY that is due waits; it goes up for its session.
use Rattle.std.proofs.Common.{◌∙◌, List, rules, sym, ap, Some}
use Rattle.rtsp_head.specs.Shapes.{shapes}
use Rattle.client_slot.specs.Client.{Client}
use Rattle.client_slot.specs.Session.{PlayerSession}
use Rattle.client_slot.specs.Places.{session_at}
use Rattle.client_slot.specs.SessionChanges.{when_next}
use Rattle.client_slot.specs.Changes.{due_place}
use Rattle.client_slot.specs.Bounds.{is_filled, rooms_left}
use Rattle.client_slot.proofs.TidyLemmas.{tidy_at, next_tidy, due_filled}
use Rattle.client_slot.proofs.LimitLemmas.{filled_kept, due_queue, slot_changed, slot_released, next_keeps, due_is, due_waits}
use Rattle.client_slot.proofs.slot.Slot.release.Goals as goal

pub unreachable-requires : goal.unreachable-requires
unreachable-requires c =
    let client : Client = (record { alive = c.self.inside.alive; sessions = c.self.inside.sessions.items; described = c.self.inside.described; pending = c.self.inside.pending; waiting = shapes c.self.inside.waiting }) in
    let due = due_is client c.in-Some.place (ap (λ (one : Client). due_place one) c.self.view_is ∙ sym c.due_place.ensures.place ∙ c.in-Some.is) in
    due_waits (session_at c.in-Some.place client.sessions) due.passes (sym c.next_at.ensures.first ∙ c.in_default-next_at.is)

pub invariant_of-self : goal.invariant_of-self
invariant_of-self c =
    let client : Client = (record { alive = c.self.inside.alive; sessions = c.self.inside.sessions.items; described = c.self.inside.described; pending = c.self.inside.pending; waiting = shapes c.self.inside.waiting }) in
    let due = due_is client c.in-Some.place (ap (λ (one : Client). due_place one) c.self.view_is ∙ sym c.due_place.ensures.place ∙ c.in-Some.is) in
    slot_released (record client { sessions = c.next_at.new.sessions.items }) (rooms_left c.self.inside.rooms.items) _ due.idle (search rules) (ap (λ (all : List PlayerSession). is_filled (Some c.in-Some.place) all) c.next_at.ensures.rest ∙ filled_kept (Some c.in-Some.place) c.in-Some.place when_next client.sessions (next_keeps (session_at c.in-Some.place client.sessions)) ∙ due_filled (session_at c.in-Some.place client.sessions) (tidy_at c.in-Some.place client.sessions c.self.invariant.tidy) (due_queue (session_at c.in-Some.place client.sessions) due.passes)) (search rules)
    (slot_changed client (rooms_left c.self.inside.rooms.items) (Some c.in-Some.place) when_next c.next_at.new.sessions.items (next_keeps (session_at c.in-Some.place client.sessions)) (λ at is. next_tidy (session_at at client.sessions) (tidy_at at client.sessions c.self.invariant.tidy)) c.next_at.ensures.rest c.self.invariant)
