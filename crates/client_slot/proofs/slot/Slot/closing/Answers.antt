-- A session that is left has its room.
use Rattle.std.proofs.Common.{◌≡◌, ◌∙◌, true, false, sym, ap}
use Rattle.std.specs.Prelude.{is_some}
use Rattle.rtsp_head.specs.Shapes.{shapes}
use Rattle.client_slot.specs.Session.{PlayerSession}
use Rattle.client_slot.specs.Places.{session_at}
use Rattle.client_slot.specs.Client.{Client}
use Rattle.client_slot.specs.Changes.{closing_place}
use Rattle.client_slot.specs.Bounds.{rooms_left}
use Rattle.client_slot.proofs.LimitLemmas.{leaving_is, room_there, closes}
use Rattle.client_slot.proofs.PlaceLemmas.{lent_at}
use Rattle.client_slot.proofs.slot.Slot.closing.Goals as goal

pub unreachable-requires : goal.unreachable-requires
unreachable-requires c =
    let client : Client = (record { alive = c.self.inside.alive; sessions = c.self.inside.sessions.items; described = c.self.inside.described; pending = c.self.inside.pending; waiting = shapes c.self.inside.waiting }) in
    let there = room_there client (rooms_left c.self.inside.rooms.items) c.in_ok-place.place (leaving_is client c.in_ok-place.place (ap (λ (one : Client). closing_place one) c.self.view_is ∙ sym c.closing_place.ensures.place ∙ c.in_ok-place.was)) c.self.invariant in
    let wrong : false ≡ true = sym (ap (λ room. is_some room) c.in_default.is) ∙ c.take_room.ensures.room ∙ there in
    cc

pub unreachable-requires-in_default-teardown_text : goal.unreachable-requires-in_default-teardown_text
unreachable-requires-in_default-teardown_text c =
    let client : Client = (record { alive = c.self.inside.alive; sessions = c.self.inside.sessions.items; described = c.self.inside.described; pending = c.self.inside.pending; waiting = shapes c.self.inside.waiting }) in
    let leaving = leaving_is client c.in_ok-place.place (ap (λ (one : Client). closing_place one) c.self.view_is ∙ sym c.closing_place.ensures.place ∙ c.in_ok-place.was) in
    let lent : c.index.result.now ≡ session_at c.in_ok-place.place client.sessions = lent_at c.in_ok-place.place c.from.result client.sessions c.index.result.now c.from.ensures leaving.within c.index.ensures in
    closes c.args.number c.index.result.now (ap (λ (session : PlayerSession). is_some session.id) lent ∙ leaving.filled) (sym c.teardown_text.ensures.text ∙ c.in_default-teardown_text.is)
