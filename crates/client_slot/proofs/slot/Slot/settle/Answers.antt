-- The reply leaves what is bounded.
use Rattle.std.proofs.Common.{◌∙◌, ◌<◌, Bool, Option, IfSome, List, ℕ, sym, ap, subst}
use Rattle.std.specs.Prelude.{is_some}
use Rattle.std.proofs.lemmas.List.{length-map}
use Rattle.rtsp_head.specs.Shapes.{shapes}
use Rattle.client_slot.specs.Bounds.{rooms_left, rooms_with}
use Rattle.client_slot.specs.Session.{PlayerSession}
use Rattle.client_slot.specs.declared.new_session.MadeParts.{MadeParts}
use Rattle.client_slot.specs.Changes.{settled_place, sessions_after}
use Rattle.client_slot.specs.NewSessions.{id_made, id_kept}
use Rattle.client_slot.proofs.RoomLemmas.{slot_settled, made_has, parts_same, settled_within, open_placed}
use Rattle.client_slot.proofs.slot.Slot.settle.Goals as goal

pub put_room-requires : goal.put_room-requires
put_room-requires c =
    let id = id_made c.args.made in
    let sessions = c.self.inside.sessions.items in
    let at = c.settled_place.ensures id (parts_same c.args.made c.apart-made.result.0 c.is_some.result c.apart-made.ensures.parts c.is_some.ensures)
    ∙ ap (λ (all : List PlayerSession). settled_place c.in-Some.purpose id all) c.deref.ensures.value in
    let placed = open_placed c.self.inside.pending c.in-Some.purpose sessions (sym c.take.ensures.value ∙ c.in-Some.is) c.self.invariant.placed in
    subst (λ (n : ℕ). IfSome c.settled_place.result (λ place. place < n)) (sym (sym (length-map c.self.inside.rooms.items is_some) ∙ c.self.invariant.all)) (settled_within c.in-Some.purpose id sessions c.settled_place.result at placed)

pub invariant_of-self : goal.invariant_of-self
invariant_of-self c =
    let id = id_made c.args.made in
    let rooms = rooms_left c.self.inside.rooms.items in
    let at = c.settled_place.ensures id (parts_same c.args.made c.apart-made.result.0 c.is_some.result c.apart-made.ensures.parts c.is_some.ensures)
    ∙ ap (λ (all : List PlayerSession). settled_place c.in-Some.purpose id all) c.deref.ensures.value in
    slot_settled (record { alive = c.self.inside.alive; sessions = c.self.inside.sessions.items; described = c.self.inside.described; pending = c.self.inside.pending; waiting = shapes c.self.inside.waiting }) rooms (rooms_left c.put_room.new.rooms.items) c.in-Some.purpose c.args.number c.args.code id c.settle_sessions.new.sessions.items c.settle_sessions.new.described c.take.new.self
    (sym c.take.ensures.value ∙ c.in-Some.is) (c.settle_sessions.ensures.sessions
    ∙ ap (λ (parts : Option MadeParts). sessions_after c.in-Some.purpose c.args.number c.args.code c.self.inside.described (id_kept parts) c.self.inside.sessions.items) c.apart-made.ensures.parts) c.settle_sessions.ensures.described c.take.ensures.after
    (c.put_room.ensures
    ∙ ap (λ (place : Option ℕ). rooms_with place (is_some c.apart-made.result.1) rooms) at
    ∙ ap (λ (b : Bool). rooms_with (settled_place c.in-Some.purpose id c.self.inside.sessions.items) b rooms) (c.apart-made.ensures.room ∙ sym (made_has c.args.made)))
    c.self.invariant
