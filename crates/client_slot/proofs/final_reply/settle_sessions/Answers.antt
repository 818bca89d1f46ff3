-- What was described matters to a session that the server made alone.
use Rattle.std.proofs.Common.{◌∙◌, rules, sym, ap, subst, List, length}
use Rattle.client_slot.specs.declared.purpose.Purpose.{Purpose}
use Rattle.client_slot.specs.declared.purpose.Purpose.TheVariants as purposes
use Rattle.client_slot.specs.Bounds.{IsPlaced}
use Rattle.client_slot.specs.Places.{session_where}
use Rattle.client_slot.specs.Session.{PlayerSession}
use Rattle.client_slot.specs.Changes.{settled_place}
use Rattle.client_slot.specs.NewSessions.{id_kept, described_kept}
use Rattle.client_slot.proofs.RoomLemmas.{sessions_same, made_some, settled_within, settled_placed}
use Rattle.client_slot.proofs.final_reply.settle_sessions.Goals as goal

pub answered-requires-clause-within : goal.answered-requires-clause-within
answered-requires-clause-within c =
    settled_within c.args.purpose (id_kept c.args.reply.made) c.args.sessions.now.items c.settled_place-place.result
    (c.settled_place-place.ensures (id_kept c.args.reply.made) (made_some c.args.reply.made ∙ sym c.is_some.ensures) ∙ ap (λ (all : List PlayerSession). settled_place c.args.purpose (id_kept c.args.reply.made) all) c.deref.ensures.value) c.requires.placed

pub turn_at-requires-clause-within : goal.turn_at-requires-clause-within
turn_at-requires-clause-within c =
    settled_within c.args.purpose (id_kept c.args.reply.made) c.args.sessions.now.items c.settled_place-place.result
    (c.settled_place-place.ensures (id_kept c.args.reply.made) (made_some c.args.reply.made ∙ sym c.is_some.ensures) ∙ ap (λ (all : List PlayerSession). settled_place c.args.purpose (id_kept c.args.reply.made) all) c.deref.ensures.value) c.requires.placed

pub turn_at-requires-in-Closing-clause-within : goal.turn_at-requires-in-Closing-clause-within
turn_at-requires-in-Closing-clause-within c =
    settled_within c.args.purpose (id_kept c.args.reply.made) c.args.sessions.now.items c.settled_place-place.result
    (c.settled_place-place.ensures (id_kept c.args.reply.made) (made_some c.args.reply.made ∙ sym c.is_some.ensures) ∙ ap (λ (all : List PlayerSession). settled_place c.args.purpose (id_kept c.args.reply.made) all) c.deref.ensures.value) c.requires.placed

pub answered-requires-clause-placed : goal.answered-requires-clause-placed
answered-requires-clause-placed c =
    subst (λ (one : Purpose). IsPlaced (length (session_where c.settled_place-place.result c.args.sessions.now.items).tracks) one) c.in-Client.is
    (settled_placed c.args.purpose (id_kept c.args.reply.made) c.args.sessions.now.items c.settled_place-place.result
    (c.settled_place-place.ensures (id_kept c.args.reply.made) (made_some c.args.reply.made ∙ sym c.is_some.ensures) ∙ ap (λ (all : List PlayerSession). settled_place c.args.purpose (id_kept c.args.reply.made) all) c.deref.ensures.value) c.requires.placed)

pub returns-in-Client-clause-sessions : goal.returns-in-Client-clause-sessions
returns-in-Client-clause-sessions c =
    sessions_same c.args.purpose (purposes.Client c.in-Client.asked c.in-Client.track) c.args.reply.number c.args.reply.code (described_kept c.args.reply.made) c.args.described.now (id_kept c.args.reply.made) c.settled_place-place.result c.args.sessions.now.items
    c.answered.new.sessions.items c.in-Client.is (c.settled_place-place.ensures (id_kept c.args.reply.made) (made_some c.args.reply.made ∙ sym c.is_some.ensures) ∙ ap (λ (all : List PlayerSession). settled_place c.args.purpose (id_kept c.args.reply.made) all) c.deref.ensures.value) (search rules) c.answered.ensures.sessions
