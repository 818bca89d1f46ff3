-- The session's turn.
use Rattle.std.proofs.Common.{◌∙◌, ◌<◌, sym, subst}
use Rattle.std.specs.Option.{option_copied}
use Rattle.client_slot.specs.Purposes.{purpose_seen}
use Rattle.client_slot.specs.Changes.{settled_place, sessions_after}
use Rattle.client_machine.specs.Sights.{sight_of, brought_of}
use Rattle.client_machine.proofs.SightLemmas.{copied_some, changed_is, settled_open, own_is}
use Rattle.client_machine.proofs.after.changed_by.Goals as goal

pub returns-clause-shows : goal.returns-clause-shows
returns-clause-shows c = λ number.
    let purpose = purpose_seen c.args.pending in
    let id = option_copied c.args.id in
    let slot = c.args.slot.now in
    changed_is purpose number c.args.code slot.described id slot.sessions c.in_ok-place.place c.settled_place.result (sight_of c.after_turn-session.result) c.of-turn.result (brought_of number c.brought.result) c.is_some-2.result c.state.result
    (c.after_turn-session.ensures.shows number) c.of-turn.ensures (c.is_some-2.ensures ∙ sym (copied_some c.args.id)) c.state.ensures (c.brought.ensures.brought number) c.in_ok-place.was
    (c.settled_place.ensures.place id (copied_some c.args.id ∙ sym c.is_some.ensures) ∙ settled_open slot.pending purpose id slot.sessions c.requires.pending)

pub returns-clause-own : goal.returns-clause-own
returns-clause-own c = λ number.
    let purpose = purpose_seen c.args.pending in
    let id = option_copied c.args.id in
    let slot = c.args.slot.now in
    own_is c.in_ok-place.place (sight_of c.after_turn-session.result) slot.sessions (sessions_after purpose number c.args.code slot.described id slot.sessions) c.settled_place.result (settled_place purpose id slot.sessions)
    (returns-clause-shows c number)
    (subst (λ n. c.in_ok-place.place < n) (sym c.keeps.ensures.places) c.in_ok-place.ensures.within) c.in_ok-place.was
    (c.settled_place.ensures.place id (copied_some c.args.id ∙ sym c.is_some.ensures) ∙ settled_open slot.pending purpose id slot.sessions c.requires.pending)
