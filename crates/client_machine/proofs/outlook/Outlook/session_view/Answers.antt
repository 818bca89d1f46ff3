-- The session that changes, or another one.
use Rattle.std.proofs.Common.{◌≡◌, ◌∙◌, None, sym, ap, subst, arith}
use Rattle.translate_up.specs.Views.{session_shown}
use Rattle.session_one.specs.declared.table.State.{State}
use Rattle.client_slot.specs.Places.{session_at}
use Rattle.client_machine.specs.Sights.{Sight, sight, sight_at, session_in_sight, IsTidySight}
use Rattle.client_machine.specs.Outlooks.{sights_of}
use Rattle.client_machine.proofs.SightLemmas.{here_is, apart_is, same_is}
use Rattle.client_machine.proofs.outlook.Outlook.session_view.Goals.{in_default-via-in-Some+else-changed-place, in_default-via-in_default}
use Rattle.client_machine.proofs.outlook.Outlook.session_view.Goals as goal

pub view_of-requires : goal.view_of-requires
view_of-requires c =
    subst IsTidySight (here_is c.args.self.now c.in-Some.changed c.args.place c.in-Some.is c.if-changed-place.true c.requires) (c.args.self.now.tidy c.args.place)

pub view_of-requires-in_default : goal.view_of-requires-in_default
view_of-requires-in_default c =
    let now = c.seen-now.ensures.shows ∙ ap (λ (state : State). sight (record (session_at c.args.place c.args.self.now.slot.now.sessions) { state = state })) c.state.ensures in
    elim c.in_default.branch [
      | in_default-via-in-Some+else-changed-place w ↦ subst IsTidySight (apart_is c.args.self.now w.in-Some.changed c.args.place w.in-Some.is w.if-changed-place.false ∙ sym now) (c.args.self.now.tidy c.args.place)
      | in_default-via-in_default w ↦ subst IsTidySight (same_is c.args.self.now c.args.place w.in_default.is ∙ sym now) (c.args.self.now.tidy c.args.place)
    ]

pub returns-in-Some : goal.returns-in-Some
returns-in-Some c = λ streams. grind (arith, here_is)

pub returns-in_ok-session-in_default : goal.returns-in_ok-session-in_default
returns-in_ok-session-in_default c = λ streams. grind (arith, apart_is, in_default-via-in_default, same_is)

pub returns-in_err-session-in_default : goal.returns-in_err-session-in_default
returns-in_err-session-in_default c = λ streams. elim c.in_default.branch [
  | in_default-via-in-Some+else-changed-place w ↦ by (apart_is c.args.self.now w.in-Some.changed c.args.place w.in-Some.is w.if-changed-place.false)
  | in_default-via-in_default w ↦ by (same_is c.args.self.now c.args.place w.in_default.is)
]
  where
    id : (session_at c.args.place c.args.self.now.slot.now.sessions).id ≡ None
    id = sym c.in_err-session-in_default.ensures.id

    by : sight_at c.args.place (sights_of c.args.self.now) ≡ sight (session_at c.args.place c.args.self.now.slot.now.sessions) → session_shown c.from_residual.result ≡ session_in_sight (sight_at c.args.place (sights_of c.args.self.now))
    by here = ap session_shown c.from_residual.ensures ∙ sym (ap session_in_sight ((c.args.self.now.tidy c.args.place).0 (ap (λ (seen : Sight). seen.id) here ∙ id)))
