-- A request that comes waits behind one that goes up, or is treated with those that waited.
use Rattle.std.proofs.Common.{◌∙◌, map, refl, sym}
use Rattle.std.proofs.lemmas.Result.{on_ok_weaker}
use Rattle.std.specs.Prelude.{is_none}
use Rattle.std.specs.Option.{option_copied}
use Rattle.rtsp_head.specs.Shapes.{shape_of}
use Rattle.translate_up.specs.Views.{session_shown}
use Rattle.translate_up.proofs.ItemHeadLemmas.{item_head}
use Rattle.client_machine.specs.declared.parts.Change.TheVariants as changes
use Rattle.client_machine.specs.Treatment.{given, decision_on, given_shown}
use Rattle.client_machine.specs.Sights.{sight}
use Rattle.client_machine.proofs.TreatLemmas.{shown_then, up_is, with_change, known_by}
use Rattle.client_machine.proofs.OnwardLemmas.{judged_now, treated_by_now}
use Rattle.client_machine.proofs.PlanLemmas.{plan_before, plan_with}
use Rattle.client_machine.proofs.SightLemmas.{short_is, shown_short, kept_short}
use Rattle.client_machine.proofs.requests.treat_request.Goals as goal

pub treat_waiting-requires-clause-known : goal.treat_waiting-requires-clause-known
treat_waiting-requires-clause-known c =
    let slot = c.args.slot.now in
    known_by c.args.bases.now (is_none c.args.pair) (map sight slot.sessions) (option_copied c.described.result) (map session_shown c.see_sessions.new.sessions) (shown_short slot.sessions c.keeps.ensures.controls)
    (short_is (option_copied c.described.result) (kept_short c.described.result _ refl c.described.ensures.short)) c.see_sessions.ensures.shown

pub returns-then-is_up : goal.returns-then-is_up
returns-then-is_up c =
    let bases = c.args.bases.now in
    let slot = c.args.slot.now in
    let full = is_none c.args.pair in
    let about = option_copied c.described.result in
    let last = given_shown bases full (map session_shown c.treat_waiting.new.sessions) about in
    let judged = judged_now bases c.args.pair full slot (map session_shown c.see_sessions.new.sessions) about c.see_sessions.ensures.shown c.described.ensures.uri refl in
    let all = treated_by_now c.args.next c.args.pair _ (given bases full slot) last slot.waiting c.become_blank.new.self c.treat_waiting.new.plan judged c.become_blank.ensures c.in_ok-treat_waiting.ensures in
    plan_before bases c.args.next c.args.pair slot last (shape_of c.args.item.now) all.progress c.in_ok-plan.field-0 _ c.requires.sound c.requires.room c.requires.alive c.requires.idle c.requires.due all.treated
    (sym (up_is c.args.next c.args.pair changes.Nothing all.progress c.treat_waiting.new.plan all.finished) ∙ sym c.if-is_up.ensures) c.in_ok-plan.ensures
    (with_change c.args.next c.args.pair changes.Nothing c.in_ok-plan.field-0 all.progress c.treat_waiting.new.plan all.finished)

pub returns : goal.returns
returns c =
    let bases = c.args.bases.now in
    let slot = c.args.slot.now in
    let full = is_none c.args.pair in
    let about = option_copied c.described.result in
    let last = given_shown bases full (map session_shown c.treat_waiting.new.sessions) about in
    let then = given_shown bases full (map session_shown c.then.new.sessions) about in
    let judged = judged_now bases c.args.pair full slot (map session_shown c.see_sessions.new.sessions) about c.see_sessions.ensures.shown c.described.ensures.uri refl in
    let all = treated_by_now c.args.next c.args.pair _ (given bases full slot) last slot.waiting c.become_blank.new.self c.treat_waiting.new.plan judged c.become_blank.ensures c.in_ok-treat_waiting.ensures in
    let shape = shape_of c.args.item.now in
    on_ok_weaker c.then.result
    (λ treated.
    plan_with bases c.args.next c.args.pair slot last then shape all.progress _ c.then.new.self c.requires.sound c.requires.alive c.requires.idle c.requires.due all.treated
    (sym (up_is c.args.next c.args.pair changes.Nothing all.progress c.treat_waiting.new.plan all.finished) ∙ sym c.if-is_up.ensures) (item_head c.args.item.now) refl
    (shown_then bases full about (map session_shown c.treat_waiting.new.sessions) (decision_on last shape) (map session_shown c.then.new.sessions) treated.found)
    (treated.progress changes.Nothing all.progress all.finished))
    c.then.ensures
