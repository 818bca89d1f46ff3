-- By what is seen of the connection.
use Rattle.std.proofs.Common.{◌∙◌, sym, ap}
use Rattle.std.proofs.lemmas.Result.{on_ok_weaker}
use Rattle.std.specs.Option.{option_copied}
use Rattle.client_machine.specs.declared.parts.Up.{Up}
use Rattle.client_machine.specs.Outlooks.{sights_of}
use Rattle.client_machine.proofs.OnwardLemmas.{still, begun_still, begun_is, closed_goes, due_goes, treated_by_goes}
use Rattle.client_machine.proofs.onward.onward.Goals as goal

pub returns-then-not-alive : goal.returns-then-not-alive
returns-then-not-alive c =
    let outlook = c.args.outlook.now in
    let course = c.args.course in
    let plan = c.args.plan.now in
    closed_goes course.bases.now course.next course.pair outlook.slot.now (sights_of outlook) (option_copied outlook.described) plan.hand plan.change _ (sym c.if-not-alive.ensures)
    (begun_still course.next course.pair plan c.leave.result c.requires.begun ∙ ap (λ (up : Up). still plan.change plan.hand up) c.leave.ensures)

pub returns-in-Some : goal.returns-in-Some
returns-in-Some c =
    let outlook = c.args.outlook.now in
    let course = c.args.course in
    let plan = c.args.plan.now in
    due_goes course.bases.now course.next course.pair outlook.slot.now (sights_of outlook) (option_copied outlook.described) plan.hand plan.change c.in-Some.up _ (sym c.if-not-alive.ensures)
    (sym c.in_ok-up.ensures ∙ c.in-Some.is) (begun_still course.next course.pair plan c.in-Some.up c.requires.begun)

pub returns : goal.returns
returns c =
    let outlook = c.args.outlook.now in
    let course = c.args.course in
    let plan = c.args.plan.now in
    on_ok_weaker c.treat_after.result
    (λ all.
    treated_by_goes course.bases.now course.next course.pair outlook.slot.now (sights_of outlook) (option_copied outlook.described) plan.hand plan.change all.0 plan c.treat_after.new.plan
    (sym c.if-not-alive.ensures) (sym c.in_ok-up.ensures ∙ c.in_default.is) (begun_is course.next course.pair plan c.requires.begun) all.1)
    c.treat_after.ensures
