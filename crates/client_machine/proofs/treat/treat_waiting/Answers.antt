-- Each is treated in its turn.
use Rattle.std.proofs.Common.{rules, arith, sym, map}
use Rattle.std.specs.Prelude.{is_none}
use Rattle.std.specs.Option.{option_copied}
use Rattle.std.proofs.lemmas.List.{length-map}
use Rattle.rtsp_head.specs.Shapes.{shape_of}
use Rattle.translate_up.specs.Views.{session_shown}
use Rattle.translate_up.proofs.ItemHeadLemmas.{item_head}
use Rattle.client_machine.specs.Treatment.{decision_on, given_shown}
use Rattle.client_machine.proofs.TreatLemmas.{shown_then, way_begins, treated_same, way_by}
use Rattle.client_machine.proofs.treat.treat_waiting.Goals as goal

pub loop-plan-init : goal.loop-plan-init
loop-plan-init c = grind (arith, way_begins, length-map)

pub overflow_add-plan : goal.overflow_add-plan
overflow_add-plan c =
    let given = given_shown c.args.course.bases.now (is_none c.args.course.pair) (map session_shown c.loop-plan.sessions) (option_copied c.args.course.described) in
    let same = treated_same c.args.course.next c.args.course.pair given (shape_of c.in-Some.item.now) c.loop-plan.plan c.then.new.self (map session_shown c.then.new.sessions) c.args.plan.now.change c.loop-plan.invariant.progress c.loop-plan.invariant.finished c.in_ok-then.ensures in
    rw same (search rules)

pub loop-plan-smaller : goal.loop-plan-smaller
loop-plan-smaller c =
    let given = given_shown c.args.course.bases.now (is_none c.args.course.pair) (map session_shown c.loop-plan.sessions) (option_copied c.args.course.described) in
    let same = treated_same c.args.course.next c.args.course.pair given (shape_of c.in-Some.item.now) c.loop-plan.plan c.then.new.self (map session_shown c.then.new.sessions) c.args.plan.now.change c.loop-plan.invariant.progress c.loop-plan.invariant.finished c.in_ok-then.ensures in
    omega (arith, same, c.loop-plan-test.true)

pub loop-plan-preserved : goal.loop-plan-preserved
loop-plan-preserved c =
    let given = given_shown c.args.course.bases.now (is_none c.args.course.pair) (map session_shown c.loop-plan.sessions) (option_copied c.args.course.described) in
    let shape = shape_of c.in-Some.item.now in
    way_by c.args.course.next c.args.course.pair _ given _ c.args.slot.now.waiting c.args.plan.now.hand c.args.plan.now.change c.loop-plan.plan c.then.new.self shape (map session_shown c.then.new.sessions) c.loop-plan.invariant
    (sym c.if-not-is_up.ensures) (sym c.in-Some.ensures) (item_head c.in-Some.item.now) c.in_ok-then.ensures
    (shown_then c.args.course.bases.now (is_none c.args.course.pair) (option_copied c.args.course.described) (map session_shown c.loop-plan.sessions) (decision_on given shape) (map session_shown c.then.new.sessions) c.in_ok-then.ensures.found)
