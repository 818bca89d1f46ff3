-- A PLAY that waits finds room.
use Rattle.std.proofs.Common.{◌∙◌, Bool, map, ap, sym, subst}
use Rattle.std.specs.Prelude.{is_none}
use Rattle.std.specs.Option.{option_copied}
use Rattle.rtsp_head.specs.Shapes.{shape_of}
use Rattle.translate_up.specs.Views.{session_shown}
use Rattle.translate_up.specs.DecisionPlaces.{IsDecidedIn}
use Rattle.rtsp_head.proofs.LastLemmas.{weaker}
use Rattle.client_machine.proofs.TreatLemmas.{decided_on, next_is}
use Rattle.client_machine.proofs.OnwardLemmas.{none_is}
use Rattle.client_machine.proofs.parts.PlannedStep.then.Goals as goal
use Rattle.client_machine.specs.Treatment.{decision_on, given_shown}

pub count-requires : goal.count-requires
count-requires c =
    let told = c.in_ok-decision.ensures ∙ ap (λ (full : Bool). decision_on (given_shown c.args.course.bases.now full (map session_shown c.args.sessions.now) (option_copied c.args.course.described)) (shape_of c.args.item.now)) (none_is c.args.course.pair c.is_none.result c.is_none.ensures) in
    subst (IsDecidedIn (map session_shown c.args.sessions.now)) (sym told)
    (decided_on (given_shown c.args.course.bases.now (is_none c.args.course.pair) (map session_shown c.args.sessions.now) (option_copied c.args.course.described)) (shape_of c.args.item.now))

pub returns : goal.returns
returns c =
    let given = given_shown c.args.course.bases.now (is_none c.args.course.pair) (map session_shown c.args.sessions.now) (option_copied c.args.course.described) in
    let is = c.in_ok-decision.ensures ∙ ap (λ (full : Bool). decision_on (given_shown c.args.course.bases.now full (map session_shown c.args.sessions.now) (option_copied c.args.course.described)) (shape_of c.args.item.now)) (none_is c.args.course.pair c.is_none.result c.is_none.ensures) in
    weaker c.decided.result _ _
    (λ told. next_is c.args.course.next c.args.course.pair given (shape_of c.args.item.now) c.args.self.now c.decided.new.self (map session_shown c.count.new.sessions) c.in_ok-decision.decision is told c.count.ensures)
    c.decided.ensures
