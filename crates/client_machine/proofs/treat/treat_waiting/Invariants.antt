-- So many are treated.
use Rattle.std.proofs.Common.{◌-◌, map}
use Rattle.std.specs.Prelude.{is_none}
use Rattle.std.specs.Option.{option_copied}
use Rattle.translate_up.specs.Views.{session_shown}
use Rattle.client_machine.specs.Treatment.{given_shown}
use Rattle.client_machine.proofs.TreatLemmas.{IsWayBy}
use Rattle.client_machine.proofs.treat.treat_waiting.Given as goal

abbrev pub invariant-loop-plan : goal.invariant-loop-plan
invariant-loop-plan l =
    IsWayBy l.course.next l.course.pair (given_shown l.course.bases.now (is_none l.course.pair) (map session_shown l.initial.sessions) (option_copied l.course.described))
    (given_shown l.course.bases.now (is_none l.course.pair) (map session_shown l.sessions) (option_copied l.course.described)) l.slot.waiting l.initial.plan.hand l.initial.plan.change l.plan

abbrev pub decreases-loop-plan : goal.decreases-loop-plan
decreases-loop-plan l = l.count - l.plan.treated
