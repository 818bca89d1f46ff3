-- A request waits behind a PLAY that is due.
use Rattle.std.proofs.Common.{◌∙◌, sym, ap, arith}
use Rattle.rtsp_head.specs.Shapes.{shape_of}
use Rattle.client_machine.specs.Onward.{due_for}
use Rattle.client_machine.proofs.OnwardLemmas.{still, is_due}
use Rattle.client_machine.proofs.PlanLemmas.{plan_waits}
use Rattle.client_machine.proofs.requests.plan_due.Goals as goal

pub unreachable-requires : goal.unreachable-requires
unreachable-requires c = grind (arith, is_due)

pub returns : goal.returns
returns c = λ bases pair.
    plan_waits bases c.args.next pair c.args.slot.now (shape_of c.args.item.now) c.in_ok-change.change c.in-Some.up c.become_still.new.self c.requires.sound c.requires.room c.requires.alive
    c.requires.idle (ap (due_for c.args.next) (sym c.now.ensures.sights) ∙ sym c.in_ok-up.ensures ∙ c.in-Some.is) c.in_ok-change.ensures
    (c.become_still.ensures ∙ ap (λ bytes. still c.in_ok-change.change bytes c.in-Some.up) c.new.ensures)
