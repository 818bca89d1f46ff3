-- A PLAY is due, or none is.
use Rattle.std.proofs.Common.{◌∙◌, sym}
use Rattle.client_machine.specs.Outlooks.{sights_of}
use Rattle.client_machine.proofs.PlanLemmas.{is_idle, end_due, end_none}
use Rattle.client_machine.proofs.ends.plan_end.Goals as goal

pub returns-in-Some : goal.returns-in-Some
returns-in-Some c = λ bases pair.
    end_due bases c.args.next pair c.args.slot.now c.args.id.now c.args.names c.find-place.result (sights_of c.after_end.result) c.in-Some.up c.new-in-Some.result c.become_still-in-Some.new.self c.find-place.ensures.place c.find-place.ensures.within
    (is_idle c.args.slot.now c.if-busy.ensures) c.after_end.ensures.shows (sym c.in_ok-up.ensures ∙ c.in-Some.is) c.new-in-Some.ensures c.become_still-in-Some.ensures

pub returns-in-None : goal.returns-in-None
returns-in-None c = λ bases pair.
    end_none bases c.args.next pair c.args.slot.now c.args.id.now c.args.names c.find-place.result (sights_of c.after_end.result) c.new-in-None.result c.become_still-in-None.new.self c.find-place.ensures.place c.find-place.ensures.within
    (is_idle c.args.slot.now c.if-busy.ensures) c.after_end.ensures.shows (sym c.in_ok-up.ensures ∙ c.in-None.is) c.new-in-None.ensures c.become_still-in-None.ensures
