-- What the reply settles.
use Rattle.std.proofs.Common.{◌≡◌, ◌∙◌, OnOk, sym, ap, subst}
use Rattle.client_machine.specs.declared.parts.PlannedStep.{PlannedStep}
use Rattle.client_machine.specs.Onward.{GoesOnward}
use Rattle.std.proofs.lemmas.Result.{on_ok_weaker}
use Rattle.std.specs.Option.{option_copied}
use Rattle.head_two.specs.ServerMessages.{ReplyParts}
use Rattle.client_slot.specs.Purposes.{purpose_seen}
use Rattle.client_machine.specs.Outlooks.{sights_of}
use Rattle.client_machine.proofs.PlanLemmas.{settle_from}
use Rattle.client_machine.proofs.replies.settle.Goals as goal

pub returns : goal.returns
returns c =
    let slot = c.args.slot.now in
    let reply = c.args.answer.reply.now in
    let outlook = c.after_reply-outlook.result in
    on_ok_weaker c.onward.result
    (λ goes.
    settle_from c.args.course.bases.now c.args.course.next c.args.course.pair slot outlook.slot.now reply c.args.answer.source (purpose_seen c.args.pending) c.reply.inside.code (option_copied c.new_id-id.result) (option_copied c.changed_id.result) c.in_ok-made.field-0 (sights_of outlook) (option_copied outlook.described) c.in_ok-hand.hand c.onward.new.plan
    c.requires.pending c.requires.last (ap (λ (r : ReplyParts). r.code) c.reply.view_is) c.in_ok-made.ensures.made (c.new_id-id.ensures.id reply c.told_for-told.ensures.said) c.in_ok-made.ensures.described
    c.after_reply-outlook.ensures.slot c.after_reply-outlook.ensures.shows c.after_reply-outlook.ensures.described
    (λ number. ap (λ one. option_copied one) c.changed_id.ensures ∙ c.after_reply-outlook.ensures.own number)
    (c.in_ok-hand.ensures _ c.told_for-told.ensures.said c.timeout_told-timeout.ensures.timeout) goes)
    (subst (λ (one : PlannedStep). OnOk c.onward.result (GoesOnward c.args.course.bases.now c.args.course.next c.args.course.pair outlook.slot.now (sights_of outlook) (option_copied outlook.described) one.hand one.change c.onward.new.plan))
    c.become_still.ensures c.onward.ensures)
