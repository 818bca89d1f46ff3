use Rattle.std.proofs.Common.{◌≡◌, ◌∙◌, IfOk, subst, sym, ap, List, ℕ}
use Rattle.head_two.specs.ServerMessages.{ReplyParts}
use Rattle.session_one.specs.Table.{is_success}
use Rattle.translate_down.specs.Settings.{setting_of}
use Rattle.translate_down.proofs.PlayerLemmas.{success_text, refusal_text}
use Rattle.translate_down.proofs.reply.reply_one.Goals as goal

pub returns-then-is_success : goal.returns-then-is_success
returns-then-is_success c =
    subst (λ (wanted : List ℕ). IfOk c.success.result (λ text. text ≡ wanted)) (success_text (setting_of c.args.context.now) c.args.asked.now c.args.reply.now (ap (λ (r : ReplyParts). is_success r.code) (sym c.reply.view_is) ∙ sym c.is_success.ensures ∙ c.if-is_success.true)) c.success.ensures

pub returns-else-is_success : goal.returns-else-is_success
returns-else-is_success c =
    subst (λ (wanted : List ℕ). IfOk c.refusal.result (λ text. text ≡ wanted)) (refusal_text (setting_of c.args.context.now) c.args.asked.now c.args.reply.now (ap (λ (r : ReplyParts). is_success r.code) (sym c.reply.view_is) ∙ sym c.is_success.ensures ∙ c.if-is_success.false)) c.refusal.ensures
