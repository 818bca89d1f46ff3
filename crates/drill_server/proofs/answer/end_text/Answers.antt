use Rattle.std.proofs.Common.{◌≡◌, ℕ, List, IfOk, ap, subst}
use Rattle.head_two.specs.ServerMessages.{AskParts}
use Rattle.drill_server.specs.AskedFields.{uri_asked}
use Rattle.drill_server.specs.Texts.{end_notify}
use Rattle.drill_server.proofs.answer.end_text.Goals as goal

pub returns : goal.returns
returns c =
    subst (λ (number : ℕ). IfOk c.notify_text.result (λ text. text ≡ end_notify c.args.own (uri_asked c.args.ask.now.head.start) c.args.id.now number)) (ap (λ (ask : AskParts). ask.cseq) c.ask.view_is)
    (subst (λ (uri : List ℕ). IfOk c.notify_text.result (λ text. text ≡ end_notify c.args.own uri c.args.id.now c.ask.inside.cseq)) c.uri.ensures c.notify_text.ensures)
