use Rattle.std.proofs.Common.{◌∙◌, Some, sym, ap, subst}
use Rattle.head_two.specs.Answers.{answer_text}
use Rattle.head_two.specs.ServerMessages.{AskParts}
use Rattle.client_machine.specs.Plans.{notes}
use Rattle.gateway_claim.specs.Happenings.{hears}
use Rattle.gateway_mux.specs.declared.turn_facts.TurnFacts.{TurnFacts}
use Rattle.gateway_mux.specs.Acts.{IsSaid}
use Rattle.gateway_mux.specs.Pictures.{picture}
use Rattle.gateway_mux.proofs.FactLemmas.{notice_said}
use Rattle.gateway_mux.proofs.connections.Connections.plan_ask.Goals as goal

pub returns-in_ok-answer-in-Ok-clause-act : goal.returns-in_ok-answer-in-Ok-clause-act
returns-in_ok-answer-in-Ok-clause-act c shape says =
    c.plan_turn.ensures.act (hears shape)
    (subst (λ (it : TurnFacts). IsSaid c.args.self.now.bases (picture c.args.self.now.seats c.args.self.now.upstream) (hears shape) it (notes c.in-Ok.notice.id.now c.in-Ok.notice.reason c.in-Ok.notice.names))
    (ap (λ (alone : TurnFacts). record alone { answer = Some c.in_ok-answer-in-Ok.field-0 }) (sym c.alone.ensures))
    (notice_said c.args.self.now.bases (picture c.args.self.now.seats c.args.self.now.upstream) shape c.args.ask.now (record { conn = c.in-Ok.notice.conn; id = c.in-Ok.notice.id.now; reason = c.in-Ok.notice.reason; names = c.in-Ok.notice.names })
    c.in_ok-answer-in-Ok.field-0 says (sym c.in-Ok.ensures.told)
    (c.in_ok-answer-in-Ok.ensures.text ∙ ap (λ (ask : AskParts). answer_text 200 ask.cseq (Some c.in-Ok.notice.id.now)) c.ask.view_is)))
