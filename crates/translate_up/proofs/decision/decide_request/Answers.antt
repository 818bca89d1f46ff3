use Rattle.std.proofs.Common.{sym, ◌∙◌, ap}
use Rattle.head_one.specs.ClientRequests.{ClientRequest}
use Rattle.std.specs.Prelude.{codes}
use Rattle.translate_up.specs.Fields.{field}
use Rattle.translate_up.specs.Views.{given_of, judged_by, tracks_shown}
use Rattle.translate_up.specs.Answers.{options_text}
use Rattle.translate_up.specs.declared.decision.Decision.TheVariants.{Answer}
use Rattle.translate_up.proofs.GatewayLemmas.{own_answered}
use Rattle.translate_up.proofs.decision.decide_request.Goals as goal

pub returns-then-is_for_gateway : goal.returns-then-is_for_gateway
returns-then-is_for_gateway c =
    let judged = judged_by (given_of c.args.view.now) (field c.args.request.now (codes "Session")) in
    ap Answer (c.in_ok-options_text.ensures ∙ ap (λ (r : ClientRequest). options_text r.cseq) c.request.view_is)
    ∙ sym (own_answered judged c.args.request.now (sym (c.is_for_gateway.ensures judged.all) ∙ c.if-is_for_gateway.true))

pub decide_for_server-requires : goal.decide_for_server-requires
decide_for_server-requires c = sym (c.is_for_gateway.ensures (tracks_shown c.args.view.now.sessions.now)) ∙ c.if-is_for_gateway.false
