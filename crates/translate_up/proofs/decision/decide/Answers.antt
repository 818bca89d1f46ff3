use Rattle.std.proofs.Common.{subst, rules, Err}
use Rattle.std.proofs.lemmas.Result.{IfOk-weaker}
use Rattle.translate_up.specs.Views.{given_of}
use Rattle.translate_up.proofs.JudgementLemmas.{read_decides}
use Rattle.gate_bytes.specs.Outcomes.{UnlessMemory}
use Rattle.rtsp_head.specs.Shapes.{shape_of}
use Rattle.head_one.specs.declared.refusal.RequestFault.{RequestFault}
use Rattle.head_one.specs.Requests.{request_of_item, request_refusal}
use Rattle.translate_up.proofs.ReasonLemmas.{refusal_reason}
use Rattle.translate_up.proofs.decision.decide.Goals as goal

pub refusal_text-requires : goal.refusal_text-requires
refusal_text-requires c =
    refusal_reason (shape_of c.args.item.now) _ (subst (λ (fault : RequestFault). UnlessMemory request_refusal (Err fault) (request_of_item (shape_of c.args.item.now))) c.in-Err-Refused.field-0-is c.in-Err-Refused.ensures)

pub returns-in-Ok : goal.returns-in-Ok
returns-in-Ok c =
    IfOk-weaker c.decide_request.result _ _ (λ decision is. read_decides (given_of c.args.view.now) (shape_of c.args.item.now) c.in-Ok.request decision (search rules) (search rules)) c.decide_request.ensures
