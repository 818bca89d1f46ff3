use Rattle.std.proofs.Common.{◌≡◌, [], Some, sym, ◌∙◌, ap}
use Rattle.std.proofs.lemmas.Result.{IfOk-weaker}
use Rattle.head_one.specs.ClientRequests.{ClientRequest}
use Rattle.translate_up.specs.SeenFields.{said_seen}
use Rattle.std.specs.Prelude.{codes}
use Rattle.translate_up.specs.Fields.{field, Said, said_of}
use Rattle.translate_up.specs.Subjects.{judged_seen}
use Rattle.translate_up.specs.Views.{given_of, Judged, judged_by}
use Rattle.translate_up.specs.Answers.{own_answer}
use Rattle.translate_up.specs.Upward.{uri_up}
use Rattle.translate_up.specs.Rules.{rules_checked}
use Rattle.translate_up.specs.Decisions.{is_for_gateway, decide_request}
use Rattle.translate_up.specs.declared.decision.Decision.TheVariants.{Answer}
use Rattle.translate_up.proofs.ServeLemmas.{served_decides, refused_decides}
use Rattle.translate_up.proofs.decision.decide_for_server.Goals as goal

pub returns-in-Ok : goal.returns-in-Ok
returns-in-Ok c =
    let judged = judged_seen c.named-subject.result in
    let request = c.args.request.now in
    let same : judged ≡ judged_by (given_of c.args.view.now) (field request (codes "Session")) =
    c.named-subject.ensures.judged ∙ ap (λ (said : Said). judged_by (given_of c.args.view.now) said.session) c.read-said.ensures.said in
    let is_said : said_seen c.read-said.result ≡ said_of judged.all request = c.read-said.ensures.said ∙ ap (λ (one : Judged). said_of one.all request) (sym same) in
    let uri : c.in_ok-uri.uri ≡ uri_up judged request.uri = c.in_ok-uri.ensures ∙ ap (λ (r : ClientRequest). uri_up judged r.uri) c.request.view_is in
    let method : c.request.inside.method ≡ request.method = ap (λ (r : ClientRequest). r.method) c.request.view_is in
    IfOk-weaker c.serve.result _ _
    (λ decision serves. served_decides judged request (said_seen c.read-said.result) c.in_ok-uri.uri c.in-Ok.admission decision is_said uri
    (c.in-Ok.ensures.checked ∙ ap (λ m. rules_checked judged m (said_seen c.read-said.result) c.as_bytes.result.now) method ∙ ap (λ u. rules_checked judged request.method (said_seen c.read-said.result) u) (c.as_bytes.ensures ∙ c.uri.view_is))
    (ap (is_for_gateway request.method) c.read-said.ensures.said ∙ c.requires) serves ∙ ap (λ one. decide_request one request) same)
    c.serve.ensures

pub returns : goal.returns
returns c =
    let judged = judged_seen c.named-subject.result in
    let request = c.args.request.now in
    let same : judged ≡ judged_by (given_of c.args.view.now) (field request (codes "Session")) =
    c.named-subject.ensures.judged ∙ ap (λ (said : Said). judged_by (given_of c.args.view.now) said.session) c.read-said.ensures.said in
    let is_said : said_seen c.read-said.result ≡ said_of judged.all request = c.read-said.ensures.said ∙ ap (λ (one : Judged). said_of one.all request) (sym same) in
    let uri : c.in_ok-uri.uri ≡ uri_up judged request.uri = c.in_ok-uri.ensures ∙ ap (λ (r : ClientRequest). uri_up judged r.uri) c.request.view_is in
    let method : c.request.inside.method ≡ request.method = ap (λ (r : ClientRequest). r.method) c.request.view_is in
    ap Answer (c.in_ok-answer-in-Err.ensures ∙ ap (λ (r : ClientRequest). own_answer c.in-Err.code (Some r.cseq) []) c.request.view_is)
    ∙ refused_decides judged request (said_seen c.read-said.result) c.in_ok-uri.uri c.in-Err.code is_said uri
    (c.in-Err.ensures.checked ∙ ap (λ m. rules_checked judged m (said_seen c.read-said.result) c.as_bytes.result.now) method ∙ ap (λ u. rules_checked judged request.method (said_seen c.read-said.result) u) (c.as_bytes.ensures ∙ c.uri.view_is))
    ∙ ap (λ one. decide_request one request) same
