-- What the rules answer is what becomes of a request that is not for the gateway itself.
use Rattle.std.proofs.Common.{◌≡◌, ℕ, false, cond, List, [], Some, Result, Ok, Err, sym, ◌∙◌, ap}
use Rattle.head_one.specs.declared.request.Request1.{Request1}
use Rattle.translate_up.specs.declared.decision.Decision.{Decision}
use Rattle.translate_up.specs.declared.decision.Decision.TheVariants.{Answer}
use Rattle.translate_up.specs.declared.rule.Admission.{Admission}
use Rattle.translate_up.specs.Views.{Judged}
use Rattle.translate_up.specs.Fields.{Said, said_of}
use Rattle.translate_up.specs.Upward.{uri_up}
use Rattle.translate_up.specs.Rules.{rules_checked}
use Rattle.translate_up.specs.Answers.{own_answer, options_text}
use Rattle.translate_up.specs.Decisions.{serve, is_for_gateway, by_rules, decide_request}

checked_decides : (judged : Judged) (request : Request1) (said : Said) (uri : List ℕ) (checked : Result Admission ℕ) →
    said ≡ said_of judged.all request → uri ≡ uri_up judged request.uri → checked ≡ rules_checked judged request.method said uri →
    by_rules judged request said uri checked ≡ decide_request judged request
checked_decides judged request said uri checked said_is uri_is is =
    ap (by_rules judged request said uri) is
    ∙ ap (λ s. by_rules judged request s uri (rules_checked judged request.method s uri)) said_is
    ∙ ap (λ u. by_rules judged request (said_of judged.all request) u (rules_checked judged request.method (said_of judged.all request) u)) uri_is

pub served_decides : (judged : Judged) (request : Request1) (said : Said) (uri : List ℕ) (admitted : Admission) (decision : Decision) →
    said ≡ said_of judged.all request → uri ≡ uri_up judged request.uri → ◌≡◌ {A = Result Admission ℕ} (Ok admitted) (rules_checked judged request.method said uri) →
    is_for_gateway request.method said ≡ false → decision ≡ serve judged request said uri admitted → decision ≡ decide_request judged request
served_decides judged request said uri admitted decision said_is uri_is is other serves =
    serves
    ∙ sym (ap (λ t. cond t (Answer (options_text request.cseq)) (serve judged request said uri admitted)) other)
    ∙ checked_decides judged request said uri (Ok admitted) said_is uri_is is

pub refused_decides : (judged : Judged) (request : Request1) (said : Said) (uri : List ℕ) (code : ℕ) →
    said ≡ said_of judged.all request → uri ≡ uri_up judged request.uri → ◌≡◌ {A = Result Admission ℕ} (Err code) (rules_checked judged request.method said uri) →
    Answer (own_answer code (Some request.cseq) []) ≡ decide_request judged request
refused_decides judged request said uri code said_is uri_is is = checked_decides judged request said uri (Err code) said_is uri_is is
