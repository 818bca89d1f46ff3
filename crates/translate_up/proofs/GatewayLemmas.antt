-- A request that is for the gateway itself is answered, whatever else it says.
use Rattle.std.proofs.Common.{◌≡◌, ℕ, Bool, true, false, cond, ◌&&◌, ◌||◌, not, List, [], ◌∷◌, Option, None, Some, Result, Ok, Err, refl, ◌∙◌, ap}
use Rattle.std.specs.Prelude.{is_some}
use Rattle.std.specs.List.{list_all}
use Rattle.std.proofs.lemmas.Bool.{and_parts}
use Rattle.rtsp_small.specs.declared.method.Method.{Method}
use Rattle.rtsp_small.specs.declared.method.Method.TheVariants.{Options, Describe, Setup, Play, Pause, Teardown, GetParameter, SetParameter}
use Rattle.rtsp_range.specs.declared.range.Range.{Range}
use Rattle.rtsp_range.specs.declared.fault.RangeFault.{RangeFault}
use Rattle.head_one.specs.declared.request.Request1.{Request1}
use Rattle.head_one.specs.Refusals.{Rule, first_code}
use Rattle.session_one.specs.declared.table.State.{State}
use Rattle.session_one.specs.declared.table.State.TheVariants.{Init, Ready, Playing}
use Rattle.session_one.specs.Table.{same_method, is_allowed}
use Rattle.translate_up.specs.declared.decision.Decision.{Decision}
use Rattle.translate_up.specs.declared.decision.Decision.TheVariants.{Answer}
use Rattle.translate_up.specs.declared.rule.Admission.TheVariants.{Other}
use Rattle.translate_up.specs.Views.{Judged}
use Rattle.translate_up.specs.Fields.{Said, said_of, is_named}
use Rattle.translate_up.specs.Upward.{uri_up}
use Rattle.translate_up.specs.Rules.{names_no_session, is_out_of_turn, has_bad_range, session_rules, admission, unless_code}
use Rattle.translate_up.specs.Answers.{options_text}
use Rattle.translate_up.specs.Decisions.{serve, is_for_gateway, by_rules, decide_request}

is_options : (method : Method) → same_method method Options ≡ true → method ≡ Options
is_options Options e = refl
is_options Describe e = cc
is_options Setup e = cc
is_options Play e = cc
is_options Pause e = cc
is_options Teardown e = cc
is_options GetParameter e = cc
is_options SetParameter e = cc

always_allowed : (state : State) → is_allowed state Options ≡ true
always_allowed Init = refl
always_allowed Ready = refl
always_allowed Playing = refl

-- No rule of a list applies where none of them does.
pub none_applies : (rules : List Rule) → list_all (λ (one : Rule). not one.applies) rules ≡ true → first_code rules ≡ None
none_applies [] h = refl
none_applies (one ∷ more) h =
    let parts = and_parts (not one.applies) (list_all (λ (one : Rule). not one.applies) more) h in
    by_test one.applies one.code (first_code more) parts.0 (none_applies more parts.1)
  where
    by_test : (applies : Bool) (code : ℕ) (later : Option ℕ) → not applies ≡ true → later ≡ None → cond applies (Some code) later ≡ None
    by_test true code later h none = cc
    by_test false code later h none = none

first_of : (here : Bool) (one other : Decision) → here ≡ true → cond here one other ≡ one
first_of true one other e = refl
first_of false one other e = cc

no_session_named : (session value : Option (List ℕ)) → not (is_some value) ≡ true → names_no_session Options session value ≡ false
no_session_named session None e = refl
no_session_named session (Some value) e = cc

no_range : (range : Option (Result Range RangeFault)) → has_bad_range Options range ≡ false
no_range None = refl
no_range (Some (Ok range)) = refl
no_range (Some (Err fault)) = refl

-- No rule applies to OPTIONS without a session.
options_rules : (judged : Judged) (said : Said) (uri : List ℕ) → not (is_named said) ≡ true →
    list_all (λ (one : Rule). not one.applies) (session_rules judged Options said uri) ≡ true
options_rules judged said uri own =
    ap (λ t. not t && (not (is_out_of_turn judged Options said uri) && (true && (true && (not (has_bad_range Options said.range) && (true && (true && true))))))) (no_session_named judged.session said.session own)
    ∙ ap (λ t. not (not t || false) && (true && (true && (not (has_bad_range Options said.range) && (true && (true && true)))))) (always_allowed judged.state)
    ∙ ap (λ t. not t && (true && (true && true))) (no_range said.range)

own_by : (method : Method) (judged : Judged) (request : Request1) (said : Said) (uri : List ℕ) → is_for_gateway method said ≡ true → method ≡ Options →
    by_rules judged request said uri (unless_code (first_code (session_rules judged method said uri)) (admission method said)) ≡ by_rules judged request said uri (Ok Other)
own_by method judged request said uri own options =
    let parts = and_parts (same_method method Options) (not (is_named said)) own in
    ap (λ m. by_rules judged request said uri (unless_code (first_code (session_rules judged m said uri)) (admission m said))) options
    ∙ ap (λ code. by_rules judged request said uri (unless_code code (Ok Other))) (none_applies (session_rules judged Options said uri) (options_rules judged said uri parts.1))

pub own_answered : (judged : Judged) (request : Request1) → is_for_gateway request.method (said_of judged.all request) ≡ true → decide_request judged request ≡ Answer (options_text request.cseq)
own_answered judged request own =
    let said = said_of judged.all request in
    let uri = uri_up judged request.uri in
    let parts = and_parts (same_method request.method Options) (not (is_named said)) own in
    own_by request.method judged request said uri own (is_options request.method parts.0)
    ∙ first_of (is_for_gateway request.method said) (Answer (options_text request.cseq)) (serve judged request said uri Other) own
