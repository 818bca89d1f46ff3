-- A player of a drill brings up six requests at most: its OPTIONS stays with the gateway, and its TEARDOWN ends the session
-- that its SETUP makes.
use Rattle.std.proofs.Common.{◌≡◌, ℕ, ◌+◌, ◌*◌, ◌^◌, ◌≤◌, ◌<◌, Bool, false, List, [], ◌∷◌, length, Option, Some, None, Result, refl, sym, subst, arith}
use Rattle.std.specs.Prelude.{codes, is_some, drop}
use Rattle.rtsp_head.specs.declared.fault.HeadFault.{HeadFault}
use Rattle.rtsp_head.specs.declared.head.Head.{Head}
use Rattle.rtsp_head.specs.declared.header.Header.{Header}
use Rattle.rtsp_head.specs.declared.item.ItemKind.{ItemKind}
use Rattle.rtsp_head.specs.declared.item.ItemKind.TheVariants as kinds
use Rattle.rtsp_head.specs.HeadParts.{Request}
use Rattle.rtsp_head.specs.Headers.{field_of}
use Rattle.rtsp_small.specs.declared.method.Method.{Method}
use Rattle.rtsp_small.specs.Methods.{method_of}
use Rattle.head_one.specs.Refusals.{version_one, RequestFields, request_parts, first_code, head_rules, method_and_number, unless_refused}
use Rattle.head_one.specs.Requests.{request_checked, request_of_head}
use Rattle.drill_server.specs.ServerSteps.{is_request_kind}
use Rattle.drill_run.specs.declared.player.Player.{Player}
use Rattle.drill_run.specs.declared.step.PlayerStep.{PlayerStep}
use Rattle.drill_run.specs.declared.step.PlayerStep.TheVariants as steps
use Rattle.drill_run.specs.Steps.{step_after}
use Rattle.drill_run.specs.TurnCounts.{over_players}
use Rattle.drill_run.specs.Turns.{Drilled, DrillRun}
use Rattle.drill_run.proofs.MostLemmas.{most_asked, most_read, most_for, most_arrived, most_item}
use Rattle.drill_run.proofs.RequestCountLemmas.{IsWeighed, said_within}
use Rattle.drill_run.proofs.ScriptLemmas.{WeighsMost, step_most, script_weighed}
use Rattle.drill_run.proofs.TurnCountLemmas.{run_counted}
use Rattle.drill_run.proofs.UpstreamLemmas.{told_in}

-- By the name of the method, and by the headers.
abbrev most_known : Option Method → Bool → ℕ
most_known None named = 0
most_known (Some method) named = most_asked method named

abbrev most_named : List ℕ → List Header → ℕ
most_named method headers = most_known (method_of method) (is_some (field_of headers (codes "Session")))

number_most : (known : Option Method) (cseq : Option ℕ) (parts : RequestFields) (head : Head) (body : List ℕ)
    → most_read (request_checked (method_and_number known cseq) parts head body) ≤ most_known known (is_some (field_of head.headers (codes "Session")))
number_most None cseq parts head body = omega arith
number_most (Some method) None parts head body = omega arith
number_most (Some method) (Some cseq) parts head body = omega arith

checked_most : (code : Option ℕ) (parts : RequestFields) (head : Head) (body : List ℕ)
    → most_read (request_checked (unless_refused code parts) parts head body) ≤ most_known parts.known (is_some (field_of head.headers (codes "Session")))
checked_most (Some code) parts head body = omega arith
checked_most None parts head body = number_most parts.known parts.cseq parts head body

kind_most : (kind : ItemKind) (most : ℕ) → most_arrived kind most ≤ most
kind_most kinds.Request most = omega arith
kind_most kinds.Response most = omega arith
kind_most kinds.Frame most = omega arith
kind_most (kinds.Bad fault) most = omega arith

kind_none : (kind : ItemKind) (most : ℕ) → is_request_kind kind ≡ false → most_arrived kind most ≡ 0
kind_none kinds.Request most is = cc
kind_none kinds.Response most is = refl
kind_none kinds.Frame most is = refl
kind_none (kinds.Bad fault) most is = refl

weighs_most : WeighsMost most_item most_named
weighs_most = record {
  other = λ shape is. kind_none shape.kind (most_for shape) is;
  request = λ shape method uri headers read.
      let head : Head = record { start = Request method uri version_one; headers = headers } in
      let body = drop shape.head shape.bytes in
      let parts = request_parts method uri version_one headers in
      let checked = checked_most (first_code (head_rules parts)) parts head body in
      let most : most_for shape ≤ most_named method headers = subst (λ (r : Result Head HeadFault). most_read (request_of_head r body) ≤ most_named method headers) (sym read) checked in
      let kind = kind_most shape.kind (most_for shape) in
      omega (arith, most, kind);
}

-- So much at most was brought up before a step.
abbrev most_before : Option PlayerStep → ℕ
most_before (Some steps.Options) = 0
most_before (Some steps.Describe) = 0
most_before (Some steps.SetupFirst) = 1
most_before (Some steps.SetupSecond) = 3
most_before (Some steps.Play) = 4
most_before (Some steps.Frame) = 6
most_before (Some steps.Teardown) = 6
most_before (Some steps.End) = 6
most_before None = 6

step_weighs : (step : PlayerStep) (id : List ℕ) → step_most most_named step id + most_before (Some step) ≡ most_before (step_after step)
step_weighs steps.Options id = refl
step_weighs steps.Describe id = refl
step_weighs steps.SetupFirst id = refl
step_weighs steps.SetupSecond id = refl
step_weighs steps.Play id = refl
step_weighs steps.Frame id = refl
step_weighs steps.Teardown id = refl
step_weighs steps.End id = refl

most_weighed : IsWeighed most_item most_before
most_weighed step i id below value = let few = script_weighed most_item most_named weighs_most step i id below value in let steps = step_weighs step id in omega (arith, few, steps)

most_brought : (next : Option PlayerStep) → most_before next ≤ 6
most_brought None = omega arith
most_brought (Some steps.Options) = omega arith
most_brought (Some steps.Describe) = omega arith
most_brought (Some steps.SetupFirst) = omega arith
most_brought (Some steps.SetupSecond) = omega arith
most_brought (Some steps.Play) = omega arith
most_brought (Some steps.Frame) = omega arith
most_brought (Some steps.Teardown) = omega arith
most_brought (Some steps.End) = omega arith

few_brought : (players : List Player) → over_players most_before players ≤ 6 * length players
few_brought [] = omega arith
few_brought (player ∷ players) = omega (arith, most_brought player.next, few_brought players)

pub brought_few : (players number : ℕ) (drilled : Drilled) → players < 2 ^ 32 → DrillRun players number drilled → told_in most_item drilled.history ≤ 6 * players
brought_few players number drilled small ran =
    let few = said_within most_item most_before most_weighed players number drilled small ran in
    let most = few_brought drilled.players in
    let many = (run_counted players number drilled ran).many in
    omega (arith, few, most, many)
