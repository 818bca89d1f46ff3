-- The codes of refusals have reasons.
use Rattle.std.proofs.Common.{◌≡◌, ℕ, Bool, true, false, cond, List, [], ◌∷◌, take, drop, Option, None, Some, Result, Ok, Err, refl, subst}
use Rattle.std.specs.List.{list_all}
use Rattle.std.proofs.lemmas.Bool.{and_parts}
use Rattle.rtsp_status.specs.Reasons.{has_reason}
use Rattle.rtsp_head.specs.Items.{Shape}
use Rattle.rtsp_head.specs.Heads.{head_of}
use Rattle.rtsp_head.specs.declared.head.Head.{Head}
use Rattle.rtsp_head.specs.HeadParts.{Start, Request, Status}
use Rattle.rtsp_head.specs.declared.fault.HeadFault.{HeadFault}
use Rattle.rtsp_small.specs.declared.method.Method.{Method}
use Rattle.head_one.specs.declared.refusal.Refusal.{Refusal}
use Rattle.head_one.specs.Refusals.{Rule, RequestFields, request_parts, head_rules, first_code, method_and_number, unless_refused, parts_checked, refusal, no_request}
use Rattle.head_one.specs.Requests.{request_checked, request_at_start, request_of_head, request_of_item}

-- What holds of the code of each rule holds of the first that applies.
pub first_reason : (all : List Rule) (code : ℕ) → list_all (λ (one : Rule). has_reason one.code) all ≡ true → first_code all ≡ Some code → has_reason code ≡ true
first_reason [] code known e = cc
first_reason (one ∷ more) code known e =
    let parts = and_parts (has_reason one.code) (list_all (λ (one : Rule). has_reason one.code) more) known in
    at_one one.applies one.code (first_code more) code parts.0 (first_reason more code parts.1) e
  where
    at_one : (applies : Bool) (own : ℕ) (later : Option ℕ) (code : ℕ) → has_reason own ≡ true → (later ≡ Some code → has_reason code ≡ true) → cond applies (Some own) later ≡ Some code → has_reason code ≡ true
    at_one true own later code known more e = let same : own ≡ code = cc in subst (λ (c : ℕ). has_reason c ≡ true) same known
    at_one false own later code known more e = more e

read_reason : (known : Option Method) (cseq : Option ℕ) (code : ℕ) → method_and_number known cseq ≡ Err code → has_reason code ≡ true
read_reason (Some method) (Some cseq) code e = cc
read_reason (Some method) None code e = let same : 400 ≡ code = cc in subst (λ (c : ℕ). has_reason c ≡ true) same refl
read_reason None cseq code e = let same : 501 ≡ code = cc in subst (λ (c : ℕ). has_reason c ≡ true) same refl

unless_reason : (found : Option ℕ) (parts : RequestFields) (code : ℕ) → ((one : ℕ) → found ≡ Some one → has_reason one ≡ true) → unless_refused found parts ≡ Err code → has_reason code ≡ true
unless_reason None parts code known e = read_reason parts.known parts.cseq code e
unless_reason (Some one) parts code known e = let same : one ≡ code = cc in subst (λ (c : ℕ). has_reason c ≡ true) same (known one refl)

checked_reason : (checked : Result (Method × ℕ) ℕ) (parts : RequestFields) (head : Head) (body : List ℕ) (refused : Refusal) → ((code : ℕ) → checked ≡ Err code → has_reason code ≡ true) →
    request_checked checked parts head body ≡ Err refused → has_reason refused.code ≡ true
checked_reason (Ok both) parts head body refused known e = cc
checked_reason (Err code) parts head body refused known e =
    let same : refusal parts code ≡ refused = cc in
    subst (λ (r : Refusal). has_reason r.code ≡ true) same (known code refl)

at_reason : (start : Start) (head : Head) (body : List ℕ) (refused : Refusal) → request_at_start start head body ≡ Err refused → has_reason refused.code ≡ true
at_reason (Request method uri version) head body refused e =
    let parts = request_parts method uri version head.headers in
    checked_reason (parts_checked parts) parts head body refused
    (λ code h. unless_reason (first_code (head_rules parts)) parts code (λ one found. first_reason (head_rules parts) one refl found) h) e
at_reason (Status version code reason) head body refused e = let same : no_request ≡ refused = cc in subst (λ (r : Refusal). has_reason r.code ≡ true) same refl

of_reason : (found : Result Head HeadFault) (body : List ℕ) (refused : Refusal) → request_of_head found body ≡ Err refused → has_reason refused.code ≡ true
of_reason (Ok head) body refused e = at_reason head.start head body refused e
of_reason (Err fault) body refused e = let same : no_request ≡ refused = cc in subst (λ (r : Refusal). has_reason r.code ≡ true) same refl

-- The code of a refusal has a reason.
pub refusal_reason : (shape : Shape) (refused : Refusal) → request_of_item shape ≡ Err refused → has_reason refused.code ≡ true
refusal_reason shape refused e = of_reason (head_of (take shape.head shape.bytes)) (drop shape.head shape.bytes) refused e
