-- What is known of a request that was read: its URI, its headers and its body fit into a message.
use Rattle.std.proofs.Common.{IfSome, ◌≡◌, ℕ, ◌<◌, ◌^◌, true, ◌&&◌, not, List, length, take, drop, Option, None, Some, Result, Ok, Err, refl, ◌∙◌, ap, subst, length-drop, arith}
use Rattle.std.specs.List.{list_all}
use Rattle.std.proofs.lemmas.Bool.{and_parts}
use Rattle.rtsp_head.specs.Items.{Shape}
use Rattle.rtsp_head.specs.Heads.{head_of}
use Rattle.rtsp_head.specs.Starts.{names_protocol}
use Rattle.rtsp_head.specs.HeadText.{is_part, is_line_text, is_start, is_header, CanBeWritten}
use Rattle.rtsp_head.specs.declared.head.Head.{Head}
use Rattle.rtsp_head.specs.HeadParts.{Start, Request, Status}
use Rattle.rtsp_head.specs.declared.fault.HeadFault.{HeadFault}
use Rattle.rtsp_head.proofs.SoundLemmas.{read_sound}
use Rattle.rtsp_small.specs.declared.method.Method.{Method}
use Rattle.head_one.specs.declared.request.Request1.{Request1}
use Rattle.head_one.specs.Refusals.{RequestFields, request_parts, client_cseq, head_rules, first_code, method_and_number, unless_refused, parts_checked}
use Rattle.rtsp_small.specs.declared.cseq.TheConstants.{CSEQ_ONE_DIGITS}
use Rattle.gate_bytes.specs.Numbers.{number_in}
use Rattle.gate_bytes.proofs.DigitLemmas.{number_small}
use Rattle.rtsp_head.specs.declared.header.Header.{Header}
use Rattle.rtsp_head.specs.Headers.{field_of}
use Rattle.std.specs.Prelude.{codes}
use Rattle.std.specs.Option.{option_and_then}
use Rattle.head_one.specs.Requests.{request_checked, request_at_start, request_of_head, request_of_item}
use Rattle.translate_up.specs.Sound.{is_target}

pub record Read (request : Request1) : Type 0 where
  pub cseq : request.cseq < 10 ^ CSEQ_ONE_DIGITS
  pub uri : is_target request.uri ≡ true
  pub headers : list_all is_header request.head.headers ≡ true
  pub body : length request.body < 2 ^ 64

start_uri : (method uri version : List ℕ) → is_start (Request method uri version) ≡ true → is_target uri ≡ true
start_uri method uri version h =
    let all = and_parts (((is_part method && not (names_protocol method)) && is_part uri) && (is_part version && names_protocol version)) ((is_line_text method && is_line_text uri) && is_line_text version) h in
    let texts = and_parts (is_line_text method && is_line_text uri) (is_line_text version) all.1 in
    let text = and_parts (is_line_text method) (is_line_text uri) texts.0 in
    let parts = and_parts ((is_part method && not (names_protocol method)) && is_part uri) (is_part version && names_protocol version) all.0 in
    let front = and_parts (is_part method && not (names_protocol method)) (is_part uri) parts.0 in
    ap (λ t. t && is_line_text uri) front.1 ∙ text.1

-- the number of a request that no rule refuses is the one that was read
number_read : (known : Option Method) (cseq : Option ℕ) (both : Method × ℕ) → IfSome cseq (λ n. n < 10 ^ CSEQ_ONE_DIGITS) → method_and_number known cseq ≡ Ok both → both.1 < 10 ^ CSEQ_ONE_DIGITS
number_read (Some method) (Some cseq) both small e =
    let same : ◌≡◌ {A = Method × ℕ} (method, cseq) both = cc in
    subst (λ (pair : Method × ℕ). pair.1 < 10 ^ CSEQ_ONE_DIGITS) same small
number_read (Some method) None both small e = cc
number_read None cseq both small e = cc

unless_small : (code : Option ℕ) (parts : RequestFields) (both : Method × ℕ) → IfSome parts.cseq (λ n. n < 10 ^ CSEQ_ONE_DIGITS) → unless_refused code parts ≡ Ok both → both.1 < 10 ^ CSEQ_ONE_DIGITS
unless_small None parts both small e = number_read parts.known parts.cseq both small e
unless_small (Some code) parts both small e = cc

cseq_by : (value : Option (List ℕ)) → IfSome (option_and_then (number_in CSEQ_ONE_DIGITS) value) (λ n. n < 10 ^ CSEQ_ONE_DIGITS)
cseq_by None = tt
cseq_by (Some text) = number_small CSEQ_ONE_DIGITS text

-- The number of a head has as many digits as it may have.
pub cseq_small : (headers : List Header) → IfSome (client_cseq headers) (λ n. n < 10 ^ CSEQ_ONE_DIGITS)
cseq_small headers = cseq_by (field_of headers (codes "CSeq"))

checked_read : (checked : Result (Method × ℕ) ℕ) (parts : RequestFields) (head : Head) (body : List ℕ) (request : Request1) → ((both : Method × ℕ) → checked ≡ Ok both → both.1 < 10 ^ CSEQ_ONE_DIGITS) →
    is_target parts.uri ≡ true → list_all is_header head.headers ≡ true → length body < 2 ^ 64 → request_checked checked parts head body ≡ Ok request → Read request
checked_read (Ok both) parts head body request small u h b e =
    let made : Request1 = record { method = both.0; uri = parts.uri; cseq = both.1; head = head; body = body } in
    let same : made ≡ request = cc in
    subst (λ (r : Request1). Read r) same (record { cseq = small both refl; uri = u; headers = h; body = b })
checked_read (Err code) parts head body request small u h b e = cc

at_read : (start : Start) (head : Head) (body : List ℕ) (request : Request1) → is_start start ≡ true → list_all is_header head.headers ≡ true → length body < 2 ^ 64 →
    request_at_start start head body ≡ Ok request → Read request
at_read (Request method uri version) head body request first h b e =
    let parts = request_parts method uri version head.headers in
    checked_read (parts_checked parts) parts head body request (λ both found. unless_small (first_code (head_rules parts)) parts both (cseq_small head.headers) found) (start_uri method uri version first) h b e
at_read (Status version code reason) head body request first h b e = cc

of_read : (found : Result Head HeadFault) (body : List ℕ) (request : Request1) → ((head : Head) → found ≡ Ok head → CanBeWritten head.start head.headers) → length body < 2 ^ 64 →
    request_of_head found body ≡ Ok request → Read request
of_read (Ok head) body request can b e = let sound = can head refl in at_read head.start head body request sound.start sound.headers b e
of_read (Err fault) body request can b e = cc

-- A request that was read fits into a message.
pub request_read : (shape : Shape) (request : Request1) → length shape.bytes < 2 ^ 64 → request_of_item shape ≡ Ok request → Read request
request_read shape request short e =
    of_read (head_of (take shape.head shape.bytes)) (drop shape.head shape.bytes) request (read_sound (take shape.head shape.bytes))
    (omega (arith, length-drop shape.head shape.bytes)) e
