-- What the gateway answers by itself is read back as one reply.
use Rattle.std.proofs.Common.{◌≡◌, ℕ, ◌<◌, ◌^◌, Bool, true, false, ◌==◌, cond, List, [], ◌∷◌, length, take, drop, Option, None, Some, IfSome, Result, Ok, Err, refl, subst, arith}
use Rattle.std.specs.Prelude.{codes}
use Rattle.std.specs.Option.{option_or}
use Rattle.std.specs.List.{list_all}
use Rattle.rtsp_head.specs.Items.{Shape}
use Rattle.rtsp_head.specs.Heads.{head_of}
use Rattle.rtsp_head.specs.Headers.{field_of}
use Rattle.rtsp_head.specs.declared.header.Header.{Header}
use Rattle.rtsp_head.specs.declared.head.Head.{Head}
use Rattle.rtsp_head.specs.HeadParts.{Start, Request, Status}
use Rattle.rtsp_head.specs.declared.fault.HeadFault.{HeadFault}
use Rattle.rtsp_head.specs.HeadText.{is_header, CanBeWritten}
use Rattle.rtsp_head.specs.Optional.{Field, named, field_headers}
use Rattle.rtsp_head.proofs.SoundLemmas.{field_sound, read_sound}
use Rattle.rtsp_head.proofs.FieldLemmas.{EachField, HasValue}
use Rattle.rtsp_small.specs.declared.cseq.TheConstants.{CSEQ_ONE_DIGITS}
use Rattle.rtsp_small.specs.declared.method.Method.{Method}
use Rattle.rtsp_small.specs.declared.method.Method.TheVariants as methods
use Rattle.rtsp_transport.specs.declared.channels.Pair.{Pair}
use Rattle.rtsp_range.specs.declared.fault.RangeFault.{RangeFault}
use Rattle.gate_bytes.specs.Tokens.{is_token}
use Rattle.rtsp_small.specs.Methods.{methods_text}
use Rattle.rtsp_status.specs.Reasons.{has_reason}
use Rattle.rtsp_range.specs.declared.range.Range.{Range}
use Rattle.rtsp_range.specs.RangeText.{range_text}
use Rattle.head_one.specs.declared.request.Request1.{Request1}
use Rattle.head_one.specs.declared.reply.Reply1.{Reply1}
use Rattle.head_one.specs.declared.refusal.Refusal.{Refusal}
use Rattle.head_one.specs.Refusals.{RequestFields, request_parts, said, required, first_code, parts_checked, refusal, no_request}
use Rattle.head_one.specs.Replies.{IsReply}
use Rattle.head_one.specs.Requests.{request_checked, request_at_start, request_of_head, request_of_item}
use Rattle.head_one.proofs.ReadLemmas.{reply_read, replies_read}
use Rattle.head_one.proofs.FieldReplies.{is_own, numbered_reply}
use Rattle.session_one.specs.declared.table.State.{State}
use Rattle.session_one.specs.declared.table.State.TheVariants.{Init, Ready, Playing}
use Rattle.translate_up.specs.declared.decision.Decision.{Decision}
use Rattle.translate_up.specs.declared.decision.Decision.TheVariants.{Answer}
use Rattle.translate_up.specs.declared.rule.Admission.{Admission}
use Rattle.translate_up.specs.declared.rule.Admission.TheVariants.{SetUp, Played, Other}
use Rattle.translate_up.specs.Views.{Given, Judged}
use Rattle.translate_up.specs.Fields.{Said, said_of, is_named}
use Rattle.translate_up.specs.Upward.{uri_up, session_said}
use Rattle.translate_up.specs.Rules.{session_rules, with_channels, with_range, admission, unless_code, rules_checked}
use Rattle.translate_up.specs.Answers.{own_answer, refusal_text, options_text, play_text}
use Rattle.translate_up.specs.Decisions.{play_on, play_in, serve, is_for_gateway, by_rules, decide_request, decide_read, judged_of, decide}
use Rattle.translate_up.proofs.JudgementLemmas.{judged_fit}
use Rattle.translate_up.specs.Sound.{AreFit, IsFit}
use Rattle.translate_up.specs.OneReply.{IsOneReply, AnswersOneReply}
use Rattle.translate_up.proofs.ReadLemmas.{Read, cseq_small, request_read}
use Rattle.translate_up.proofs.ReasonLemmas.{first_reason, refusal_reason}
use Rattle.translate_up.proofs.SoundLemmas.{AreValues, IsWritable, where_value, session_value, range_value}
use Rattle.translate_up.proofs.DecideLemmas.{IsSoundAdmission, AdmitsSound, said_sound, admission_sound, unless_sound}

-- an answer with such fields is one reply
answer_one : (code : ℕ) (cseq : Option ℕ) (fields : List Field) → has_reason code ≡ true → IfSome cseq (λ n. n < 10 ^ CSEQ_ONE_DIGITS) → length fields < 9 →
    list_all (λ field. is_token field.name) fields ≡ true → list_all (λ field. is_own field.name) fields ≡ true → EachField HasValue fields → IsOneReply (own_answer code cseq (field_headers fields))
answer_one code cseq fields known short few tokens own values =
    let reply : Reply1 = record { code = code; cseq = cseq; headers = field_headers fields; body = [] } in
    let is : IsReply reply = numbered_reply reply fields refl short known (omega arith) (omega (arith, few)) tokens own values in
    record { reply = reply; one = reply_read reply is; row = λ rest. replies_read reply rest is }

options_one : (cseq : ℕ) → cseq < 10 ^ CSEQ_ONE_DIGITS → IsOneReply (options_text cseq)
options_one cseq short = answer_one 200 (Some cseq) (named (codes "Public") (Some methods_text) ∷ []) refl short (omega arith) refl refl (refl, tt)

play_one : (cseq : ℕ) (session range : Option (List ℕ)) → cseq < 10 ^ CSEQ_ONE_DIGITS → AreValues session → AreValues range → IsOneReply (play_text cseq session range)
play_one cseq session range short s r =
    answer_one 200 (Some cseq) (named (codes "Session") session ∷ named (codes "Range") range ∷ []) refl short (omega arith) refl refl (s, (r, tt))

code_one : (code cseq : ℕ) → has_reason code ≡ true → cseq < 10 ^ CSEQ_ONE_DIGITS → IsOneReply (own_answer code (Some cseq) [])
code_one code cseq known short = answer_one code (Some cseq) [] known short (omega arith) refl refl tt

-- The code of a refusal by the rules has a reason.
channels_reason : (channels : Option Pair) (code : ℕ) → with_channels channels ≡ Err code → has_reason code ≡ true
channels_reason None code e = let same : 461 ≡ code = cc in subst (λ (c : ℕ). has_reason c ≡ true) same refl
channels_reason (Some pair) code e = cc

range_reason : (range : Option (Result Range RangeFault)) (code : ℕ) → with_range range ≡ Err code → has_reason code ≡ true
range_reason None code e = cc
range_reason (Some (Ok range)) code e = cc
range_reason (Some (Err fault)) code e = let same : 457 ≡ code = cc in subst (λ (c : ℕ). has_reason c ≡ true) same refl

admission_reason : (method : Method) (said : Said) (code : ℕ) → admission method said ≡ Err code → has_reason code ≡ true
admission_reason methods.Options said code e = cc
admission_reason methods.Describe said code e = cc
admission_reason methods.Setup said code e = channels_reason said.channels code e
admission_reason methods.Play said code e = range_reason said.range code e
admission_reason methods.Pause said code e = cc
admission_reason methods.Teardown said code e = cc
admission_reason methods.GetParameter said code e = cc
admission_reason methods.SetParameter said code e = cc

rules_reason : (found : Option ℕ) (admitted : Result Admission ℕ) (code : ℕ) → ((one : ℕ) → found ≡ Some one → has_reason one ≡ true) → ((one : ℕ) → admitted ≡ Err one → has_reason one ≡ true) →
    unless_code found admitted ≡ Err code → has_reason code ≡ true
rules_reason None admitted code first later e = later code e
rules_reason (Some one) admitted code first later e = let same : one ≡ code = cc in subst (λ (c : ℕ). has_reason c ≡ true) same (first one refl)

-- a decision, where a test chooses
either : (test : Bool) (one other : Decision) → AnswersOneReply one → AnswersOneReply other → AnswersOneReply (cond test one other)
either true one other a b = a
either false one other a b = b

play_on_one : (judged : Judged) (request : Request1) (said : Said) (uri : List ℕ) (range : Option Range) → IsFit judged → Read request → IsWritable range → AnswersOneReply (play_on judged request said uri range)
play_on_one judged request said uri None fit read can =
    play_one request.cseq (session_said judged said) None read.cseq (where_value (is_named said) judged.session (session_value judged.session fit.session)) tt
play_on_one judged request said uri (Some range) fit read can =
    play_one request.cseq (session_said judged said) (Some (range_text range)) read.cseq (where_value (is_named said) judged.session (session_value judged.session fit.session)) (range_value (Some range) can)

play_in_one : (state : State) (judged : Judged) (request : Request1) (said : Said) (uri : List ℕ) (range : Option Range) → IsFit judged → Read request → IsWritable range →
    AnswersOneReply (play_in state judged request said uri range)
play_in_one Init judged request said uri range fit read can = tt
play_in_one Ready judged request said uri range fit read can = tt
play_in_one Playing judged request said uri range fit read can = play_on_one judged request said uri range fit read can

serve_one : (judged : Judged) (request : Request1) (said : Said) (uri : List ℕ) (admitted : Admission) → IsFit judged → Read request → IsSoundAdmission admitted →
    AnswersOneReply (serve judged request said uri admitted)
serve_one judged request said uri (SetUp pair) fit read sound = tt
serve_one judged request said uri (Played range) fit read sound = play_in_one judged.state judged request said uri range fit read sound
serve_one judged request said uri Other fit read sound = tt

by_rules_one : (judged : Judged) (request : Request1) (said : Said) (uri : List ℕ) (checked : Result Admission ℕ) → IsFit judged → Read request → AdmitsSound checked →
    ((code : ℕ) → checked ≡ Err code → has_reason code ≡ true) → AnswersOneReply (by_rules judged request said uri checked)
by_rules_one judged request said uri (Err code) fit read sound known = code_one code request.cseq (known code refl) read.cseq
by_rules_one judged request said uri (Ok admitted) fit read sound known =
    either (is_for_gateway request.method said) (Answer (options_text request.cseq)) (serve judged request said uri admitted)
    (options_one request.cseq read.cseq) (serve_one judged request said uri admitted fit read sound)

request_one : (judged : Judged) (request : Request1) → IsFit judged → Read request → AnswersOneReply (decide_request judged request)
request_one judged request fit read =
    let said = said_of judged.all request in
    let uri = uri_up judged request.uri in
    let rules = session_rules judged request.method said uri in
    by_rules_one judged request said uri (rules_checked judged request.method said uri) fit read
    (unless_sound (first_code rules) (admission request.method said) (admission_sound request.method said (said_sound judged.all request)))
    (λ code e. rules_reason (first_code rules) (admission request.method said) code (λ one found. first_reason rules one refl found) (admission_reason request.method said) e)

-- What a head tells of its refusal can be written.
record IsToldRefusal (refused : Refusal) : Type 0 where
  pub cseq : IfSome refused.cseq (λ n. n < 10 ^ CSEQ_ONE_DIGITS)
  pub unsupported : AreValues refused.unsupported

said_value : (value : Option (List ℕ)) → AreValues value → AreValues (said value)
said_value None v = tt
said_value (Some value) v = by_length (length value == 0)
  where
    by_length : (empty : Bool) → AreValues (cond empty None (Some value))
    by_length true = tt
    by_length false = v

or_value : (one other : Option (List ℕ)) → AreValues one → AreValues other → AreValues (option_or one other)
or_value None other a b = b
or_value (Some value) other a b = a

required_value : (headers : List Header) → list_all is_header headers ≡ true → AreValues (required headers)
required_value headers sound =
    or_value (said (field_of headers (codes "Require"))) (said (field_of headers (codes "Proxy-Require")))
    (said_value (field_of headers (codes "Require")) (field_sound headers (codes "Require") sound))
    (said_value (field_of headers (codes "Proxy-Require")) (field_sound headers (codes "Proxy-Require") sound))

when_551 : (test : Bool) (value : Option (List ℕ)) → AreValues value → AreValues (cond test value None)
when_551 true value v = v
when_551 false value v = tt

checked_told : (checked : Result (Method × ℕ) ℕ) (parts : RequestFields) (head : Head) (body : List ℕ) (refused : Refusal) → IfSome parts.cseq (λ n. n < 10 ^ CSEQ_ONE_DIGITS) → AreValues parts.required →
    request_checked checked parts head body ≡ Err refused → IsToldRefusal refused
checked_told (Ok both) parts head body refused small value e = cc
checked_told (Err code) parts head body refused small value e =
    let same : refusal parts code ≡ refused = cc in
    subst IsToldRefusal same (record { cseq = small; unsupported = when_551 (code == 551) parts.required value })

nothing_told : (refused : Refusal) → no_request ≡ refused → IsToldRefusal refused
nothing_told refused same = subst IsToldRefusal same (record { cseq = tt; unsupported = tt })

at_told : (start : Start) (head : Head) (body : List ℕ) (refused : Refusal) → list_all is_header head.headers ≡ true → request_at_start start head body ≡ Err refused → IsToldRefusal refused
at_told (Request method uri version) head body refused sound e =
    let parts = request_parts method uri version head.headers in
    checked_told (parts_checked parts) parts head body refused (cseq_small head.headers) (required_value head.headers sound) e
at_told (Status version code reason) head body refused sound e = let same : no_request ≡ refused = cc in nothing_told refused same

of_told : (found : Result Head HeadFault) (body : List ℕ) (refused : Refusal) → ((head : Head) → found ≡ Ok head → CanBeWritten head.start head.headers) → request_of_head found body ≡ Err refused → IsToldRefusal refused
of_told (Ok head) body refused can e = at_told head.start head body refused (can head refl).headers e
of_told (Err fault) body refused can e = let same : no_request ≡ refused = cc in nothing_told refused same

refusal_one : (refused : Refusal) → has_reason refused.code ≡ true → IsToldRefusal refused → IsOneReply (refusal_text refused)
refusal_one refused known told =
    answer_one refused.code refused.cseq (named (codes "Unsupported") refused.unsupported ∷ []) known told.cseq (omega arith) refl refl (told.unsupported, tt)

read_answers : (judged : Judged) (found : Result Request1 Refusal) → IsFit judged → ((request : Request1) → found ≡ Ok request → Read request) →
    ((refused : Refusal) → found ≡ Err refused → (has_reason refused.code ≡ true) × IsToldRefusal refused) → AnswersOneReply (decide_read judged found)
read_answers judged (Ok request) fit known told = request_one judged request fit (known request refl)
read_answers judged (Err refused) fit known told = let both = told refused refl in refusal_one refused both.0 both.1

-- What the gateway answers by itself is one reply.
pub decide_answers : (given : Given) (shape : Shape) → AreFit given → length shape.bytes < 2 ^ 64 → AnswersOneReply (decide given shape)
decide_answers given shape fit short =
    read_answers (judged_of given shape) (request_of_item shape) (judged_fit given (request_of_item shape) fit) (λ request e. request_read shape request short e)
    (λ refused e. (refusal_reason shape refused e, of_told (head_of (take shape.head shape.bytes)) (drop shape.head shape.bytes) refused (read_sound (take shape.head shape.bytes)) e))
