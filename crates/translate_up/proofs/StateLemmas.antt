-- What is decided on a request walks the table: an answer of the gateway itself leaves the state by a row, or as no success,
-- and what goes up has a row.
use Rattle.std.proofs.Common.{◌≡◌, ◌<◌, ◌^◌, ℕ, Bool, true, false, ◌&&◌, ◌||◌, ◌==◌, not, cond, List, [], ◌∷◌, length, take, drop, Option, None, Some, IfSome, IfOk, Result, Ok, Err, refl, sym, ap, subst, option_and_then, arith}
use Rattle.std.specs.Prelude.{codes}
use Rattle.std.specs.Option.{option_or}
use Rattle.std.specs.List.{list_all}
use Rattle.std.proofs.lemmas.Bool.{and_parts}
use Rattle.gate_bytes.specs.Tokens.{is_token}
use Rattle.rtsp_head.specs.Items.{Shape}
use Rattle.rtsp_head.specs.Heads.{head_of}
use Rattle.rtsp_head.specs.Headers.{field_of}
use Rattle.rtsp_head.specs.Optional.{Field, named, field_headers}
use Rattle.rtsp_head.specs.HeadText.{is_header, CanBeWritten}
use Rattle.rtsp_head.specs.declared.header.Header.{Header}
use Rattle.rtsp_head.specs.declared.head.Head.{Head}
use Rattle.rtsp_head.specs.HeadParts.{Start}
use Rattle.rtsp_head.specs.HeadParts as starts
use Rattle.rtsp_head.specs.declared.fault.HeadFault.{HeadFault}
use Rattle.rtsp_head.proofs.SoundLemmas.{field_sound, read_sound}
use Rattle.rtsp_head.proofs.FieldLemmas.{EachField, HasValue}
use Rattle.rtsp_small.specs.declared.cseq.TheConstants.{CSEQ_ONE_DIGITS}
use Rattle.rtsp_small.specs.declared.method.Method.{Method}
use Rattle.rtsp_small.specs.declared.method.Method.TheVariants as methods
use Rattle.rtsp_small.specs.Methods.{methods_text}
use Rattle.rtsp_small.specs.Sessions.{is_session_id}
use Rattle.rtsp_status.specs.Reasons.{has_reason}
use Rattle.rtsp_range.specs.declared.range.Range.{Range}
use Rattle.rtsp_range.specs.declared.fault.RangeFault.{RangeFault}
use Rattle.rtsp_range.specs.RangeText.{range_text}
use Rattle.rtsp_transport.specs.declared.channels.Pair.{Pair}
use Rattle.rtsp_transport.specs.Channels.{AreApart}
use Rattle.head_one.specs.declared.request.Request1.{Request1}
use Rattle.head_one.specs.declared.reply.Reply1.{Reply1}
use Rattle.head_one.specs.declared.refusal.Refusal.{Refusal}
use Rattle.head_one.specs.Refusals.{Rule, RequestFields, request_parts, head_rules, said, required, first_code, method_and_number, unless_refused, parts_checked, refusal, no_request}
use Rattle.head_one.specs.Replies.{reply_text, IsReply}
use Rattle.head_one.specs.Requests.{request_checked, request_at_start, request_of_head, request_of_item}
use Rattle.head_one.proofs.FieldReplies.{is_own, numbered_reply}
use Rattle.session_one.specs.declared.table.State.{State}
use Rattle.session_one.specs.declared.table.State.TheVariants.{Init, Ready, Playing}
use Rattle.session_one.specs.declared.parts.Asked.{Asked}
use Rattle.session_one.specs.declared.parts.Track.{Track}
use Rattle.session_one.specs.Table.{same_method, next_of, is_allowed, is_success}
use Rattle.translate_up.specs.declared.decision.Decision.{Decision}
use Rattle.translate_up.specs.declared.decision.Decision.TheVariants.{Answer, Forward, Queue, Setup}
use Rattle.translate_up.specs.declared.rule.Admission.{Admission}
use Rattle.translate_up.specs.declared.rule.Admission.TheVariants.{SetUp, Played, Other}
use Rattle.translate_up.specs.Views.{Given, Judged}
use Rattle.translate_up.specs.Fields.{field, Said, said_of, is_setup, is_named}
use Rattle.translate_up.specs.Upward.{uri_up, session_said}
use Rattle.translate_up.specs.Rules.{sets_up_again, names_no_session, is_out_of_turn, session_rules, with_channels, with_range, admission, unless_code, rules_checked}
use Rattle.translate_up.specs.Answers.{own_answer, refusal_text, options_text}
use Rattle.translate_up.specs.Decisions.{play_on, play_in, serve, is_for_gateway, by_rules, decide_read, judged_of, decide}
use Rattle.translate_up.proofs.ReadLemmas.{Read, cseq_small, request_read}
use Rattle.translate_up.proofs.SoundLemmas.{AreValues, IsWritable, where_value, session_value, range_value}
use Rattle.translate_up.proofs.DecideLemmas.{IsSoundAdmission, AdmitsSound, said_sound, admission_sound, unless_sound}
use Rattle.translate_up.specs.Channels.{client_pair}
use Rattle.translate_up.specs.Leads.{method_asked, number_asked, led_by}
use Rattle.translate_up.proofs.ByteLemmas.{IsOfBytes, AreOfBytes, client_bytes}

-- the session's id, where there is one
abbrev pub IsValidId : Option (List ℕ) → Type 0
IsValidId id = IfSome id (λ one. is_session_id one ≡ true)

-- a number as that of a player's request
abbrev pub IsShortNumber : Option ℕ → Type 0
IsShortNumber cseq = IfSome cseq (λ n. n < 10 ^ CSEQ_ONE_DIGITS)

-- An answer of the gateway itself to what is read of a request: it can be read back, and leaves the state.
pub record IsAnswer (state : State) (found : Result Request1 Refusal) (text : List ℕ) : Type 0 where
  pub reply : Reply1
  pub text_is : text ≡ reply_text reply
  pub readable : IsReply reply
  pub number : reply.cseq ≡ number_asked found
  pub leads : led_by state (method_asked found) reply.code ≡ Some state

-- What is kept of a request that goes up: its method has a row.
pub record IsSent (state : State) (found : Result Request1 Refusal) (asked : Asked) : Type 0 where
  pub request : Request1
  pub found_is : found ≡ Ok request
  pub method : request.method ≡ asked.method
  pub cseq : request.cseq ≡ asked.cseq
  pub short : asked.cseq < 10 ^ CSEQ_ONE_DIGITS
  pub allowed : is_allowed state asked.method ≡ true

-- the channels that a player gets
abbrev pub IsGiven : Pair → Type 0
IsGiven pair = AreApart pair × IsOfBytes pair

abbrev pub IsDecided : State → Result Request1 Refusal → Decision → Type 0
IsDecided state found (Answer text) = IsAnswer state found text
IsDecided state found (Forward request asked) = IsSent state found asked
IsDecided state found (Queue play text) = IsAnswer state found text × (state ≡ Playing)
IsDecided state found (Setup request asked pair) = IsSent state found asked × IsGiven pair

-- The code of a refusal has a reason, and is no success.
abbrev refuses : ℕ → Bool
refuses code = has_reason code && not (is_success code)

pub not_true : (b : Bool) → not b ≡ true → b ≡ false
not_true true e = cc
not_true false e = refl

reason_known : (code : ℕ) → refuses code ≡ true → has_reason code ≡ true
reason_known code e = (and_parts (has_reason code) (not (is_success code)) e).0

refused_leads : (state : State) (method : Option Method) (code : ℕ) → refuses code ≡ true → led_by state method code ≡ Some state
refused_leads state method code e =
    ap (λ b. cond b (option_and_then (next_of state) method) (Some state)) (not_true (is_success code) (and_parts (has_reason code) (not (is_success code)) e).1)

first_refuses : (all : List Rule) (code : ℕ) → list_all (λ (one : Rule). refuses one.code) all ≡ true → first_code all ≡ Some code → refuses code ≡ true
first_refuses [] code known e = cc
first_refuses (one ∷ more) code known e =
    let parts = and_parts (refuses one.code) (list_all (λ (one : Rule). refuses one.code) more) known in
    at_one one.applies one.code (first_code more) code parts.0 (first_refuses more code parts.1) e
  where
    at_one : (applies : Bool) (own : ℕ) (later : Option ℕ) (code : ℕ) → refuses own ≡ true → (later ≡ Some code → refuses code ≡ true) → cond applies (Some own) later ≡ Some code → refuses code ≡ true
    at_one true own later code known more e = let same : own ≡ code = cc in subst (λ (c : ℕ). refuses c ≡ true) same known
    at_one false own later code known more e = more e

-- an answer with such fields
answer_made : (state : State) (found : Result Request1 Refusal) (code : ℕ) (cseq : Option ℕ) (fields : List Field) → has_reason code ≡ true → IsShortNumber cseq → length fields < 9 →
    list_all (λ field. is_token field.name) fields ≡ true → list_all (λ field. is_own field.name) fields ≡ true → EachField HasValue fields → cseq ≡ number_asked found → led_by state (method_asked found) code ≡ Some state
    → IsAnswer state found (own_answer code cseq (field_headers fields))
answer_made state found code cseq fields known short few tokens own values number leads =
    let reply : Reply1 = record { code = code; cseq = cseq; headers = field_headers fields; body = [] } in
    record { reply = reply; text_is = refl; readable = numbered_reply reply fields refl short known (omega arith) (omega (arith, few)) tokens own values; number = number; leads = leads }

-- What a head tells of its refusal.
record IsToldRefusal (refused : Refusal) : Type 0 where
  pub code : refuses refused.code ≡ true
  pub cseq : IsShortNumber refused.cseq
  pub unsupported : AreValues refused.unsupported

read_refuses : (known : Option Method) (cseq : Option ℕ) (code : ℕ) → method_and_number known cseq ≡ Err code → refuses code ≡ true
read_refuses (Some method) (Some cseq) code e = cc
read_refuses (Some method) None code e = let same : 400 ≡ code = cc in subst (λ (c : ℕ). refuses c ≡ true) same refl
read_refuses None cseq code e = let same : 501 ≡ code = cc in subst (λ (c : ℕ). refuses c ≡ true) same refl

unless_refuses : (found : Option ℕ) (parts : RequestFields) (code : ℕ) → ((one : ℕ) → found ≡ Some one → refuses one ≡ true) → unless_refused found parts ≡ Err code → refuses code ≡ true
unless_refuses None parts code known e = read_refuses parts.known parts.cseq code e
unless_refuses (Some one) parts code known e = let same : one ≡ code = cc in subst (λ (c : ℕ). refuses c ≡ true) same (known one refl)

said_value : (value : Option (List ℕ)) → AreValues value → AreValues (said value)
said_value None v = tt
said_value (Some value) v = by_length (length value == 0)
  where
    by_length : (empty : Bool) → AreValues (cond empty None (Some value))
    by_length true = tt
    by_length false = v

or_value : (one other : Option (List ℕ)) → AreValues one → AreValues other → AreValues (option_or one other)
or_value None other a b = b
or_value (Some value) other a b = a

required_value : (headers : List Header) → list_all is_header headers ≡ true → AreValues (required headers)
required_value headers sound =
    or_value (said (field_of headers (codes "Require"))) (said (field_of headers (codes "Proxy-Require")))
    (said_value (field_of headers (codes "Require")) (field_sound headers (codes "Require") sound))
    (said_value (field_of headers (codes "Proxy-Require")) (field_sound headers (codes "Proxy-Require") sound))

when_551 : (test : Bool) (value : Option (List ℕ)) → AreValues value → AreValues (cond test value None)
when_551 true value v = v
when_551 false value v = tt

checked_told : (checked : Result (Method × ℕ) ℕ) (parts : RequestFields) (head : Head) (body : List ℕ) (refused : Refusal) → ((code : ℕ) → checked ≡ Err code → refuses code ≡ true) → IsShortNumber parts.cseq → AreValues parts.required →
    request_checked checked parts head body ≡ Err refused → IsToldRefusal refused
checked_told (Ok both) parts head body refused known small value e = cc
checked_told (Err code) parts head body refused known small value e =
    let same : refusal parts code ≡ refused = cc in
    subst IsToldRefusal same (record { code = known code refl; cseq = small; unsupported = when_551 (code == 551) parts.required value })

nothing_told : (refused : Refusal) → no_request ≡ refused → IsToldRefusal refused
nothing_told refused same = subst IsToldRefusal same (record { code = refl; cseq = tt; unsupported = tt })

at_told : (start : Start) (head : Head) (body : List ℕ) (refused : Refusal) → list_all is_header head.headers ≡ true → request_at_start start head body ≡ Err refused → IsToldRefusal refused
at_told (starts.Request method uri version) head body refused sound e =
    let parts = request_parts method uri version head.headers in
    checked_told (parts_checked parts) parts head body refused
    (λ code h. unless_refuses (first_code (head_rules parts)) parts code (λ one found. first_refuses (head_rules parts) one refl found) h)
    (cseq_small head.headers) (required_value head.headers sound) e
at_told (starts.Status version code reason) head body refused sound e = let same : no_request ≡ refused = cc in nothing_told refused same

of_told : (found : Result Head HeadFault) (body : List ℕ) (refused : Refusal) → ((head : Head) → found ≡ Ok head → CanBeWritten head.start head.headers) → request_of_head found body ≡ Err refused → IsToldRefusal refused
of_told (Ok head) body refused can e = at_told head.start head body refused (can head refl).headers e
of_told (Err fault) body refused can e = let same : no_request ≡ refused = cc in nothing_told refused same

refusal_decided : (state : State) (refused : Refusal) → IsToldRefusal refused → IsAnswer state (Err refused) (refusal_text refused)
refusal_decided state refused told =
    answer_made state (Err refused) refused.code refused.cseq (named (codes "Unsupported") refused.unsupported ∷ []) (reason_known refused.code told.code) told.cseq (omega arith) refl refl (told.unsupported, tt) refl
    (refused_leads state None refused.code told.code)

-- What the rules let through, and what they refuse.
channels_refuse : (channels : Option Pair) (code : ℕ) → with_channels channels ≡ Err code → refuses code ≡ true
channels_refuse None code e = let same : 461 ≡ code = cc in subst (λ (c : ℕ). refuses c ≡ true) same refl
channels_refuse (Some pair) code e = cc

range_refuses : (range : Option (Result Range RangeFault)) (code : ℕ) → with_range range ≡ Err code → refuses code ≡ true
range_refuses None code e = cc
range_refuses (Some (Ok range)) code e = cc
range_refuses (Some (Err fault)) code e = let same : 457 ≡ code = cc in subst (λ (c : ℕ). refuses c ≡ true) same refl

admission_refuses : (method : Method) (said : Said) (code : ℕ) → admission method said ≡ Err code → refuses code ≡ true
admission_refuses methods.Options said code e = cc
admission_refuses methods.Describe said code e = cc
admission_refuses methods.Setup said code e = channels_refuse said.channels code e
admission_refuses methods.Play said code e = range_refuses said.range code e
admission_refuses methods.Pause said code e = cc
admission_refuses methods.Teardown said code e = cc
admission_refuses methods.GetParameter said code e = cc
admission_refuses methods.SetParameter said code e = cc

no_channels_play : (channels : Option Pair) (range : Option Range) → with_channels channels ≡ Ok (Played range) → ⊥
no_channels_play None range e = cc
no_channels_play (Some pair) range e = cc

admission_plays : (method : Method) (said : Said) (range : Option Range) → admission method said ≡ Ok (Played range) → method ≡ methods.Play
admission_plays methods.Options said range e = cc
admission_plays methods.Describe said range e = cc
admission_plays methods.Setup said range e = absurd (no_channels_play said.channels range e)
admission_plays methods.Play said range e = refl
admission_plays methods.Pause said range e = cc
admission_plays methods.Teardown said range e = cc
admission_plays methods.GetParameter said range e = cc
admission_plays methods.SetParameter said range e = cc

-- the channels of an admission
abbrev IsAdmissionOfBytes : Admission → Type 0
IsAdmissionOfBytes (SetUp pair) = IsOfBytes pair
IsAdmissionOfBytes (Played range) = Unit {0}
IsAdmissionOfBytes Other = Unit {0}

channels_bytes : (channels : Option Pair) → AreOfBytes channels → IfOk (with_channels channels) IsAdmissionOfBytes
channels_bytes None all = tt
channels_bytes (Some pair) all = all

range_bytes : (range : Option (Result Range RangeFault)) → IfOk (with_range range) IsAdmissionOfBytes
range_bytes None = tt
range_bytes (Some (Ok range)) = tt
range_bytes (Some (Err fault)) = tt

admission_bytes : (method : Method) (said : Said) → AreOfBytes said.channels → IfOk (admission method said) IsAdmissionOfBytes
admission_bytes methods.Options said all = tt
admission_bytes methods.Describe said all = tt
admission_bytes methods.Setup said all = channels_bytes said.channels all
admission_bytes methods.Play said all = range_bytes said.range
admission_bytes methods.Pause said all = tt
admission_bytes methods.Teardown said all = tt
admission_bytes methods.GetParameter said all = tt
admission_bytes methods.SetParameter said all = tt

said_bytes : (sets : Bool) (tracks : List Track) (value : Option (List ℕ)) → AreOfBytes (cond sets (client_pair tracks value) None)
said_bytes true tracks value = client_bytes tracks value
said_bytes false tracks value = tt

unless_bytes : (code : Option ℕ) (admitted : Result Admission ℕ) → IfOk admitted IsAdmissionOfBytes → IfOk (unless_code code admitted) IsAdmissionOfBytes
unless_bytes None admitted all = all
unless_bytes (Some code) admitted all = tt

rules_refuse : (found : Option ℕ) (admitted : Result Admission ℕ) (code : ℕ) → ((one : ℕ) → found ≡ Some one → refuses one ≡ true) → ((one : ℕ) → admitted ≡ Err one → refuses one ≡ true) →
    unless_code found admitted ≡ Err code → refuses code ≡ true
rules_refuse None admitted code first later e = later code e
rules_refuse (Some one) admitted code first later e = let same : one ≡ code = cc in subst (λ (c : ℕ). refuses c ≡ true) same (first one refl)

admitted_is : (found : Option ℕ) (admitted : Result Admission ℕ) (one : Admission) → unless_code found admitted ≡ Ok one → admitted ≡ Ok one
admitted_is None admitted one e = e
admitted_is (Some code) admitted one e = cc

second_none : (a b : Bool) (rest : Option ℕ) (admitted : Result Admission ℕ) (one : Admission) → unless_code (cond a (Some 454) (cond b (Some 455) rest)) admitted ≡ Ok one → b ≡ false
second_none true b rest admitted one e = cc
second_none false true rest admitted one e = cc
second_none false false rest admitted one e = refl

in_turn : (allowed again : Bool) → (not allowed || again) ≡ false → allowed ≡ true
in_turn true again e = refl
in_turn false again e = cc

-- What the rules on a request come to.
record IsChecked (state : State) (method : Method) (checked : Result Admission ℕ) : Type 0 where
  pub refused : (code : ℕ) → checked ≡ Err code → refuses code ≡ true
  pub allowed : (one : Admission) → checked ≡ Ok one → is_allowed state method ≡ true
  pub plays : (range : Option Range) → checked ≡ Ok (Played range) → method ≡ methods.Play
  pub sound : AdmitsSound checked
  pub bytes : IfOk checked IsAdmissionOfBytes

rules_on : (judged : Judged) (request : Request1) (uri : List ℕ) → IsChecked judged.state request.method (rules_checked judged request.method (said_of judged.all request) uri)
rules_on judged request uri =
    let said = said_of judged.all request in
    let rules = session_rules judged request.method said uri in
    let admitted = admission request.method said in
    record {
      refused = λ code e. rules_refuse (first_code rules) admitted code (λ one found. first_refuses rules one refl found) (admission_refuses request.method said) e;
      allowed = λ one e. in_turn (is_allowed judged.state request.method) (sets_up_again judged request.method said uri)
          (second_none (names_no_session request.method judged.session said.session) (is_out_of_turn judged request.method said uri) _ admitted one e);
      plays = λ range e. admission_plays request.method said range (admitted_is (first_code rules) admitted (Played range) e);
      sound = unless_sound (first_code rules) admitted (admission_sound request.method said (said_sound judged.all request));
      bytes = unless_bytes (first_code rules) admitted (admission_bytes request.method said (said_bytes (is_setup request.method) judged.all (field request (codes "Transport"))));
    }

-- What becomes of a request that is let through.
play_leads : (method : Method) → method ≡ methods.Play → led_by Playing (Some method) 200 ≡ Some Playing
play_leads method e = subst (λ (m : Method). led_by Playing (Some m) 200 ≡ Some Playing) (sym e) refl

play_on_decided : (judged : Judged) (request : Request1) (said : Said) (uri : List ℕ) (range : Option Range) → IsValidId judged.session → Read request → IsWritable range → request.method ≡ methods.Play
    → IsDecided Playing (Ok request) (play_on judged request said uri range)
play_on_decided judged request said uri None valid read can plays =
    answer_made Playing (Ok request) 200 (Some request.cseq) (named (codes "Session") (session_said judged said) ∷ named (codes "Range") None ∷ []) refl read.cseq (omega arith) refl refl
    (where_value (is_named said) judged.session (session_value judged.session valid), (tt, tt)) refl (play_leads request.method plays)
play_on_decided judged request said uri (Some range) valid read can plays = (
  answer_made Playing (Ok request) 200 (Some request.cseq) (named (codes "Session") (session_said judged said) ∷ named (codes "Range") (Some (range_text range)) ∷ []) refl read.cseq (omega arith) refl refl
      (where_value (is_named said) judged.session (session_value judged.session valid), (range_value (Some range) can, tt)) refl (play_leads request.method plays),
  refl,
)

play_in_decided : (state : State) (judged : Judged) (request : Request1) (said : Said) (uri : List ℕ) (range : Option Range) → IsValidId judged.session → Read request → IsWritable range → is_allowed state request.method ≡ true
    → request.method ≡ methods.Play → IsDecided state (Ok request) (play_in state judged request said uri range)
play_in_decided Init judged request said uri range valid read can allowed plays = record { request = request; found_is = refl; method = refl; cseq = refl; short = read.cseq; allowed = allowed }
play_in_decided Ready judged request said uri range valid read can allowed plays = record { request = request; found_is = refl; method = refl; cseq = refl; short = read.cseq; allowed = allowed }
play_in_decided Playing judged request said uri range valid read can allowed plays = play_on_decided judged request said uri range valid read can plays

serve_decided : (judged : Judged) (request : Request1) (said : Said) (uri : List ℕ) (admitted : Admission) → IsValidId judged.session → Read request → is_allowed judged.state request.method ≡ true
    → ((range : Option Range) → admitted ≡ Played range → request.method ≡ methods.Play) → IsSoundAdmission admitted → IsAdmissionOfBytes admitted → IsDecided judged.state (Ok request) (serve judged request said uri admitted)
serve_decided judged request said uri (SetUp pair) valid read allowed plays sound bytes =
    (record { request = request; found_is = refl; method = refl; cseq = refl; short = read.cseq; allowed = allowed }, (sound, bytes))
serve_decided judged request said uri (Played range) valid read allowed plays sound bytes = play_in_decided judged.state judged request said uri range valid read sound allowed (plays range refl)
serve_decided judged request said uri Other valid read allowed plays sound bytes = record { request = request; found_is = refl; method = refl; cseq = refl; short = read.cseq; allowed = allowed }

-- OPTIONS leaves every state.
options_by : (state : State) → led_by state (Some methods.Options) 200 ≡ Some state
options_by Init = refl
options_by Ready = refl
options_by Playing = refl

options_leads : (state : State) (method : Method) → same_method method methods.Options ≡ true → led_by state (Some method) 200 ≡ Some state
options_leads state methods.Options e = options_by state
options_leads state methods.Describe e = cc
options_leads state methods.Setup e = cc
options_leads state methods.Play e = cc
options_leads state methods.Pause e = cc
options_leads state methods.Teardown e = cc
options_leads state methods.GetParameter e = cc
options_leads state methods.SetParameter e = cc

rules_decided : (judged : Judged) (request : Request1) (said : Said) (uri : List ℕ) (checked : Result Admission ℕ) → IsValidId judged.session → Read request → IsChecked judged.state request.method checked
    → IsDecided judged.state (Ok request) (by_rules judged request said uri checked)
rules_decided judged request said uri (Err code) valid read all =
    answer_made judged.state (Ok request) code (Some request.cseq) [] (reason_known code (all.refused code refl)) read.cseq (omega arith) refl refl tt refl
    (refused_leads judged.state (Some request.method) code (all.refused code refl))
rules_decided judged request said uri (Ok admitted) valid read all = by (is_for_gateway request.method said) refl
  where
    by : (own : Bool) → is_for_gateway request.method said ≡ own → IsDecided judged.state (Ok request) (cond own (Answer (options_text request.cseq)) (serve judged request said uri admitted))
    by true e =
        answer_made judged.state (Ok request) 200 (Some request.cseq) (named (codes "Public") (Some methods_text) ∷ []) refl read.cseq (omega arith) refl refl (refl, tt) refl
        (options_leads judged.state request.method (and_parts (same_method request.method methods.Options) (not (is_named said)) e).0)
    by false e =
        serve_decided judged request said uri admitted valid read (all.allowed admitted refl) (λ range same. all.plays range (ap (λ (one : Admission). Ok one) same)) all.sound all.bytes

read_decided : (judged : Judged) (found : Result Request1 Refusal) → IsValidId judged.session → ((request : Request1) → found ≡ Ok request → Read request) → ((refused : Refusal) → found ≡ Err refused → IsToldRefusal refused)
    → IsDecided judged.state found (decide_read judged found)
read_decided judged (Ok request) valid known told =
    rules_decided judged request (said_of judged.all request) (uri_up judged request.uri) (rules_checked judged request.method (said_of judged.all request) (uri_up judged request.uri)) valid (known request refl)
    (rules_on judged request (uri_up judged request.uri))
read_decided judged (Err refused) valid known told = refusal_decided judged.state refused (told refused refl)

-- What is decided on a request that memory can hold.
pub decided : (given : Given) (shape : Shape) → IsValidId (judged_of given shape).session → length shape.bytes < 2 ^ 64 → IsDecided (judged_of given shape).state (request_of_item shape) (decide given shape)
decided given shape valid short =
    read_decided (judged_of given shape) (request_of_item shape) valid (λ request e. request_read shape request short e)
    (λ refused e. of_told (head_of (take shape.head shape.bytes)) (drop shape.head shape.bytes) refused (read_sound (take shape.head shape.bytes)) e)
