-- What goes up has the method of its request: a SETUP comes with channels, where a pair is free, and nothing else does.
-- Whether one is free matters to a SETUP alone.
use Rattle.std.proofs.Common.{◌≡◌, ◌∙◌, ℕ, Bool, true, false, cond, ◌&&◌, List, [], ◌∷◌, Option, Some, None, Result, Ok, Err, refl, sym, ap}
use Rattle.rtsp_head.specs.Items.{Shape}
use Rattle.rtsp_small.specs.declared.method.Method.{Method}
use Rattle.rtsp_small.specs.declared.method.Method.TheVariants.{Options, Describe, Setup, Play, Pause, Teardown, GetParameter, SetParameter}
use Rattle.rtsp_small.specs.Methods.{method_name}
use Rattle.rtsp_range.specs.declared.range.Range.{Range}
use Rattle.rtsp_range.specs.declared.fault.RangeFault.{RangeFault}
use Rattle.rtsp_transport.specs.declared.channels.Pair.{Pair}
use Rattle.head_one.specs.declared.request.Request1.{Request1}
use Rattle.head_one.specs.declared.refusal.Refusal.{Refusal}
use Rattle.head_one.specs.Refusals.{Rule, rule, first_code}
use Rattle.head_one.specs.Requests.{request_of_item}
use Rattle.session_one.specs.declared.table.State.{State}
use Rattle.session_one.specs.declared.table.State.TheVariants.{Init, Ready, Playing}
use Rattle.translate_up.specs.declared.decision.Decision.{Decision}
use Rattle.translate_up.specs.declared.decision.Decision.TheVariants as decisions
use Rattle.translate_up.specs.declared.rule.Admission.{Admission}
use Rattle.translate_up.specs.declared.rule.Admission.TheVariants.{SetUp, Played, Other}
use Rattle.translate_up.specs.Views.{Given, Judged}
use Rattle.translate_up.specs.Fields.{Said, said_of, is_setup}
use Rattle.translate_up.specs.Rules.{names_no_session, is_out_of_turn, names_one_of_many, has_no_channels, has_bad_range, finds_no_place, session_rules, with_channels, with_range, admission, unless_code, rules_checked}
use Rattle.translate_up.specs.Upward.{uri_up, method_up}
use Rattle.translate_up.specs.Answers.{options_text}
use Rattle.translate_up.specs.Decisions.{play_on, play_in, serve, is_for_gateway, by_rules, decide_request, decide_read, judged_read, judged_of, decide}
use Rattle.translate_up.specs.Setups.{is_setup_read, is_setup_item}

abbrev pub SpeaksAs : Judged → Decision → Type 0
SpeaksAs judged (decisions.Answer text) = Unit {0}
SpeaksAs judged (decisions.Queue play text) = Unit {0}
SpeaksAs judged (decisions.Forward request asked) = (request.method ≡ method_name (method_up asked.method)) × (is_setup asked.method ≡ false)
SpeaksAs judged (decisions.Setup request asked channels) = (request.method ≡ method_name Setup) × (asked.method ≡ Setup) × (judged.full ≡ false)

-- what is let through, by the method
abbrev IsMeant : Bool → Method → Result Admission ℕ → Type 0
IsMeant full method (Err code) = Unit {0}
IsMeant full method (Ok (SetUp pair)) = (method ≡ Setup) × (full ≡ false)
IsMeant full method (Ok (Played range)) = is_setup method ≡ false
IsMeant full method (Ok Other) = is_setup method ≡ false

either_code : (applies : Bool) (code : ℕ) (later : Option ℕ) (full : Bool) (method : Method) (admitted : Result Admission ℕ) → IsMeant full method (unless_code later admitted) →
    IsMeant full method (unless_code (cond applies (Some code) later) admitted)
either_code true code later full method admitted meant = tt
either_code false code later full method admitted meant = meant

channels_meant : (later : Option ℕ) (channels : Option Pair) → IsMeant false Setup (unless_code later (with_channels channels))
channels_meant None None = tt
channels_meant None (Some pair) = (refl, refl)
channels_meant (Some code) channels = tt

free_meant : (full : Bool) (later : Option ℕ) (channels : Option Pair) → IsMeant full Setup (unless_code (cond full (Some 453) later) (with_channels channels))
free_meant true later channels = tt
free_meant false later channels = channels_meant later channels

setup_meant : (judged : Judged) (said : Said) (uri : List ℕ) → IsMeant judged.full Setup (rules_checked judged Setup said uri)
setup_meant judged said uri =
    let place : Option ℕ = first_code (rule (finds_no_place judged Setup said) 503 ∷ []) in
    let free : Option ℕ = cond judged.full (Some 453) place in
    let range : Option ℕ = cond (has_bad_range Setup said.range) (Some 457) free in
    let channels : Option ℕ = cond (has_no_channels Setup said) (Some 461) range in
    let many : Option ℕ = cond (names_one_of_many judged Setup uri) (Some 460) channels in
    let turn : Option ℕ = cond (is_out_of_turn judged Setup said uri) (Some 455) many in
    let admitted : Result Admission ℕ = with_channels said.channels in
    either_code (names_no_session Setup judged.session said.session) 454 turn judged.full Setup admitted
    (either_code (is_out_of_turn judged Setup said uri) 455 many judged.full Setup admitted
    (either_code (names_one_of_many judged Setup uri) 460 channels judged.full Setup admitted
    (either_code (has_no_channels Setup said) 461 range judged.full Setup admitted
    (either_code (has_bad_range Setup said.range) 457 free judged.full Setup admitted
    (free_meant judged.full place said.channels)))))

other_meant : (code : Option ℕ) (full : Bool) (method : Method) → is_setup method ≡ false → IsMeant full method (unless_code code (Ok Other))
other_meant None full method e = e
other_meant (Some code) full method e = tt

range_meant : (code : Option ℕ) (full : Bool) (range : Option (Result Range RangeFault)) → IsMeant full Play (unless_code code (with_range range))
range_meant None full None = refl
range_meant None full (Some (Ok range)) = refl
range_meant None full (Some (Err fault)) = tt
range_meant (Some code) full range = tt

rules_meant : (judged : Judged) (method : Method) (said : Said) (uri : List ℕ) → IsMeant judged.full method (rules_checked judged method said uri)
rules_meant judged Options said uri = other_meant (first_code (session_rules judged Options said uri)) judged.full Options refl
rules_meant judged Describe said uri = other_meant (first_code (session_rules judged Describe said uri)) judged.full Describe refl
rules_meant judged Setup said uri = setup_meant judged said uri
rules_meant judged Play said uri = range_meant (first_code (session_rules judged Play said uri)) judged.full said.range
rules_meant judged Pause said uri = other_meant (first_code (session_rules judged Pause said uri)) judged.full Pause refl
rules_meant judged Teardown said uri = other_meant (first_code (session_rules judged Teardown said uri)) judged.full Teardown refl
rules_meant judged GetParameter said uri = other_meant (first_code (session_rules judged GetParameter said uri)) judged.full GetParameter refl
rules_meant judged SetParameter said uri = other_meant (first_code (session_rules judged SetParameter said uri)) judged.full SetParameter refl

-- so what goes up speaks
play_on_speaks : (judged : Judged) (request : Request1) (said : Said) (uri : List ℕ) (range : Option Range) → SpeaksAs judged (play_on judged request said uri range)
play_on_speaks judged request said uri None = tt
play_on_speaks judged request said uri (Some range) = tt

play_in_speaks : (state : State) (judged : Judged) (request : Request1) (said : Said) (uri : List ℕ) (range : Option Range) → is_setup request.method ≡ false →
    SpeaksAs judged (play_in state judged request said uri range)
play_in_speaks Init judged request said uri range other = (refl, other)
play_in_speaks Ready judged request said uri range other = (refl, other)
play_in_speaks Playing judged request said uri range other = play_on_speaks judged request said uri range

serve_speaks : (judged : Judged) (request : Request1) (said : Said) (uri : List ℕ) (admitted : Admission) → IsMeant judged.full request.method (Ok admitted) →
    SpeaksAs judged (serve judged request said uri admitted)
serve_speaks judged request said uri (SetUp pair) meant = (ap (λ method. method_name (method_up method)) meant.0, meant.0, meant.1)
serve_speaks judged request said uri (Played range) meant = play_in_speaks judged.state judged request said uri range meant
serve_speaks judged request said uri Other meant = (refl, meant)

either_speaks : (own : Bool) (judged : Judged) (text : List ℕ) (served : Decision) → SpeaksAs judged served → SpeaksAs judged (cond own (decisions.Answer text) served)
either_speaks true judged text served speaks = tt
either_speaks false judged text served speaks = speaks

by_rules_speaks : (judged : Judged) (request : Request1) (said : Said) (uri : List ℕ) (admitted : Result Admission ℕ) → IsMeant judged.full request.method admitted →
    SpeaksAs judged (by_rules judged request said uri admitted)
by_rules_speaks judged request said uri (Err code) meant = tt
by_rules_speaks judged request said uri (Ok admitted) meant =
    either_speaks (is_for_gateway request.method said) judged (options_text request.cseq) (serve judged request said uri admitted) (serve_speaks judged request said uri admitted meant)

request_speaks : (judged : Judged) (request : Request1) → SpeaksAs judged (decide_request judged request)
request_speaks judged request =
    let said = said_of judged.all request in
    let uri = uri_up judged request.uri in
    by_rules_speaks judged request said uri (rules_checked judged request.method said uri) (rules_meant judged request.method said uri)

read_speaks : (judged : Judged) (read : Result Request1 Refusal) → SpeaksAs judged (decide_read judged read)
read_speaks judged (Ok request) = request_speaks judged request
read_speaks judged (Err refusal) = tt

pub decide_speaks : (given : Given) (shape : Shape) → SpeaksAs (judged_of given shape) (decide given shape)
decide_speaks given shape = read_speaks (judged_of given shape) (request_of_item shape)

-- What goes up, or waits, has the place of the session that its request names.
abbrev pub IsPlacedAs : Judged → Decision → Type 0
IsPlacedAs judged (decisions.Answer text) = Unit {0}
IsPlacedAs judged (decisions.Queue play text) = play.place ≡ judged.place
IsPlacedAs judged (decisions.Forward request asked) = asked.place ≡ judged.place
IsPlacedAs judged (decisions.Setup request asked channels) = asked.place ≡ judged.place

play_on_placed : (judged : Judged) (request : Request1) (said : Said) (uri : List ℕ) (range : Option Range) → IsPlacedAs judged (play_on judged request said uri range)
play_on_placed judged request said uri None = tt
play_on_placed judged request said uri (Some range) = refl

play_in_placed : (state : State) (judged : Judged) (request : Request1) (said : Said) (uri : List ℕ) (range : Option Range) → IsPlacedAs judged (play_in state judged request said uri range)
play_in_placed Init judged request said uri range = refl
play_in_placed Ready judged request said uri range = refl
play_in_placed Playing judged request said uri range = play_on_placed judged request said uri range

serve_placed : (judged : Judged) (request : Request1) (said : Said) (uri : List ℕ) (admitted : Admission) → IsPlacedAs judged (serve judged request said uri admitted)
serve_placed judged request said uri (SetUp pair) = refl
serve_placed judged request said uri (Played range) = play_in_placed judged.state judged request said uri range
serve_placed judged request said uri Other = refl

either_placed : (own : Bool) (judged : Judged) (text : List ℕ) (served : Decision) → IsPlacedAs judged served → IsPlacedAs judged (cond own (decisions.Answer text) served)
either_placed true judged text served placed = tt
either_placed false judged text served placed = placed

by_rules_placed : (judged : Judged) (request : Request1) (said : Said) (uri : List ℕ) (checked : Result Admission ℕ) → IsPlacedAs judged (by_rules judged request said uri checked)
by_rules_placed judged request said uri (Err code) = tt
by_rules_placed judged request said uri (Ok admitted) =
    either_placed (is_for_gateway request.method said) judged (options_text request.cseq) (serve judged request said uri admitted) (serve_placed judged request said uri admitted)

read_placed : (judged : Judged) (read : Result Request1 Refusal) → IsPlacedAs judged (decide_read judged read)
read_placed judged (Ok request) =
    by_rules_placed judged request (said_of judged.all request) (uri_up judged request.uri) (rules_checked judged request.method (said_of judged.all request) (uri_up judged request.uri))
read_placed judged (Err refusal) = tt

pub decide_placed : (given : Given) (shape : Shape) → IsPlacedAs (judged_of given shape) (decide given shape)
decide_placed given shape = read_placed (judged_of given shape) (request_of_item shape)

-- no SETUP goes up for another request
abbrev pub IsPlain : Decision → Type 0
IsPlain (decisions.Answer text) = Unit {0}
IsPlain (decisions.Queue play text) = Unit {0}
IsPlain (decisions.Forward request asked) = Unit {0}
IsPlain (decisions.Setup request asked channels) = ⊥

play_on_plain : (judged : Judged) (request : Request1) (said : Said) (uri : List ℕ) (range : Option Range) → IsPlain (play_on judged request said uri range)
play_on_plain judged request said uri None = tt
play_on_plain judged request said uri (Some range) = tt

play_in_plain : (state : State) (judged : Judged) (request : Request1) (said : Said) (uri : List ℕ) (range : Option Range) → IsPlain (play_in state judged request said uri range)
play_in_plain Init judged request said uri range = tt
play_in_plain Ready judged request said uri range = tt
play_in_plain Playing judged request said uri range = play_on_plain judged request said uri range

no_setup : (method : Method) → is_setup method ≡ false → method ≡ Setup → ⊥
no_setup method other setup = let wrong : true ≡ false = sym (ap is_setup setup) ∙ other in cc

serve_plain : (judged : Judged) (request : Request1) (said : Said) (uri : List ℕ) (admitted : Admission) → IsMeant judged.full request.method (Ok admitted) → is_setup request.method ≡ false →
    IsPlain (serve judged request said uri admitted)
serve_plain judged request said uri (SetUp pair) meant other = no_setup request.method other meant.0
serve_plain judged request said uri (Played range) meant other = play_in_plain judged.state judged request said uri range
serve_plain judged request said uri Other meant other = tt

either_plain : (own : Bool) (text : List ℕ) (served : Decision) → IsPlain served → IsPlain (cond own (decisions.Answer text) served)
either_plain true text served plain = tt
either_plain false text served plain = plain

by_rules_plain : (judged : Judged) (request : Request1) (said : Said) (uri : List ℕ) (admitted : Result Admission ℕ) → IsMeant judged.full request.method admitted → is_setup request.method ≡ false →
    IsPlain (by_rules judged request said uri admitted)
by_rules_plain judged request said uri (Err code) meant other = tt
by_rules_plain judged request said uri (Ok admitted) meant other =
    either_plain (is_for_gateway request.method said) (options_text request.cseq) (serve judged request said uri admitted) (serve_plain judged request said uri admitted meant other)

request_plain : (judged : Judged) (request : Request1) → is_setup request.method ≡ false → IsPlain (decide_request judged request)
request_plain judged request other =
    let said = said_of judged.all request in
    let uri = uri_up judged request.uri in
    by_rules_plain judged request said uri (rules_checked judged request.method said uri) (rules_meant judged request.method said uri) other

read_plain : (judged : Judged) (read : Result Request1 Refusal) → is_setup_read read ≡ false → IsPlain (decide_read judged read)
read_plain judged (Ok request) other = request_plain judged request other
read_plain judged (Err refusal) other = tt

pub decide_plain : (given : Given) (shape : Shape) → is_setup_item shape ≡ false → IsPlain (decide given shape)
decide_plain given shape other = read_plain (judged_of given shape) (request_of_item shape) other

-- the rules, by whether a SETUP finds all pairs held
abbrev rules_where : Judged → Method → Said → List ℕ → Bool → List Rule
rules_where judged method said uri held =
    rule (names_no_session method judged.session said.session) 454
    ∷ rule (is_out_of_turn judged method said uri) 455
    ∷ rule (names_one_of_many judged method uri) 460
    ∷ rule (has_no_channels method said) 461
    ∷ rule (has_bad_range method said.range) 457
    ∷ rule held 453
    ∷ rule (finds_no_place judged method said) 503
    ∷ []

abbrev marked : Bool → Judged → Judged
marked full judged = record judged { full = full }

rules_marked : (full : Bool) (judged : Judged) (method : Method) (said : Said) (uri : List ℕ) → is_setup method ≡ false → rules_checked (marked full judged) method said uri ≡ rules_checked judged method said uri
rules_marked full judged method said uri other =
    ap (λ setup. unless_code (first_code (rules_where judged method said uri (setup && full))) (admission method said)) other
    ∙ ap (λ setup. unless_code (first_code (rules_where judged method said uri (setup && judged.full))) (admission method said)) (sym other)

play_on_marked : (full : Bool) (judged : Judged) (request : Request1) (said : Said) (uri : List ℕ) (range : Option Range) → play_on (marked full judged) request said uri range ≡ play_on judged request said uri range
play_on_marked full judged request said uri None = refl
play_on_marked full judged request said uri (Some range) = refl

play_in_marked : (full : Bool) (state : State) (judged : Judged) (request : Request1) (said : Said) (uri : List ℕ) (range : Option Range)
    → play_in state (marked full judged) request said uri range ≡ play_in state judged request said uri range
play_in_marked full Init judged request said uri range = refl
play_in_marked full Ready judged request said uri range = refl
play_in_marked full Playing judged request said uri range = play_on_marked full judged request said uri range

serve_marked : (full : Bool) (judged : Judged) (request : Request1) (said : Said) (uri : List ℕ) (admitted : Admission) → serve (marked full judged) request said uri admitted ≡ serve judged request said uri admitted
serve_marked full judged request said uri (SetUp pair) = refl
serve_marked full judged request said uri (Played range) = play_in_marked full judged.state judged request said uri range
serve_marked full judged request said uri Other = refl

by_rules_marked : (full : Bool) (judged : Judged) (request : Request1) (said : Said) (uri : List ℕ) (admitted : Result Admission ℕ)
    → by_rules (marked full judged) request said uri admitted ≡ by_rules judged request said uri admitted
by_rules_marked full judged request said uri (Err code) = refl
by_rules_marked full judged request said uri (Ok admitted) =
    ap (λ (served : Decision). cond (is_for_gateway request.method said) (decisions.Answer (options_text request.cseq)) served) (serve_marked full judged request said uri admitted)

request_marked : (full : Bool) (judged : Judged) (request : Request1) → is_setup request.method ≡ false → decide_request (marked full judged) request ≡ decide_request judged request
request_marked full judged request other =
    let said = said_of judged.all request in
    let uri = uri_up judged request.uri in
    by_rules_marked full judged request said uri (rules_checked (marked full judged) request.method said uri)
    ∙ ap (by_rules judged request said uri) (rules_marked full judged request.method said uri other)

read_marked : (full : Bool) (judged : Judged) (read : Result Request1 Refusal) → is_setup_read read ≡ false → decide_read (marked full judged) read ≡ decide_read judged read
read_marked full judged (Ok request) other = request_marked full judged request other
read_marked full judged (Err refusal) other = refl

-- what is given, marked so
abbrev pub given_marked : Bool → Given → Given
given_marked full given = record given { full = full }

judged_marked : (full : Bool) (given : Given) (read : Result Request1 Refusal) → judged_read (given_marked full given) read ≡ marked full (judged_read given read)
judged_marked full given (Ok request) = refl
judged_marked full given (Err refusal) = refl

pub decide_marked : (full : Bool) (given : Given) (shape : Shape) → is_setup_item shape ≡ false → decide (record given { full = full }) shape ≡ decide given shape
decide_marked full given shape other =
    ap (λ judged. decide_read judged (request_of_item shape)) (judged_marked full given (request_of_item shape))
    ∙ read_marked full (judged_of given shape) (request_of_item shape) other
