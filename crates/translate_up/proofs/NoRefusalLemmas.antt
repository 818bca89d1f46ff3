-- What goes up or waits was refused by no rule: the session that it names is there, and it has its turn.
use Rattle.std.proofs.Common.{◌≡◌, ◌∙◌, ℕ, Bool, true, false, cond, ◌&&◌, ◌||◌, not, List, drop, Option, Some, None, Result, Ok, Err, refl, sym, ap}
use Rattle.std.specs.Prelude.{codes, is_some}
use Rattle.rtsp_head.specs.Items.{Shape}
use Rattle.rtsp_range.specs.declared.range.Range.{Range}
use Rattle.head_one.specs.Refusals.{first_code}
use Rattle.head_one.specs.declared.request.Request1.{Request1}
use Rattle.head_one.specs.declared.refusal.Refusal.{Refusal}
use Rattle.head_one.specs.Requests.{request_of_item}
use Rattle.session_one.specs.declared.table.State.{State}
use Rattle.session_one.specs.declared.table.State.TheVariants.{Init, Ready, Playing}
use Rattle.session_one.specs.Table.{is_allowed}
use Rattle.translate_up.specs.declared.decision.Decision.{Decision}
use Rattle.translate_up.specs.declared.decision.Decision.TheVariants as decisions
use Rattle.translate_up.specs.declared.rule.Admission.{Admission}
use Rattle.translate_up.specs.declared.rule.Admission.TheVariants.{SetUp, Played, Other}
use Rattle.translate_up.specs.Ids.{id_of, are_same}
use Rattle.translate_up.specs.Views.{Given, Judged, judged_by}
use Rattle.translate_up.specs.Fields.{field, Said, said_of, is_setup, is_track}
use Rattle.translate_up.specs.Rules.{names_no_session, is_out_of_turn, session_rules, admission, unless_code, rules_checked}
use Rattle.translate_up.specs.Upward.{uri_up}
use Rattle.translate_up.specs.Answers.{options_text}
use Rattle.translate_up.specs.Decisions.{play_on, play_in, serve, is_for_gateway, by_rules, decide_read, judged_read, decide}
use Rattle.translate_up.proofs.RuleLemmas.{unrefused}
use Rattle.rtsp_small.specs.declared.method.Method.{Method}
use Rattle.rtsp_small.specs.declared.method.Method.TheVariants as methods
use Rattle.std.proofs.lemmas.Slice.Eq.{bytes_eq-Decides}

-- the first two rules do not apply
pub record IsUnrefused (judged : Judged) (request : Request1) : Type 0 where
  pub session : names_no_session request.method judged.session (field request (codes "Session")) ≡ false
  pub turn : is_out_of_turn judged request.method (said_of judged.all request) (uri_up judged request.uri) ≡ false

-- so it is where something goes up or waits, for the method of a request
abbrev pub IsUpAs : (Method → Type 0) → Decision → Type 0
IsUpAs K (decisions.Answer text) = Unit {0}
IsUpAs K (decisions.Queue play text) = (method : Method) × K method
IsUpAs K (decisions.Forward request asked) = K asked.method
IsUpAs K (decisions.Setup request asked channels) = K asked.method

play_up : (K : Method → Type 0) (judged : Judged) (request : Request1) (said : Said) (uri : List ℕ) (range : Option Range) → K request.method → IsUpAs K (play_on judged request said uri range)
play_up K judged request said uri None known = tt
play_up K judged request said uri (Some range) known = (request.method, known)

in_up : (K : Method → Type 0) (state : State) (judged : Judged) (request : Request1) (said : Said) (uri : List ℕ) (range : Option Range) → K request.method → IsUpAs K (play_in state judged request said uri range)
in_up K Init judged request said uri range known = known
in_up K Ready judged request said uri range known = known
in_up K Playing judged request said uri range known = play_up K judged request said uri range known

serve_up : (K : Method → Type 0) (judged : Judged) (request : Request1) (said : Said) (uri : List ℕ) (admitted : Admission) → K request.method → IsUpAs K (serve judged request said uri admitted)
serve_up K judged request said uri (SetUp pair) known = known
serve_up K judged request said uri (Played range) known = in_up K judged.state judged request said uri range known
serve_up K judged request said uri Other known = known

either_up : (K : Method → Type 0) (own : Bool) (text : List ℕ) (served : Decision) → IsUpAs K served → IsUpAs K (cond own (decisions.Answer text) served)
either_up K true text served known = tt
either_up K false text served known = known

rules_up : (K : Method → Type 0) (judged : Judged) (request : Request1) (said : Said) (uri : List ℕ) (checked : Result Admission ℕ) → ((admitted : Admission) → checked ≡ Ok admitted → K request.method) → IsUpAs K (by_rules judged request said uri checked)
rules_up K judged request said uri (Err code) known = tt
rules_up K judged request said uri (Ok admitted) known =
    either_up K (is_for_gateway request.method said) (options_text request.cseq) (serve judged request said uri admitted) (serve_up K judged request said uri admitted (known admitted refl))

none_applies : (code : Option ℕ) (result : Result Admission ℕ) (admitted : Admission) → unless_code code result ≡ Ok admitted → code ≡ None
none_applies None result admitted e = refl
none_applies (Some code) result admitted e = cc

rules_unrefused : (judged : Judged) (request : Request1) (admitted : Admission) → rules_checked judged request.method (said_of judged.all request) (uri_up judged request.uri) ≡ Ok admitted → IsUnrefused judged request
rules_unrefused judged request admitted e =
    let said = said_of judged.all request in
    let uri = uri_up judged request.uri in
    let none = none_applies (first_code (session_rules judged request.method said uri)) (admission request.method said) admitted e in
    let session = unrefused (names_no_session request.method judged.session said.session) 454 (drop 1 (session_rules judged request.method said uri)) none in
    record { session = session.0; turn = (unrefused (is_out_of_turn judged request.method said uri) 455 (drop 2 (session_rules judged request.method said uri)) session.1).0 }

-- By what was read of the item.
abbrev pub IsUnrefusedIn : Given → Result Request1 Refusal → Method → Type 0
IsUnrefusedIn given found method = (request : Request1) × (found ≡ Ok request) × (request.method ≡ method) × IsUnrefused (judged_by given (field request (codes "Session"))) request

read_unrefused : (given : Given) (found : Result Request1 Refusal) → IsUpAs (IsUnrefusedIn given found) (decide_read (judged_read given found) found)
read_unrefused given (Err refusal) = tt
read_unrefused given (Ok request) =
    let judged = judged_by given (field request (codes "Session")) in
    rules_up (IsUnrefusedIn given (Ok request)) judged request (said_of judged.all request) (uri_up judged request.uri) (rules_checked judged request.method (said_of judged.all request) (uri_up judged request.uri))
    (λ admitted e. (request, refl, refl, rules_unrefused judged request admitted e))

pub decided_unrefused : (given : Given) (shape : Shape) → IsUpAs (IsUnrefusedIn given (request_of_item shape)) (decide given shape)
decided_unrefused given shape = read_unrefused given (request_of_item shape)

-- The session that a Session field names is there.
not_false : (b : Bool) → not b ≡ false → b ≡ true
not_false true e = refl
not_false false e = cc

named_by : (method : Method) (session value : Option (List ℕ)) (one : List ℕ) → value ≡ Some one → names_no_session method session value ≡ false → are_same session (id_of one) ≡ true
named_by method session value one is e = not_false (are_same session (id_of one)) (ap (names_no_session method session) (sym is) ∙ e)

same_some : (session id : Option (List ℕ)) → are_same session id ≡ true → (one : List ℕ) × (session ≡ Some one) × (id ≡ Some one)
same_some None id e = cc
same_some (Some one) None e = cc
same_some (Some one) (Some two) e = (one, refl, ap (λ (text : List ℕ). Some text) (sym ((bytes_eq-Decides one two).0 e)))

pub named_there : (judged : Judged) (request : Request1) (value : List ℕ) → IsUnrefused judged request → field request (codes "Session") ≡ Some value → (one : List ℕ) × (judged.session ≡ Some one) × (id_of value ≡ Some one)
named_there judged request value un is = same_some judged.session (id_of value) (named_by request.method judged.session (field request (codes "Session")) value is un.session)

-- A SETUP that names no session finds an empty place.
room_by : (allowed setup room named track : Bool) → (not allowed || (setup && ((not room && not named) || track))) ≡ false → setup ≡ true → named ≡ false → room ≡ true
room_by false setup room named track e s n = cc
room_by true false room named track e s n = cc
room_by true true true named track e s n = refl
room_by true true false true track e s n = cc
room_by true true false false track e s n = cc

unnamed : (judged : Judged) (request : Request1) (value : Option (List ℕ)) → IsUnrefused judged request → field request (codes "Session") ≡ value → judged.session ≡ None → is_some value ≡ false
unnamed judged request None un is none = refl
unnamed judged request (Some value) un is none =
    let there = named_there judged request value un is in
    let bad : None ≡ Some there.0 = sym none ∙ there.1 in
    cc

pub room_there : (judged : Judged) (request : Request1) → IsUnrefused judged request → request.method ≡ methods.Setup → judged.session ≡ None → judged.has_room ≡ true
room_there judged request un setup none =
    room_by (is_allowed judged.state request.method) (is_setup request.method) judged.has_room (is_some (field request (codes "Session"))) (is_track judged.tracks (uri_up judged request.uri)) un.turn (ap is_setup setup)
    (unnamed judged request (field request (codes "Session")) un refl none)
