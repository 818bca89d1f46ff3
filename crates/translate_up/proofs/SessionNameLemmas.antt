-- What is decided on a request names the session that the request is for, and a SETUP that names none finds an empty place.
use Rattle.std.proofs.Common.{◌≡◌, ◌∙◌, ℕ, ◌&&◌, ◌||◌, not, Bool, true, false, cond, List, [], ◌∷◌, Option, Some, None, Result, Ok, Err, refl, sym, ap, subst, arith}
use Rattle.std.specs.Prelude.{is_some, codes, slice_index_or}
use Rattle.std.specs.Option.{option_or, option_and_then}
use Rattle.rtsp_head.specs.Headers.{field_of}
use Rattle.rtsp_head.specs.Optional.{said_where}
use Rattle.rtsp_head.specs.Items.{Shape}
use Rattle.rtsp_head.proofs.FieldLemmas.{field_told}
use Rattle.rtsp_small.specs.declared.method.Method.{Method}
use Rattle.rtsp_small.specs.declared.method.Method.TheVariants.{Setup}
use Rattle.rtsp_range.specs.declared.range.Range.{Range}
use Rattle.head_one.specs.declared.request.Request1.{Request1}
use Rattle.head_one.specs.declared.refusal.Refusal.{Refusal}
use Rattle.head_one.specs.Refusals.{first_code, rule}
use Rattle.head_one.specs.Requests.{request_of_item}
use Rattle.session_one.specs.declared.table.State.{State}
use Rattle.session_one.specs.declared.table.State.TheVariants as states
use Rattle.session_one.specs.Table.{is_allowed}
use Rattle.translate_up.specs.declared.decision.Decision.{Decision}
use Rattle.translate_up.specs.declared.decision.Decision.TheVariants.{Answer, Forward, Queue, Setup as sets}
use Rattle.translate_up.specs.declared.rule.Admission.{Admission}
use Rattle.translate_up.specs.declared.rule.Admission.TheVariants.{SetUp, Played, Other}
use Rattle.translate_up.specs.Ids.{id_of, are_same}
use Rattle.translate_up.specs.Subjects.{IsNamedSession}
use Rattle.translate_up.specs.Views.{Given, Judged, no_session, session_or_none, judged_at, judged_by, place_with_id, place_named}
use Rattle.translate_up.specs.Fields.{field, Said, said_of, is_named}
use Rattle.translate_up.specs.Upward.{uri_up, session_said, fields_up, request_up}
use Rattle.translate_up.specs.Rules.{names_no_session, sets_up_again, is_out_of_turn, names_one_of_many, has_no_channels, has_bad_range, finds_none_free, finds_no_place, session_rules, admission, rules_checked}
use Rattle.translate_up.specs.Answers.{options_text}
use Rattle.translate_up.specs.Decisions.{play_on, play_in, serve, is_for_gateway, by_rules, decide_read, judged_read, judged_of, decide}
use Rattle.translate_up.proofs.RuleLemmas.{unrefused}
use Rattle.translate_up.proofs.PlaceLemmas.{IsAdmitted, admitted_as, checked_as}
use Rattle.translate_up.proofs.SessionPlaceLemmas.{same_some, found_is}

-- A request names the session that it is judged by, or there is none.
pub record IsKnown (judged : Judged) (said : Said) : Type 0 where
  pub unnamed : said.session ≡ None → judged.session ≡ None
  pub unplaced : judged.place ≡ None → judged.session ≡ None

-- what goes up
abbrev pub IsNaming : Judged → Decision → Type 0
IsNaming judged (Answer text) = Unit {0}
IsNaming judged (Queue play text) = Unit {0}
IsNaming judged (Forward request asked) = (asked.place ≡ judged.place) × (field_of request.headers (codes "Session") ≡ judged.session)
IsNaming judged (sets request asked channels) = (asked.place ≡ judged.place) × (judged.place ≡ None → judged.has_room ≡ true)

up_names : (judged : Judged) (request : Request1) (said : Said) (uri : List ℕ) (range : Option Range) → IsKnown judged said → field_of (request_up judged request said uri range).headers (codes "Session") ≡ judged.session
up_names judged request said uri range known = field_told (codes "Session") (fields_up judged request said range) ∙ first (session_said judged said) ∙ named said.session refl
  where
    first : (value : Option (List ℕ)) → option_or value None ≡ value
    first None = refl
    first (Some id) = refl

    named : (session : Option (List ℕ)) → said.session ≡ session → session_said judged said ≡ judged.session
    named None e = ap (λ (one : Option (List ℕ)). said_where (is_some one) judged.session) e ∙ sym (known.unnamed e)
    named (Some value) e = ap (λ (one : Option (List ℕ)). said_where (is_some one) judged.session) e

play_on_names : (judged : Judged) (request : Request1) (said : Said) (uri : List ℕ) (range : Option Range) → IsNaming judged (play_on judged request said uri range)
play_on_names judged request said uri None = tt
play_on_names judged request said uri (Some range) = tt

play_in_names : (state : State) (judged : Judged) (request : Request1) (said : Said) (uri : List ℕ) (range : Option Range) → IsKnown judged said → IsNaming judged (play_in state judged request said uri range)
play_in_names states.Init judged request said uri range known = (refl, up_names judged request said uri range known)
play_in_names states.Ready judged request said uri range known = (refl, up_names judged request said uri range known)
play_in_names states.Playing judged request said uri range known = play_on_names judged request said uri range

-- no rule refuses it
record IsLetThrough (judged : Judged) (method : Method) (said : Said) (uri : List ℕ) : Type 0 where
  session : names_no_session method judged.session said.session ≡ false
  turn : is_out_of_turn judged method said uri ≡ false

let_through : (judged : Judged) (method : Method) (said : Said) (uri : List ℕ) → first_code (session_rules judged method said uri) ≡ None → IsLetThrough judged method said uri
let_through judged method said uri h =
    let many = rule (names_one_of_many judged method uri) 460 ∷ rule (has_no_channels method said) 461 ∷ rule (has_bad_range method said.range) 457 ∷ rule (finds_none_free judged method) 453 ∷ rule (finds_no_place judged method said) 503 ∷ [] in
    let turns = rule (is_out_of_turn judged method said uri) 455 ∷ many in
    let first = unrefused (names_no_session method judged.session said.session) 454 turns h in
    record { session = first.0; turn = (unrefused (is_out_of_turn judged method said uri) 455 many first.1).0 }

either_false : (a b : Bool) → (a || b) ≡ false → (a ≡ false) × (b ≡ false)
either_false true b e = cc
either_false false b e = (refl, e)

has_room : (judged : Judged) (said : Said) (uri : List ℕ) → IsKnown judged said → IsLetThrough judged Setup said uri → judged.place ≡ None → judged.has_room ≡ true
has_room judged said uri known through none = by said.session judged.session judged.has_room refl (known.unplaced none) refl through.session (either_false (not (is_allowed judged.state Setup)) (sets_up_again judged Setup said uri) through.turn).1
  where
    by : (session own : Option (List ℕ)) (room : Bool) → said.session ≡ session → own ≡ None → judged.has_room ≡ room → names_no_session Setup own session ≡ false → sets_up_again judged Setup said uri ≡ false → room ≡ true
    by (Some value) own room s o r first again = let no : true ≡ false = ap (λ one. names_no_session Setup one (Some value)) (sym o) ∙ first in cc
    by None own true s o r first again = refl
    by None own false s o r first again =
        let both = either_false (not judged.has_room && not (is_named said)) _ again in
        let no : true ≡ false = ap (λ t. not t && true) (sym r) ∙ ap (λ (one : Option (List ℕ)). not judged.has_room && not (is_some one)) (sym s) ∙ both.0 in cc

serve_names : (judged : Judged) (request : Request1) (said : Said) (uri : List ℕ) (admitted : Admission) → IsKnown judged said → IsLetThrough judged request.method said uri → IsAdmitted request.method said admitted → IsNaming judged (serve judged request said uri admitted)
serve_names judged request said uri (SetUp pair) known through meant = (refl, has_room judged said uri known (subst (λ (method : Method). IsLetThrough judged method said uri) meant.0 through))
serve_names judged request said uri (Played range) known through meant = play_in_names judged.state judged request said uri range known
serve_names judged request said uri Other known through meant = (refl, up_names judged request said uri None known)

either_names : (own : Bool) (judged : Judged) (text : List ℕ) (served : Decision) → IsNaming judged served → IsNaming judged (cond own (Answer text) served)
either_names true judged text served naming = tt
either_names false judged text served naming = naming

rules_name : (judged : Judged) (request : Request1) (said : Said) (uri : List ℕ) (checked : Result Admission ℕ) → rules_checked judged request.method said uri ≡ checked → IsKnown judged said → IsNaming judged (by_rules judged request said uri checked)
rules_name judged request said uri (Err code) e known = tt
rules_name judged request said uri (Ok admitted) e known =
    let parts = checked_as (first_code (session_rules judged request.method said uri)) (admission request.method said) admitted e in
    either_names (is_for_gateway request.method said) judged (options_text request.cseq) (serve judged request said uri admitted)
    (serve_names judged request said uri admitted known (let_through judged request.method said uri parts.0) (admitted_as request.method said admitted parts.1))

-- the session at no place is none
by_place : (given : Given) (value : Option (List ℕ)) (place : Option ℕ) → place_named value given.sessions ≡ place → place ≡ None → (judged_by given value).session ≡ None
by_place given value None e none = ap (λ at. (session_or_none at given.sessions).id) e
by_place given value (Some place) e none = cc

-- by the place of the session with an id the judged session has that id
judged_same : (given : Given) (id : List ℕ) (place : Option ℕ) → place_with_id id given.sessions ≡ place → are_same (judged_at given place).session (Some id) ≡ is_some (judged_at given place).session
judged_same given id None e = refl
judged_same given id (Some place) e =
    let found = found_is id 0 place given.sessions e in
    let at : found.at ≡ place = omega (arith, found.is) in
    let same : are_same (judged_at given (Some place)).session (Some id) ≡ true = subst (λ k. are_same (slice_index_or given.sessions k no_session).id (Some id) ≡ true) at found.same in
    same ∙ sym (same_some _ (Some id) same)

-- a request is judged by the session that it names
pub judged_named : (given : Given) (value : Option (List ℕ)) → IsNamedSession (judged_by given value).session value
judged_named given None = tt
judged_named given (Some value) = by (id_of value) refl
  where
    by : (id : Option (List ℕ)) → id_of value ≡ id → are_same (judged_by given (Some value)).session (id_of value) ≡ is_some (judged_by given (Some value)).session
    by None e = subst (λ one. are_same (judged_at given (option_and_then (λ id. place_with_id id given.sessions) one)).session one ≡ is_some (judged_at given (option_and_then (λ id. place_with_id id given.sessions) one)).session) (sym e) refl
    by (Some id) e = subst (λ one. are_same (judged_at given (option_and_then (λ id. place_with_id id given.sessions) one)).session one ≡ is_some (judged_at given (option_and_then (λ id. place_with_id id given.sessions) one)).session) (sym e) (judged_same given id (place_with_id id given.sessions) refl)

read_known : (given : Given) (value : Option (List ℕ)) (said : Said) → said.session ≡ value → IsKnown (judged_by given value) said
read_known given value said is = record {
  unnamed = λ none. by_place given value (place_named value given.sessions) refl (ap (λ (one : Option (List ℕ)). place_named one given.sessions) (sym is ∙ none));
  unplaced = λ none. by_place given value (place_named value given.sessions) refl none;
}

read_names : (given : Given) (read : Result Request1 Refusal) (shape : Shape) → request_of_item shape ≡ read → IsNaming (judged_of given shape) (decide given shape)
read_names given (Ok request) shape e =
    let judged = judged_by given (field request (codes "Session")) in
    subst (λ (one : Result Request1 Refusal). IsNaming (judged_read given one) (decide_read (judged_read given one) one)) (sym e)
    (rules_name judged request (said_of judged.all request) (uri_up judged request.uri) (rules_checked judged request.method (said_of judged.all request) (uri_up judged request.uri)) refl
    (read_known given (field request (codes "Session")) (said_of judged.all request) refl))
read_names given (Err refusal) shape e = subst (λ (one : Result Request1 Refusal). IsNaming (judged_read given one) (decide_read (judged_read given one) one)) (sym e) tt

pub decide_names : (given : Given) (shape : Shape) → IsNaming (judged_of given shape) (decide given shape)
decide_names given shape = read_names given (request_of_item shape) shape refl
