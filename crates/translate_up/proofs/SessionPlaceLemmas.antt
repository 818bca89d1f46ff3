-- What no rule refuses is for the session that its request names, which is there.
use Rattle.std.proofs.Common.{◌≡◌, ℕ, suc, ◌+◌, ◌<◌, Bool, true, false, cond, List, [], ◌∷◌, length, Option, Some, None, Result, Ok, Err, refl, sym, subst, arith}
use Rattle.std.specs.Prelude.{is_some, codes, slice_index_or}
use Rattle.std.specs.Option.{option_and_then}
use Rattle.rtsp_head.specs.Items.{Shape}
use Rattle.rtsp_range.specs.declared.range.Range.{Range}
use Rattle.head_one.specs.declared.request.Request1.{Request1}
use Rattle.head_one.specs.declared.refusal.Refusal.{Refusal}
use Rattle.head_one.specs.Refusals.{first_code}
use Rattle.head_one.specs.Requests.{request_of_item}
use Rattle.rtsp_transport.specs.Channels.{AreApart}
use Rattle.session_one.specs.declared.parts.TheConstants.{MOST_TRACKS}
use Rattle.session_one.specs.declared.table.State.{State}
use Rattle.session_one.specs.declared.table.State.TheVariants.{Init, Ready, Playing}
use Rattle.play_queue.specs.declared.queue.TheConstants.{MOST_PLAYS}
use Rattle.translate_up.specs.declared.decision.Decision.{Decision}
use Rattle.translate_up.specs.declared.decision.Decision.TheVariants as decisions
use Rattle.translate_up.specs.declared.rule.Admission.{Admission}
use Rattle.translate_up.specs.declared.rule.Admission.TheVariants.{SetUp, Played, Other}
use Rattle.translate_up.specs.Ids.{id_of, are_same}
use Rattle.translate_up.specs.Views.{SeenSession, no_session, Given, place_from, place_with_id, session_or_none, Judged}
use Rattle.translate_up.specs.Fields.{field, Said, said_of}
use Rattle.translate_up.specs.Rules.{session_rules, admission, rules_checked}
use Rattle.translate_up.specs.Upward.{uri_up}
use Rattle.translate_up.specs.Answers.{options_text}
use Rattle.translate_up.specs.Decisions.{play_on, play_in, serve, is_for_gateway, by_rules, judged_read, decide_read, decide}
use Rattle.translate_up.specs.DecisionPlaces.{NamesSession, IsDecidedIn}
use Rattle.translate_up.proofs.DecideLemmas.{IsSoundAdmission, AdmitsSound, said_sound, admission_sound, unless_sound}
use Rattle.translate_up.proofs.PlaceLemmas.{HasPlace, decide_place}

-- it is for the session at this place, and the channels of a SETUP are two
abbrev IsFor : Option ℕ → Decision → Type 0
IsFor place (decisions.Answer text) = Unit {0}
IsFor place (decisions.Queue play text) = play.place ≡ place
IsFor place (decisions.Forward request asked) = asked.place ≡ place
IsFor place (decisions.Setup request asked channels) = (asked.place ≡ place) × AreApart channels

play_on_for : (judged : Judged) (request : Request1) (said : Said) (uri : List ℕ) (range : Option Range) → IsFor judged.place (play_on judged request said uri range)
play_on_for judged request said uri None = tt
play_on_for judged request said uri (Some range) = refl

play_in_for : (state : State) (judged : Judged) (request : Request1) (said : Said) (uri : List ℕ) (range : Option Range) → IsFor judged.place (play_in state judged request said uri range)
play_in_for Init judged request said uri range = refl
play_in_for Ready judged request said uri range = refl
play_in_for Playing judged request said uri range = play_on_for judged request said uri range

serve_for : (judged : Judged) (request : Request1) (said : Said) (uri : List ℕ) (admitted : Admission) → IsSoundAdmission admitted → IsFor judged.place (serve judged request said uri admitted)
serve_for judged request said uri (SetUp pair) apart = (refl, apart)
serve_for judged request said uri (Played range) can = play_in_for judged.state judged request said uri range
serve_for judged request said uri Other sound = refl

either_for : (own : Bool) (place : Option ℕ) (text : List ℕ) (served : Decision) → IsFor place served → IsFor place (cond own (decisions.Answer text) served)
either_for true place text served is = tt
either_for false place text served is = is

rules_for : (judged : Judged) (request : Request1) (said : Said) (uri : List ℕ) (checked : Result Admission ℕ) → AdmitsSound checked → IsFor judged.place (by_rules judged request said uri checked)
rules_for judged request said uri (Err code) sound = tt
rules_for judged request said uri (Ok admitted) sound =
    either_for (is_for_gateway request.method said) judged.place (options_text request.cseq) (serve judged request said uri admitted) (serve_for judged request said uri admitted sound)

read_for : (judged : Judged) (read : Result Request1 Refusal) → IsFor judged.place (decide_read judged read)
read_for judged (Ok request) =
    let said = said_of judged.all request in
    let uri = uri_up judged request.uri in
    rules_for judged request said uri (rules_checked judged request.method said uri)
    (unless_sound (first_code (session_rules judged request.method said uri)) (admission request.method said) (admission_sound request.method said (said_sound judged.all request)))
read_for judged (Err refusal) = tt

-- The place of a session with an id is one, and has that session.
pub record IsFound (id : List ℕ) (from place : ℕ) (sessions : List SeenSession) : Type 0 where
  pub at : ℕ
  pub is : place ≡ from + at
  pub within : at < length sessions
  pub same : are_same (slice_index_or sessions at no_session).id (Some id) ≡ true

pub same_some : (one : Option (List ℕ)) (other : Option (List ℕ)) → are_same one other ≡ true → is_some one ≡ true
same_some None other e = cc
same_some (Some id) other e = refl

found_by : (id : List ℕ) (from place : ℕ) (one : SeenSession) (more : List SeenSession) (same : Bool) → are_same one.id (Some id) ≡ same
    → (place_from id (from + 1) more ≡ Some place → IsFound id (from + 1) place more) → cond same (Some from) (place_from id (from + 1) more) ≡ Some place → IsFound id from place (one ∷ more)
found_by id from place one more true is later h = let same : from ≡ place = cc in record { at = 0; is = omega (arith, same); within = omega arith; same = is }
found_by id from place one more false is later h =
    let found = later h in
    record { at = suc found.at; is = omega (arith, found.is); within = omega (arith, found.within); same = found.same }

pub found_is : (id : List ℕ) (from place : ℕ) (sessions : List SeenSession) → place_from id from sessions ≡ Some place → IsFound id from place sessions
found_is id from place [] e = cc
found_is id from place (one ∷ more) e = found_by id from place one more (are_same one.id (Some id)) refl (found_is id (from + 1) place more) e

found_named : (sessions : List SeenSession) (place : Option ℕ) (id : List ℕ) → place_with_id id sessions ≡ place → NamesSession place sessions
found_named sessions None id e = tt
found_named sessions (Some place) id e =
    let found = found_is id 0 place sessions e in
    let same : found.at ≡ place = omega (arith, found.is) in
    (subst (λ (k : ℕ). k < length sessions) same found.within, subst (λ (k : ℕ). is_some (slice_index_or sessions k no_session).id ≡ true) same (same_some _ (Some id) found.same))

id_named : (sessions : List SeenSession) (id : Option (List ℕ)) → NamesSession (option_and_then (λ one. place_with_id one sessions) id) sessions
id_named sessions None = tt
id_named sessions (Some id) = found_named sessions (place_with_id id sessions) id refl

-- a request is judged by the session that it names
record IsJudgedIn (sessions : List SeenSession) (judged : Judged) : Type 0 where
  named : NamesSession judged.place sessions
  queued : judged.queued ≡ (session_or_none judged.place sessions).queued
  tracks : judged.tracks ≡ (session_or_none judged.place sessions).tracks

judged_in : (given : Given) (read : Result Request1 Refusal) → IsJudgedIn given.sessions (judged_read given read)
judged_in given (Ok request) = record { named = id_named given.sessions (option_and_then id_of (field request (codes "Session"))); queued = refl; tracks = refl }
judged_in given (Err refusal) = record { named = tt; queued = refl; tracks = refl }

decided_by : (sessions : List SeenSession) (judged : Judged) (decision : Decision) → IsJudgedIn sessions judged → IsFor judged.place decision → HasPlace judged decision → IsDecidedIn sessions decision
decided_by sessions judged (decisions.Answer text) known is place = tt
decided_by sessions judged (decisions.Queue play text) known is place =
    (subst (λ (one : Option ℕ). NamesSession one sessions) (sym is) known.named, subst (λ (one : Option ℕ). (session_or_none one sessions).queued < MOST_PLAYS) (sym is) (subst (λ n. n < MOST_PLAYS) known.queued place))
decided_by sessions judged (decisions.Forward request asked) known is place = subst (λ (one : Option ℕ). NamesSession one sessions) (sym is) known.named
decided_by sessions judged (decisions.Setup request asked channels) known is place = (
  subst (λ (one : Option ℕ). NamesSession one sessions) (sym is.0) known.named,
  subst (λ (one : Option ℕ). length (session_or_none one sessions).tracks < MOST_TRACKS) (sym is.0) (subst (λ tracks. length tracks < MOST_TRACKS) known.tracks place.0),
  is.1,
)

pub decided_in : (given : Given) (shape : Shape) → IsDecidedIn given.sessions (decide given shape)
decided_in given shape =
    let read = request_of_item shape in
    let judged = judged_read given read in
    decided_by given.sessions judged (decide given shape) (judged_in given read) (read_for judged read) (decide_place given shape)
