-- How many requests may go up for one request of a player: itself, and a TEARDOWN of the session that it makes. A session is
-- torn down once, by its player or when the player has closed, so its SETUP pays for that and the player's TEARDOWN is free.
use Rattle.std.proofs.Common.{◌≡◌, ◌∙◌, ℕ, ◌+◌, ◌≤◌, Bool, true, false, cond, ◌&&◌, not, List, Option, Some, None, Result, Ok, Err, refl, sym, ap, subst, arith}
use Rattle.std.specs.Prelude.{codes, drop, is_some, slice_index_or}
use Rattle.rtsp_head.specs.Items.{Shape}
use Rattle.rtsp_head.specs.declared.item.ItemKind.{ItemKind}
use Rattle.rtsp_head.specs.declared.item.ItemKind.TheVariants as kinds
use Rattle.rtsp_small.specs.declared.method.Method.{Method}
use Rattle.rtsp_small.specs.declared.method.Method.TheVariants.{Options, Describe, Setup, Play, Pause, Teardown, GetParameter, SetParameter}
use Rattle.rtsp_range.specs.declared.range.Range.{Range}
use Rattle.rtsp_range.specs.declared.fault.RangeFault.{RangeFault}
use Rattle.rtsp_transport.specs.declared.channels.Pair.{Pair}
use Rattle.head_one.specs.declared.request.Request1.{Request1}
use Rattle.head_one.specs.declared.refusal.Refusal.{Refusal}
use Rattle.head_one.specs.Requests.{request_of_item}
use Rattle.head_one.specs.Refusals.{first_code}
use Rattle.session_one.specs.Table.{same_method}
use Rattle.session_one.specs.declared.table.State.{State}
use Rattle.session_one.specs.declared.table.State.TheVariants.{Init, Ready, Playing}
use Rattle.translate_up.specs.declared.decision.Decision.{Decision}
use Rattle.translate_up.specs.declared.decision.Decision.TheVariants as decisions
use Rattle.translate_up.specs.Views.{SeenSession, no_session, Given, Judged, judged_at, place_named, session_or_none}
use Rattle.translate_up.specs.Fields.{field, Said, said_of, is_setup, is_named}
use Rattle.translate_up.specs.Ids.{id_of, are_same}
use Rattle.translate_up.specs.Rules.{names_no_session, session_rules, with_channels, with_range, admission, unless_code, rules_checked}
use Rattle.translate_up.specs.Upward.{uri_up, request_up, asked_of}
use Rattle.translate_up.specs.Answers.{options_text}
use Rattle.translate_up.specs.Decisions.{forward, play_on, play_in, is_for_gateway, by_rules, decide_request, decide_read, judged_read, decide}
use Rattle.client_slot.specs.Session.{PlayerSession}
use Rattle.client_slot.specs.Places.{session_at}
use Rattle.drill_run.proofs.SessionSumLemmas.{total, total_but, but_less}

-- By its method, and by whether it names a session. The gateway answers OPTIONS without one by itself, and lets no TEARDOWN
-- up but for a session that is there.
abbrev pub most_asked : Method → Bool → ℕ
most_asked Options named = cond named 1 0
most_asked Describe named = 1
most_asked Setup named = cond named 1 2
most_asked Play named = 1
most_asked Pause named = 1
most_asked Teardown named = 0
most_asked GetParameter named = 1
most_asked SetParameter named = 1

abbrev pub most_read : Result Request1 Refusal → ℕ
most_read (Ok request) = most_asked request.method (is_some (field request (codes "Session")))
most_read (Err refusal) = 0

abbrev pub most_for : Shape → ℕ
most_for shape = most_read (request_of_item shape)

-- What is no request asks nothing.
abbrev pub most_arrived : ItemKind → ℕ → ℕ
most_arrived kinds.Request most = most
most_arrived kinds.Response most = 0
most_arrived kinds.Frame most = 0
most_arrived (kinds.Bad fault) most = 0

abbrev pub most_item : Shape → ℕ
most_item shape = most_arrived shape.kind (most_for shape)

-- one where a place has a session
abbrev pub made_of : PlayerSession → ℕ
made_of session = cond (is_some session.id) 1 0

-- How many sessions there are but for that at a place; and how many a connection has once the server grants a request: the
-- success of a TEARDOWN ends one, and that of a SETUP that names none makes one.
abbrev pub total_where : Option ℕ → List PlayerSession → ℕ
total_where None sessions = total made_of sessions
total_where (Some place) sessions = total_but made_of place sessions

abbrev pub ended_by : Method → Option ℕ → Option ℕ
ended_by Options place = None
ended_by Describe place = None
ended_by Setup place = None
ended_by Play place = None
ended_by Pause place = None
ended_by Teardown place = place
ended_by GetParameter place = None
ended_by SetParameter place = None

abbrev pub made_by : Method → Option ℕ → ℕ
made_by Options place = 0
made_by Describe place = 0
made_by Setup None = 1
made_by Setup (Some place) = 0
made_by Play place = 0
made_by Pause place = 0
made_by Teardown place = 0
made_by GetParameter place = 0
made_by SetParameter place = 0

abbrev pub left_asked : Method → Option ℕ → List PlayerSession → ℕ
left_asked method place sessions = total_where (ended_by method place) sessions + made_by method place

-- What becomes of a request is paid: where it goes up, it and the sessions that its success leaves are no more than the
-- sessions before and the most for it.
abbrev pub IsPaid : List PlayerSession → ℕ → Decision → Type 0
IsPaid sessions most (decisions.Answer text) = Unit {0}
IsPaid sessions most (decisions.Queue play text) = 1 ≤ most
IsPaid sessions most (decisions.Forward request asked) = left_asked asked.method asked.place sessions + 1 ≤ total made_of sessions + most
IsPaid sessions most (decisions.Setup request asked channels) = left_asked asked.method asked.place sessions + 1 ≤ total made_of sessions + most

-- a place where there is a session
abbrev HasMade : Option ℕ → List PlayerSession → Type 0
HasMade None sessions = ⊥
HasMade (Some place) sessions = 1 ≤ made_of (session_at place sessions)

-- A session that is named is there, where the first rule does not apply.
same_held : (session other : Option (List ℕ)) → not (are_same session other) ≡ false → is_some session ≡ true
same_held None other e = cc
same_held (Some one) other e = refl

named_held : (method : Method) (session value : Option (List ℕ)) → names_no_session method session value ≡ false → is_some value ≡ true → is_some session ≡ true
named_held method session None e some = cc
named_held method session (Some value) e some = same_held session (id_of value) e

torn_held : (session value : Option (List ℕ)) → names_no_session Teardown session value ≡ false → is_some session ≡ true
torn_held session None e = cc
torn_held session (Some value) e = same_held session (id_of value) e

-- what goes up is paid, by its method
plain_paid : (method : Method) (named : Bool) (place : Option ℕ) (sessions : List PlayerSession) → same_method method Options && not named ≡ false → is_setup method ≡ false
    → (method ≡ Teardown → HasMade place sessions) → left_asked method place sessions + 1 ≤ total made_of sessions + most_asked method named
plain_paid Options false place sessions own other torn = cc
plain_paid Options true place sessions own other torn = omega arith
plain_paid Describe named place sessions own other torn = omega arith
plain_paid Setup named place sessions own other torn = cc
plain_paid Play named place sessions own other torn = omega arith
plain_paid Pause named place sessions own other torn = omega arith
plain_paid Teardown named None sessions own other torn = absurd (torn refl)
plain_paid Teardown named (Some place) sessions own other torn = let less = but_less made_of place sessions refl (torn refl) in omega (arith, less)
plain_paid GetParameter named place sessions own other torn = omega arith
plain_paid SetParameter named place sessions own other torn = omega arith

setup_paid : (named : Bool) (place : Option ℕ) (sessions : List PlayerSession) → (named ≡ true → HasMade place sessions) → left_asked Setup place sessions + 1 ≤ total made_of sessions + most_asked Setup named
setup_paid false None sessions held = omega arith
setup_paid true None sessions held = absurd (held refl)
setup_paid false (Some place) sessions held = omega arith
setup_paid true (Some place) sessions held = omega arith

play_paid : (method : Method) (named : Bool) → method ≡ Play → 1 ≤ most_asked method named
play_paid method named is = subst (λ (m : Method). 1 ≤ most_asked m named) (sym is) (omega arith)

play_plain : (method : Method) (named : Bool) (place : Option ℕ) (sessions : List PlayerSession) → method ≡ Play → left_asked method place sessions + 1 ≤ total made_of sessions + most_asked method named
play_plain method named place sessions is =
    subst (λ (m : Method). left_asked m place sessions + 1 ≤ total made_of sessions + most_asked m named) (sym is) (let same : left_asked Play place sessions ≡ total made_of sessions + 0 = refl in omega (arith, same))

module _ (judged : Judged) (request : Request1) (said : Said) (uri : List ℕ) (sessions : List PlayerSession) where
  abbrev IsPaidFor : Decision → Type 0
  IsPaidFor decision = IsPaid sessions (most_asked request.method (is_named said)) decision

  on_paid : (range : Option Range) → request.method ≡ Play → IsPaidFor (play_on judged request said uri range)
  on_paid None is = tt
  on_paid (Some range) is = play_paid request.method (is_named said) is

  in_paid : (state : State) (range : Option Range) → request.method ≡ Play → IsPaidFor (play_in state judged request said uri range)
  in_paid Init range is = play_plain request.method (is_named said) judged.place sessions is
  in_paid Ready range is = play_plain request.method (is_named said) judged.place sessions is
  in_paid Playing range is = on_paid range is

  own_paid : (own : Bool) (text : List ℕ) (served : Decision) → (own ≡ false → IsPaidFor served) → IsPaidFor (cond own (decisions.Answer text) served)
  own_paid true text served paid = tt
  own_paid false text served paid = paid refl

  -- by the gateway itself, or else up
  other_paid : (method : Method) → request.method ≡ method → is_setup method ≡ false → (method ≡ Teardown → HasMade judged.place sessions)
      → IsPaidFor (cond (is_for_gateway request.method said) (decisions.Answer (options_text request.cseq)) (forward judged request said uri None))
  other_paid method same other torn =
      own_paid (is_for_gateway request.method said) (options_text request.cseq) (forward judged request said uri None)
      (λ own. plain_paid request.method (is_named said) judged.place sessions own (ap is_setup same ∙ other) (λ is. torn (sym same ∙ is)))

  channels_paid : (channels : Option Pair) → request.method ≡ Setup → (is_named said ≡ true → HasMade judged.place sessions) → IsPaidFor (by_rules judged request said uri (with_channels channels))
  channels_paid None same held = tt
  channels_paid (Some pair) same held =
      own_paid (is_for_gateway request.method said) (options_text request.cseq) (decisions.Setup (request_up judged request said uri None) (asked_of judged request said uri) pair)
      (λ own. subst (λ (m : Method). left_asked m judged.place sessions + 1 ≤ total made_of sessions + most_asked m (is_named said)) (sym same) (setup_paid (is_named said) judged.place sessions held))

  range_paid : (range : Option (Result Range RangeFault)) → request.method ≡ Play → IsPaidFor (by_rules judged request said uri (with_range range))
  range_paid None same = own_paid (is_for_gateway request.method said) (options_text request.cseq) (play_in judged.state judged request said uri None) (λ own. in_paid judged.state None same)
  range_paid (Some (Ok range)) same =
      own_paid (is_for_gateway request.method said) (options_text request.cseq) (play_in judged.state judged request said uri (Some range)) (λ own. in_paid judged.state (Some range) same)
  range_paid (Some (Err fault)) same = tt

  method_paid : (method : Method) → request.method ≡ method → (is_some judged.session ≡ true → HasMade judged.place sessions) → names_no_session method judged.session said.session ≡ false
      → IsPaidFor (by_rules judged request said uri (admission method said))
  method_paid Options same held e = other_paid Options same refl (λ torn. cc)
  method_paid Describe same held e = other_paid Describe same refl (λ torn. cc)
  method_paid Setup same held e = channels_paid said.channels same (λ named. held (named_held Setup judged.session said.session e named))
  method_paid Play same held e = range_paid said.range same
  method_paid Pause same held e = other_paid Pause same refl (λ torn. cc)
  method_paid Teardown same held e = other_paid Teardown same refl (λ torn. held (torn_held judged.session said.session e))
  method_paid GetParameter same held e = other_paid GetParameter same refl (λ torn. cc)
  method_paid SetParameter same held e = other_paid SetParameter same refl (λ torn. cc)

  first_paid : (method : Method) (refused : Bool) (code : ℕ) (later : Option ℕ) → (refused ≡ false → IsPaidFor (by_rules judged request said uri (admission method said)))
      → IsPaidFor (by_rules judged request said uri (unless_code (cond refused (Some code) later) (admission method said)))
  first_paid method true code later paid = tt
  first_paid method false code None paid = paid refl
  first_paid method false code (Some other) paid = tt

  rules_paid : (is_some judged.session ≡ true → HasMade judged.place sessions) → IsPaidFor (by_rules judged request said uri (rules_checked judged request.method said uri))
  rules_paid held =
      first_paid request.method (names_no_session request.method judged.session said.session) 454 (first_code (drop 1 (session_rules judged request.method said uri))) (method_paid request.method refl held)

-- What a request sees of sessions has an id at no place but where one is.
abbrev pub ShowsMade : List SeenSession → List PlayerSession → Type 0
ShowsMade seen sessions = (place : ℕ) → is_some (slice_index_or seen place no_session).id ≡ true → 1 ≤ made_of (session_at place sessions)

place_made : (place : Option ℕ) (seen : List SeenSession) (sessions : List PlayerSession) → ShowsMade seen sessions → is_some (session_or_none place seen).id ≡ true → HasMade place sessions
place_made None seen sessions shows some = cc
place_made (Some place) seen sessions shows some = shows place some

request_paid : (given : Given) (place : Option ℕ) (request : Request1) (sessions : List PlayerSession) → ShowsMade given.sessions sessions
    → IsPaid sessions (most_asked request.method (is_some (field request (codes "Session")))) (decide_request (judged_at given place) request)
request_paid given place request sessions shows =
    let judged = judged_at given place in
    let said = said_of judged.all request in
    let uri = uri_up judged request.uri in
    rules_paid judged request said uri sessions (place_made place given.sessions sessions shows)

decided_paid : (given : Given) (read : Result Request1 Refusal) (sessions : List PlayerSession) → ShowsMade given.sessions sessions → IsPaid sessions (most_read read) (decide_read (judged_read given read) read)
decided_paid given (Ok request) sessions shows = request_paid given (place_named (field request (codes "Session")) given.sessions) request sessions shows
decided_paid given (Err refusal) sessions shows = tt

pub decide_paid : (given : Given) (shape : Shape) (sessions : List PlayerSession) → ShowsMade given.sessions sessions → IsPaid sessions (most_for shape) (decide given shape)
decide_paid given shape sessions shows = decided_paid given (request_of_item shape) sessions shows
