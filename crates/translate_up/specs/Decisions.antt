-- What becomes of a request of a player that has none open (this project's own).
use Rattle.std.specs.Prelude.{ℕ, codes, Bool, ◌&&◌, not, List, [], Option, Some, None, Result, Ok, Err, if◌then◌else◌}
use Rattle.rtsp_head.specs.Items.{Shape}
use Rattle.rtsp_small.specs.declared.method.Method.{Method}
use Rattle.rtsp_small.specs.declared.method.Method.TheVariants.{Options}
use Rattle.rtsp_range.specs.declared.range.Range.{Range}
use Rattle.rtsp_range.specs.RangeText.{range_text}
use Rattle.head_one.specs.declared.request.Request1.{Request1}
use Rattle.head_one.specs.declared.refusal.Refusal.{Refusal}
use Rattle.head_one.specs.Requests.{request_of_item}
use Rattle.session_one.specs.declared.table.State.{State}
use Rattle.session_one.specs.declared.table.State.TheVariants.{Init, Ready, Playing}
use Rattle.session_one.specs.Table.{same_method}
use Rattle.translate_up.specs.declared.decision.Decision.{Decision}
use Rattle.translate_up.specs.declared.decision.Decision.TheVariants.{Answer, Forward, Queue, Setup}
use Rattle.translate_up.specs.declared.rule.Admission.{Admission}
use Rattle.translate_up.specs.declared.rule.Admission.TheVariants.{SetUp, Played, Other}
use Rattle.translate_up.specs.Views.{Given, Judged, judged_at, judged_by}
use Rattle.translate_up.specs.Fields.{field, Said, said_of, is_named, scale_of}
use Rattle.translate_up.specs.Rules.{rules_checked}
use Rattle.translate_up.specs.Upward.{uri_up, request_up, asked_of, session_said}
use Rattle.translate_up.specs.Answers.{own_answer, refusal_text, options_text, play_text}

-- a request that goes up with its range
abbrev pub forward : Judged → Request1 → Said → List ℕ → Option Range → Decision
forward judged request said uri range = Forward (request_up judged request said uri range) (asked_of judged request said uri)

-- A PLAY while streams play waits with its range, and is answered at once; without a range it changes nothing.
abbrev pub play_on : Judged → Request1 → Said → List ℕ → Option Range → Decision
play_on judged request said uri None = Answer (play_text request.cseq (session_said judged said) None)
play_on judged request said uri (Some range) =
    Queue (record { uri = uri; range = range; scale = scale_of request; place = judged.place }) (play_text request.cseq (session_said judged said) (Some (range_text range)))

-- a PLAY in each state: one that comes while a PLAY runs waits, or is refused
abbrev pub play_in : State → Judged → Request1 → Said → List ℕ → Option Range → Decision
play_in Init judged request said uri range = forward judged request said uri range
play_in Ready judged request said uri range = forward judged request said uri range
play_in Playing judged request said uri range = play_on judged request said uri range

-- A request that no rule refuses waits, or goes up: a SETUP with the channels that its player gets.
abbrev pub serve : Judged → Request1 → Said → List ℕ → Admission → Decision
serve judged request said uri (SetUp pair) = Setup (request_up judged request said uri None) (asked_of judged request said uri) pair
serve judged request said uri (Played range) = play_in judged.state judged request said uri range
serve judged request said uri Other = forward judged request said uri None

-- a request that is for the gateway itself: OPTIONS without a session
abbrev pub is_for_gateway : Method → Said → Bool
is_for_gateway method said = same_method method Options && not (is_named said)

-- The first rule that applies refuses a request, and tells the number alone. What none refuses is answered where it is
-- for the gateway itself, and else it is served.
abbrev pub by_rules : Judged → Request1 → Said → List ℕ → Result Admission ℕ → Decision
by_rules judged request said uri (Err code) = Answer (own_answer code (Some request.cseq) [])
by_rules judged request said uri (Ok admission) =
    if is_for_gateway request.method said then Answer (options_text request.cseq) else serve judged request said uri admission

-- The rules look at the URI that the request would have on its way up.
abbrev pub decide_request : Judged → Request1 → Decision
decide_request judged request =
    let said = said_of judged.all request in
    let uri = uri_up judged request.uri in
    by_rules judged request said uri (rules_checked judged request.method said uri)

-- what becomes of a request that was read, or refused by its head
abbrev pub decide_read : Judged → Result Request1 Refusal → Decision
decide_read judged (Ok request) = decide_request judged request
decide_read judged (Err refusal) = Answer (refusal_text refusal)

-- what a request is judged by, once it was read: the session that it names
abbrev pub judged_read : Given → Result Request1 Refusal → Judged
judged_read given (Ok request) = judged_by given (field request (codes "Session"))
judged_read given (Err refusal) = judged_at given None

-- what a request is judged by
abbrev pub judged_of : Given → Shape → Judged
judged_of given shape = judged_read given (request_of_item shape)

-- What becomes of a request: the rules on its head come first.
abbrev pub decide : Given → Shape → Decision
decide given shape = decide_read (judged_of given shape) (request_of_item shape)
