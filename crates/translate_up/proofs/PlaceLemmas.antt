-- What no rule refuses has its place: a SETUP comes where a session has room for one stream more, with channels that no
-- stream of it has, and a PLAY waits where there is room for one more.
use Rattle.std.proofs.Common.{◌≡◌, ◌∙◌, ℕ, ◌≤◌, ◌<◌, Bool, true, false, cond, ◌&&◌, ◌||◌, List, [], ◌∷◌, length, Option, Some, None, Result, Ok, Err, refl, sym, ap, subst}
use Rattle.std.specs.Prelude.{nat_le, is_some, codes}
use Rattle.std.proofs.lemmas.Bool.{leb-false}
use Rattle.rtsp_head.specs.Items.{Shape}
use Rattle.rtsp_small.specs.declared.method.Method.{Method}
use Rattle.rtsp_small.specs.declared.method.Method.TheVariants.{Options, Describe, Setup, Play, Pause, Teardown, GetParameter, SetParameter}
use Rattle.rtsp_range.specs.declared.range.Range.{Range}
use Rattle.rtsp_range.specs.declared.fault.RangeFault.{RangeFault}
use Rattle.rtsp_transport.specs.declared.channels.Pair.{Pair}
use Rattle.rtsp_transport.specs.declared.alternative.Wanted.{Wanted}
use Rattle.rtsp_transport.specs.declared.alternative.Wanted.TheVariants.{Any, Exact}
use Rattle.rtsp_transport.specs.declared.fault.TransportFault.{TransportFault}
use Rattle.rtsp_transport.specs.Wants.{wanted_of}
use Rattle.head_one.specs.declared.request.Request1.{Request1}
use Rattle.head_one.specs.declared.refusal.Refusal.{Refusal}
use Rattle.head_one.specs.Refusals.{rule, first_code}
use Rattle.head_one.specs.Requests.{request_of_item}
use Rattle.session_one.specs.declared.parts.Track.{Track}
use Rattle.session_one.specs.declared.parts.TheConstants.{MOST_TRACKS}
use Rattle.session_one.specs.declared.table.State.{State}
use Rattle.session_one.specs.declared.table.State.TheVariants.{Init, Ready, Playing}
use Rattle.play_queue.specs.declared.queue.TheConstants.{MOST_PLAYS}
use Rattle.session_one.specs.Table.{same_state}
use Rattle.translate_up.specs.declared.decision.Decision.{Decision}
use Rattle.translate_up.specs.declared.decision.Decision.TheVariants as decisions
use Rattle.translate_up.specs.declared.rule.Admission.{Admission}
use Rattle.translate_up.specs.declared.rule.Admission.TheVariants.{SetUp, Played, Other}
use Rattle.translate_up.specs.Channels.{is_taken, free_pair, pair_for, client_pair}
use Rattle.translate_up.specs.Views.{Given, Judged}
use Rattle.translate_up.specs.Fields.{field, Said, said_of, is_setup}
use Rattle.translate_up.specs.Rules.{names_no_session, is_out_of_turn, names_one_of_many, has_no_channels, has_bad_range, finds_none_free, must_wait, finds_no_place, session_rules, with_channels, with_range, admission, unless_code, rules_checked}
use Rattle.translate_up.specs.Upward.{uri_up}
use Rattle.translate_up.specs.Answers.{options_text}
use Rattle.translate_up.specs.Decisions.{play_on, play_in, serve, is_for_gateway, by_rules, decide_request, decide_read, judged_of, decide}
use Rattle.translate_up.proofs.FreeLemmas.{lowest_found}
use Rattle.translate_up.proofs.RuleLemmas.{unrefused}

abbrev pub HasPlace : Judged → Decision → Type 0
HasPlace judged (decisions.Answer text) = Unit {0}
HasPlace judged (decisions.Queue play text) = judged.queued < MOST_PLAYS
HasPlace judged (decisions.Forward request asked) = Unit {0}
HasPlace judged (decisions.Setup request asked channels) = (length judged.tracks < MOST_TRACKS) × (length judged.all ≤ 63 → is_taken judged.all channels ≡ false)

-- The channels that a player gets are not taken.
wanted_free : (tracks : List Track) (wanted : Result Wanted TransportFault) (pair : Pair) → length tracks ≤ 63 → pair_for tracks wanted ≡ Some pair → is_taken tracks pair ≡ false
wanted_free tracks (Ok Any) pair few e = let same : free_pair tracks ≡ pair = cc in subst (λ (one : Pair). is_taken tracks one ≡ false) same (lowest_found tracks few).free
wanted_free tracks (Ok (Exact one)) pair few e = by (is_taken tracks one) refl e
  where
    by : (taken : Bool) → is_taken tracks one ≡ taken → cond taken None (Some one) ≡ Some pair → is_taken tracks pair ≡ false
    by true is h = cc
    by false is h = let same : one ≡ pair = cc in subst (λ (p : Pair). is_taken tracks p ≡ false) same is
wanted_free tracks (Err fault) pair few e = cc

client_free : (tracks : List Track) (value : Option (List ℕ)) (pair : Pair) → length tracks ≤ 63 → client_pair tracks value ≡ Some pair → is_taken tracks pair ≡ false
client_free tracks None pair few e = cc
client_free tracks (Some value) pair few e = wanted_free tracks (wanted_of value) pair few e

said_free : (tracks : List Track) (request : Request1) (pair : Pair) → length tracks ≤ 63 → (said_of tracks request).channels ≡ Some pair → is_taken tracks pair ≡ false
said_free tracks request pair few e = by (is_setup request.method) e
  where
    by : (setup : Bool) → cond setup (client_pair tracks (field request (codes "Transport"))) None ≡ Some pair → is_taken tracks pair ≡ false
    by true h = client_free tracks (field request (codes "Transport")) pair few h
    by false h = cc

-- Where no rule applies, the last one doesn't.
finds_place : (judged : Judged) (method : Method) (said : Said) (uri : List ℕ) → first_code (session_rules judged method said uri) ≡ None → finds_no_place judged method said ≡ false
finds_place judged method said uri h =
    let last = rule (finds_no_place judged method said) 503 ∷ [] in
    let places = rule (finds_none_free judged method) 453 ∷ last in
    let ranges = rule (has_bad_range method said.range) 457 ∷ places in
    let channels = rule (has_no_channels method said) 461 ∷ ranges in
    let many = rule (names_one_of_many judged method uri) 460 ∷ channels in
    let turns = rule (is_out_of_turn judged method said uri) 455 ∷ many in
    let session = unrefused (names_no_session method judged.session said.session) 454 turns h in
    let turn = unrefused (is_out_of_turn judged method said uri) 455 many session.1 in
    let one = unrefused (names_one_of_many judged method uri) 460 channels turn.1 in
    let channel = unrefused (has_no_channels method said) 461 ranges one.1 in
    let bad = unrefused (has_bad_range method said.range) 457 places channel.1 in
    let free = unrefused (finds_none_free judged method) 453 last bad.1 in
    (unrefused (finds_no_place judged method said) 503 [] free.1).0

-- What is let through is for its method, with what the request says.
abbrev pub IsAdmitted : Method → Said → Admission → Type 0
IsAdmitted method said (SetUp pair) = (method ≡ Setup) × (said.channels ≡ Some pair)
IsAdmitted method said (Played range) = (method ≡ Play) × (is_some range ≡ true → is_some said.range ≡ true)
IsAdmitted method said Other = Unit {0}

channels_admitted : (said : Said) (channels : Option Pair) (admitted : Admission) → said.channels ≡ channels → with_channels channels ≡ Ok admitted → IsAdmitted Setup said admitted
channels_admitted said None admitted is e = cc
channels_admitted said (Some pair) admitted is e = let same : SetUp pair ≡ admitted = cc in subst (λ (one : Admission). IsAdmitted Setup said one) same (refl, is)

range_admitted : (said : Said) (range : Option (Result Range RangeFault)) (admitted : Admission) → said.range ≡ range → with_range range ≡ Ok admitted → IsAdmitted Play said admitted
range_admitted said None admitted is e = let same : Played None ≡ admitted = cc in subst (λ (one : Admission). IsAdmitted Play said one) same (refl, λ some. cc)
range_admitted said (Some (Ok range)) admitted is e =
    let same : Played (Some range) ≡ admitted = cc in subst (λ (one : Admission). IsAdmitted Play said one) same (refl, λ some. ap (λ (one : Option (Result Range RangeFault)). is_some one) is)
range_admitted said (Some (Err fault)) admitted is e = cc

other_admitted : (method : Method) (said : Said) (admitted : Admission) → ◌≡◌ {A = Result Admission ℕ} (Ok Other) (Ok admitted) → IsAdmitted method said admitted
other_admitted method said admitted e = let same : Other ≡ admitted = cc in subst (λ (one : Admission). IsAdmitted method said one) same tt

pub admitted_as : (method : Method) (said : Said) (admitted : Admission) → admission method said ≡ Ok admitted → IsAdmitted method said admitted
admitted_as Options said admitted e = other_admitted Options said admitted e
admitted_as Describe said admitted e = other_admitted Describe said admitted e
admitted_as Setup said admitted e = channels_admitted said said.channels admitted refl e
admitted_as Play said admitted e = range_admitted said said.range admitted refl e
admitted_as Pause said admitted e = other_admitted Pause said admitted e
admitted_as Teardown said admitted e = other_admitted Teardown said admitted e
admitted_as GetParameter said admitted e = other_admitted GetParameter said admitted e
admitted_as SetParameter said admitted e = other_admitted SetParameter said admitted e

-- no rule applies, and it is let through
pub checked_as : (code : Option ℕ) (result : Result Admission ℕ) (admitted : Admission) → unless_code code result ≡ Ok admitted → (code ≡ None) × (result ≡ Ok admitted)
checked_as None result admitted e = (refl, e)
checked_as (Some code) result admitted e = cc

-- so it has its place
either_false : (a b : Bool) → (a || b) ≡ false → (a ≡ false) × (b ≡ false)
either_false true b e = cc
either_false false b e = (refl, e)

setup_place : (judged : Judged) (said : Said) → finds_no_place judged Setup said ≡ false → length judged.tracks < MOST_TRACKS
setup_place judged said none = leb-false MOST_TRACKS (length judged.tracks) (either_false (nat_le MOST_TRACKS (length judged.tracks)) (must_wait judged Setup said && nat_le MOST_PLAYS judged.queued) none).0

play_place : (judged : Judged) (said : Said) → finds_no_place judged Play said ≡ false → judged.state ≡ Playing → is_some said.range ≡ true → judged.queued < MOST_PLAYS
play_place judged said none playing some = leb-false MOST_PLAYS judged.queued (by judged.state (is_some said.range) playing some none)
  where
    by : (state : State) (range : Bool) → state ≡ Playing → range ≡ true → (false || ((same_state state Playing && range) && nat_le MOST_PLAYS judged.queued)) ≡ false → nat_le MOST_PLAYS judged.queued ≡ false
    by Init range e r h = cc
    by Ready range e r h = cc
    by Playing true e r h = h
    by Playing false e r h = cc

play_on_place : (judged : Judged) (request : Request1) (said : Said) (uri : List ℕ) (range : Option Range) → (is_some range ≡ true → judged.queued < MOST_PLAYS) → HasPlace judged (play_on judged request said uri range)
play_on_place judged request said uri None few = tt
play_on_place judged request said uri (Some range) few = few refl

play_in_place : (state : State) (judged : Judged) (request : Request1) (said : Said) (uri : List ℕ) (range : Option Range) → (state ≡ Playing → is_some range ≡ true → judged.queued < MOST_PLAYS)
    → HasPlace judged (play_in state judged request said uri range)
play_in_place Init judged request said uri range few = tt
play_in_place Ready judged request said uri range few = tt
play_in_place Playing judged request said uri range few = play_on_place judged request said uri range (few refl)

serve_place : (judged : Judged) (request : Request1) (said : Said) (uri : List ℕ) (admitted : Admission) → said ≡ said_of judged.all request → finds_no_place judged request.method said ≡ false → IsAdmitted request.method said admitted
    → HasPlace judged (serve judged request said uri admitted)
serve_place judged request said uri (SetUp pair) is none meant =
    let few : length judged.tracks < MOST_TRACKS = setup_place judged said (ap (λ method. finds_no_place judged method said) (sym meant.0) ∙ none) in
    (few, λ all. said_free judged.all request pair all (ap (λ (one : Said). one.channels) (sym is) ∙ meant.1))
serve_place judged request said uri (Played range) is none meant =
    play_in_place judged.state judged request said uri range (λ playing some. play_place judged said (ap (λ method. finds_no_place judged method said) (sym meant.0) ∙ none) playing (meant.1 some))
serve_place judged request said uri Other is none meant = tt

either_place : (own : Bool) (judged : Judged) (text : List ℕ) (served : Decision) → HasPlace judged served → HasPlace judged (cond own (decisions.Answer text) served)
either_place true judged text served place = tt
either_place false judged text served place = place

by_rules_place : (judged : Judged) (request : Request1) (said : Said) (uri : List ℕ) (checked : Result Admission ℕ) → said ≡ said_of judged.all request → rules_checked judged request.method said uri ≡ checked
    → HasPlace judged (by_rules judged request said uri checked)
by_rules_place judged request said uri (Err code) is e = tt
by_rules_place judged request said uri (Ok admitted) is e =
    let parts = checked_as (first_code (session_rules judged request.method said uri)) (admission request.method said) admitted e in
    either_place (is_for_gateway request.method said) judged (options_text request.cseq) (serve judged request said uri admitted)
    (serve_place judged request said uri admitted is (finds_place judged request.method said uri parts.0) (admitted_as request.method said admitted parts.1))

request_place : (judged : Judged) (request : Request1) → HasPlace judged (decide_request judged request)
request_place judged request =
    let said = said_of judged.all request in
    let uri = uri_up judged request.uri in
    by_rules_place judged request said uri (rules_checked judged request.method said uri) refl refl

read_place : (judged : Judged) (read : Result Request1 Refusal) → HasPlace judged (decide_read judged read)
read_place judged (Ok request) = request_place judged request
read_place judged (Err refusal) = tt

pub decide_place : (given : Given) (shape : Shape) → HasPlace (judged_of given shape) (decide given shape)
decide_place given shape = read_place (judged_of given shape) (request_of_item shape)
