-- What becomes of a request does not depend on the numbers of the pairs of channels.
use Rattle.std.proofs.Common.{◌≡◌, ◌∙◌, ℕ, suc, zero, ◌+◌, nat_le, Bool, cond, ◌&&◌, ◌||◌, not, if◌then◌else◌, List, [], ◌∷◌, map, length, Option, Some, None, Result, Ok, Err, refl, ap}
use Rattle.std.specs.Prelude.{codes, option_map}
use Rattle.std.specs.Str.{bytes_eq}
use Rattle.rtsp_small.specs.declared.method.Method.{Method}
use Rattle.rtsp_range.specs.declared.range.Range.{Range}
use Rattle.rtsp_range.specs.Meaning.{One, meaning}
use Rattle.rtsp_transport.specs.declared.channels.Pair.{Pair}
use Rattle.rtsp_transport.specs.declared.alternative.Wanted.{Wanted}
use Rattle.rtsp_transport.specs.declared.alternative.Wanted.TheVariants.{Any, Exact}
use Rattle.rtsp_transport.specs.declared.fault.TransportFault.{TransportFault}
use Rattle.rtsp_transport.specs.Wants.{wanted_of}
use Rattle.rtsp_head.specs.Items.{Shape}
use Rattle.head_one.specs.declared.request.Request1.{Request1}
use Rattle.head_one.specs.declared.refusal.Refusal.{Refusal}
use Rattle.head_one.specs.Refusals.{Rule, rule, first_code}
use Rattle.head_one.specs.Requests.{request_of_item}
use Rattle.session_one.specs.declared.parts.Track.{Track}
use Rattle.session_one.specs.declared.parts.TheConstants.{MOST_TRACKS}
use Rattle.session_one.specs.declared.table.State.{State}
use Rattle.session_one.specs.declared.table.State.TheVariants.{Init, Ready, Playing}
use Rattle.session_one.specs.Table.{is_allowed}
use Rattle.play_queue.specs.declared.queue.TheConstants.{MOST_PLAYS}
use Rattle.translate_up.specs.Channels.{share, is_taken, pair_at, free_from, free_pair, pair_for, client_pair}
use Rattle.translate_up.specs.Views.{Given, Judged, with_pair, with_pairs, judged_with_pairs}
use Rattle.translate_up.specs.Fields.{field, Said, said_of, is_setup, is_play, is_pause, is_named, needs_session, is_track}
use Rattle.translate_up.specs.Rules.{names_no_session, has_no_channels, has_bad_range, finds_none_free, must_wait, admission, unless_code, rules_checked}
use Rattle.translate_up.specs.Answers.{options_text}
use Rattle.translate_up.specs.Upward.{uri_up}
use Rattle.translate_up.specs.declared.rule.Admission.{Admission}
use Rattle.translate_up.specs.declared.rule.Admission.TheVariants.{SetUp, Played, Other}
use Rattle.translate_up.specs.declared.decision.Decision.{Decision}
use Rattle.translate_up.specs.declared.decision.Decision.TheVariants.{Answer}
use Rattle.translate_up.specs.Decisions.{play_on, play_in, serve, is_for_gateway, by_rules, decide_request, decide_read, judged_of, decide}
use Rattle.translate_up.proofs.JudgementLemmas.{judged_under}

taken_under : (pairs : ℕ → ℕ) (tracks : List Track) (pair : Pair) → is_taken (map (with_pair pairs) tracks) pair ≡ is_taken tracks pair
taken_under pairs [] pair = refl
taken_under pairs (track ∷ tracks) pair = ap (λ taken. share track.client pair || taken) (taken_under pairs tracks pair)

free_under : (pairs : ℕ → ℕ) (more : ℕ) (tracks : List Track) (rtp : ℕ) → free_from more (map (with_pair pairs) tracks) rtp ≡ free_from more tracks rtp
unfolding free_from
free_under pairs zero tracks rtp = refl
free_under pairs (suc more) tracks rtp =
    ap (λ taken. cond taken (free_from more (map (with_pair pairs) tracks) (rtp + 2)) rtp) (taken_under pairs tracks (pair_at rtp))
    ∙ ap (λ free. cond (is_taken tracks (pair_at rtp)) free rtp) (free_under pairs more tracks (rtp + 2))

lowest_under : (pairs : ℕ → ℕ) (tracks : List Track) → free_pair (map (with_pair pairs) tracks) ≡ free_pair tracks
unfolding free_pair
lowest_under pairs tracks = ap pair_at (free_under pairs 127 tracks 0)

wanted_under : (pairs : ℕ → ℕ) (tracks : List Track) (wanted : Result Wanted TransportFault) → pair_for (map (with_pair pairs) tracks) wanted ≡ pair_for tracks wanted
wanted_under pairs tracks (Ok Any) = ap (λ pair. Some pair) (lowest_under pairs tracks)
wanted_under pairs tracks (Ok (Exact pair)) = ap (λ (taken : Bool). cond taken None (Some pair)) (taken_under pairs tracks pair)
wanted_under pairs tracks (Err fault) = refl

channels_under : (pairs : ℕ → ℕ) (tracks : List Track) (value : Option (List ℕ)) → client_pair (map (with_pair pairs) tracks) value ≡ client_pair tracks value
channels_under pairs tracks None = refl
channels_under pairs tracks (Some value) = wanted_under pairs tracks (wanted_of value)

abbrev said_with : Request1 → Option Pair → Said
said_with request channels = record {
  session = field request (codes "Session");
  channels = if is_setup request.method then channels else None;
  range = if is_play request.method || is_pause request.method then option_map (meaning One) (field request (codes "Range")) else None;
}

said_under : (pairs : ℕ → ℕ) (tracks : List Track) (request : Request1) → said_of (map (with_pair pairs) tracks) request ≡ said_of tracks request
said_under pairs tracks request = ap (said_with request) (channels_under pairs tracks (field request (codes "Transport")))

on_track_under : (pairs : ℕ → ℕ) (tracks : List Track) (uri : List ℕ) → is_track (map (with_pair pairs) tracks) uri ≡ is_track tracks uri
on_track_under pairs [] uri = refl
on_track_under pairs (track ∷ tracks) uri = ap (λ on. bytes_eq track.uri uri || on) (on_track_under pairs tracks uri)

count_under : (pairs : ℕ → ℕ) (tracks : List Track) → length (map (with_pair pairs) tracks) ≡ length tracks
count_under pairs [] = refl
count_under pairs (track ∷ tracks) = ap suc (count_under pairs tracks)

-- the rules, by whether the URI is that of a stream, and by the number of streams
abbrev rules_of : Judged → Method → Said → Bool → ℕ → List Rule
rules_of judged method said on streams =
    rule (names_no_session method judged.session said.session) 454
    ∷ rule (not (is_allowed judged.state method) || (is_setup method && ((not judged.has_room && not (is_named said)) || on))) 455
    ∷ rule (needs_session method && (on && nat_le 2 streams)) 460
    ∷ rule (has_no_channels method said) 461
    ∷ rule (has_bad_range method said.range) 457
    ∷ rule (finds_none_free judged method) 453
    ∷ rule ((is_setup method && nat_le MOST_TRACKS streams) || (must_wait judged method said && nat_le MOST_PLAYS judged.queued)) 503
    ∷ []

rules_under : (pairs : ℕ → ℕ) (judged : Judged) (method : Method) (said : Said) (uri : List ℕ) → rules_checked (judged_with_pairs pairs judged) method said uri ≡ rules_checked judged method said uri
rules_under pairs judged method said uri =
    ap (λ on. unless_code (first_code (rules_of judged method said on (length (map (with_pair pairs) judged.tracks)))) (admission method said)) (on_track_under pairs judged.tracks uri)
    ∙ ap (λ streams. unless_code (first_code (rules_of judged method said (is_track judged.tracks uri) streams)) (admission method said)) (count_under pairs judged.tracks)

play_on_under : (pairs : ℕ → ℕ) (judged : Judged) (request : Request1) (said : Said) (uri : List ℕ) (range : Option Range) → play_on (judged_with_pairs pairs judged) request said uri range ≡ play_on judged request said uri range
play_on_under pairs judged request said uri None = refl
play_on_under pairs judged request said uri (Some range) = refl

play_in_under : (pairs : ℕ → ℕ) (state : State) (judged : Judged) (request : Request1) (said : Said) (uri : List ℕ) (range : Option Range)
    → play_in state (judged_with_pairs pairs judged) request said uri range ≡ play_in state judged request said uri range
play_in_under pairs Init judged request said uri range = refl
play_in_under pairs Ready judged request said uri range = refl
play_in_under pairs Playing judged request said uri range = play_on_under pairs judged request said uri range

serve_under : (pairs : ℕ → ℕ) (judged : Judged) (request : Request1) (said : Said) (uri : List ℕ) (admitted : Admission) → serve (judged_with_pairs pairs judged) request said uri admitted ≡ serve judged request said uri admitted
serve_under pairs judged request said uri (SetUp pair) = refl
serve_under pairs judged request said uri (Played range) = play_in_under pairs judged.state judged request said uri range
serve_under pairs judged request said uri Other = refl

by_rules_under : (pairs : ℕ → ℕ) (judged : Judged) (request : Request1) (said : Said) (uri : List ℕ) (admitted : Result Admission ℕ)
    → by_rules (judged_with_pairs pairs judged) request said uri admitted ≡ by_rules judged request said uri admitted
by_rules_under pairs judged request said uri (Err code) = refl
by_rules_under pairs judged request said uri (Ok admitted) =
    ap (λ (served : Decision). cond (is_for_gateway request.method said) (Answer (options_text request.cseq)) served) (serve_under pairs judged request said uri admitted)

request_under : (pairs : ℕ → ℕ) (judged : Judged) (request : Request1) → decide_request (judged_with_pairs pairs judged) request ≡ decide_request judged request
request_under pairs judged request =
    ap (λ said. by_rules (judged_with_pairs pairs judged) request said (uri_up judged request.uri) (rules_checked (judged_with_pairs pairs judged) request.method said (uri_up judged request.uri))) (said_under pairs judged.all request)
    ∙ by_rules_under pairs judged request (said_of judged.all request) (uri_up judged request.uri) (rules_checked (judged_with_pairs pairs judged) request.method (said_of judged.all request) (uri_up judged request.uri))
    ∙ ap (by_rules judged request (said_of judged.all request) (uri_up judged request.uri)) (rules_under pairs judged request.method (said_of judged.all request) (uri_up judged request.uri))

read_under : (pairs : ℕ → ℕ) (judged : Judged) (read : Result Request1 Refusal) → decide_read (judged_with_pairs pairs judged) read ≡ decide_read judged read
read_under pairs judged (Ok request) = request_under pairs judged request
read_under pairs judged (Err refusal) = refl

pub decide_under : (pairs : ℕ → ℕ) (given : Given) (shape : Shape) → decide (with_pairs pairs given) shape ≡ decide given shape
decide_under pairs given shape =
    ap (λ judged. decide_read judged (request_of_item shape)) (judged_under pairs given (request_of_item shape))
    ∙ read_under pairs (judged_of given shape) (request_of_item shape)
