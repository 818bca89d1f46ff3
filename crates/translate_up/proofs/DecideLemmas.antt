-- What a decision sends up can be written and read back.
use Rattle.std.proofs.Common.{◌≡◌, ℕ, ◌<◌, ◌^◌, Bool, true, false, ◌||◌, not, IfSome, cond, List, length, Option, None, Some, Result, Ok, Err, refl, arith}
use Rattle.std.specs.Prelude.{codes, IfOk, IsTrue, option_map}
use Rattle.std.specs.Option.{ok_or}
use Rattle.rtsp_head.specs.Items.{Shape}
use Rattle.rtsp_range.specs.declared.range.Range.{Range}
use Rattle.rtsp_range.specs.declared.fault.RangeFault.{RangeFault}
use Rattle.rtsp_range.specs.Meaning.{One, meaning}
use Rattle.rtsp_range.proofs.MeaningSound.{meaning_sound}
use Rattle.rtsp_transport.specs.declared.channels.Pair.{Pair}
use Rattle.rtsp_transport.specs.declared.alternative.Wanted.{Wanted}
use Rattle.rtsp_transport.specs.declared.alternative.Wanted.TheVariants.{Any, Exact}
use Rattle.rtsp_transport.specs.declared.fault.TransportFault.{TransportFault}
use Rattle.rtsp_transport.specs.declared.fault.TransportFault.TheVariants.{Grammar, NoneFits}
use Rattle.rtsp_transport.specs.Channels.{AreApart}
use Rattle.rtsp_transport.specs.Splits.{unquoted_parts, is_readable}
use Rattle.rtsp_transport.specs.Wants.{NamesApart, first_fit, wanted_of}
use Rattle.rtsp_transport.proofs.ApartLemmas.{pick_apart}
use Rattle.head_one.specs.declared.request.Request1.{Request1}
use Rattle.head_one.specs.declared.refusal.Refusal.{Refusal}
use Rattle.head_one.specs.Refusals.{first_code}
use Rattle.head_one.specs.Requests.{request_of_item}
use Rattle.session_one.specs.declared.table.State.{State}
use Rattle.session_one.specs.declared.table.State.TheVariants.{Init, Ready, Playing}
use Rattle.rtsp_small.specs.declared.method.Method.{Method}
use Rattle.rtsp_small.specs.declared.method.Method.TheVariants.{Options, Describe, Setup, Play, Pause, Teardown, GetParameter, SetParameter}
use Rattle.rtsp_range.specs.Writable.{can_be_written}
use Rattle.session_one.specs.declared.parts.Track.{Track}
use Rattle.translate_up.specs.declared.decision.Decision.{Decision}
use Rattle.translate_up.specs.declared.decision.Decision.TheVariants.{Answer}
use Rattle.translate_up.specs.declared.rule.Admission.{Admission}
use Rattle.translate_up.specs.declared.rule.Admission.TheVariants.{SetUp, Played, Other}
use Rattle.translate_up.specs.Views.{Given, Judged}
use Rattle.translate_up.specs.Fields.{field, Said, said_of, is_setup, is_play, is_pause}
use Rattle.translate_up.specs.Channels.{is_taken, free_pair, pair_for, client_pair}
use Rattle.translate_up.specs.Rules.{session_rules, with_channels, with_range, admission, unless_code, rules_checked}
use Rattle.translate_up.specs.Upward.{uri_up}
use Rattle.translate_up.specs.Answers.{options_text}
use Rattle.translate_up.specs.Decisions.{play_on, play_in, serve, is_for_gateway, by_rules, decide_request, decide_read, judged_of, decide}
use Rattle.translate_up.proofs.JudgementLemmas.{judged_fit}
use Rattle.translate_up.specs.Sound.{is_target, AreFit, IsFit, SendsSound}
use Rattle.translate_up.proofs.ReadLemmas.{Read, request_read}
use Rattle.translate_up.proofs.SoundLemmas.{IsWritable, up_sound, setup_sound, scale_value}
use Rattle.translate_up.proofs.TargetLemmas.{uri_target}

-- the pair of a player has two channels
abbrev pub ArePairApart : Option Pair → Type 0
ArePairApart None = Unit {0}
ArePairApart (Some pair) = AreApart pair

free_apart : (tracks : List Track) → AreApart (free_pair tracks)
unfolding free_pair
free_apart tracks e = omega (arith, e)

exact_apart : (taken : Bool) (pair : Pair) → AreApart pair → ArePairApart (cond taken None (Some pair))
exact_apart true pair h = tt
exact_apart false pair h = h

for_apart : (tracks : List Track) (wanted : Result Wanted TransportFault) → IfOk wanted NamesApart → ArePairApart (pair_for tracks wanted)
for_apart tracks (Ok Any) h = free_apart tracks
for_apart tracks (Ok (Exact pair)) h = exact_apart (is_taken tracks pair) pair h
for_apart tracks (Err fault) h = tt

wanted_apart : (value : List ℕ) (readable : Bool) → IfOk (cond (not readable) (Err Grammar) (ok_or (first_fit (unquoted_parts 44 value)) NoneFits)) NamesApart
wanted_apart value true = pick_apart value (first_fit (unquoted_parts 44 value)) (ok_or (first_fit (unquoted_parts 44 value)) NoneFits) refl refl
wanted_apart value false = tt

client_apart : (tracks : List Track) (value : Option (List ℕ)) → ArePairApart (client_pair tracks value)
client_apart tracks None = tt
client_apart tracks (Some value) = for_apart tracks (wanted_of value) (wanted_apart value (is_readable value))

-- What is let through can be sent: its channels differ, and its range can be written.
abbrev pub IsSoundAdmission : Admission → Type 0
IsSoundAdmission (SetUp pair) = AreApart pair
IsSoundAdmission (Played range) = IsWritable range
IsSoundAdmission Other = Unit {0}

-- so for what is said
pub record IsSoundSaid (said : Said) : Type 0 where
  pub channels : ArePairApart said.channels
  pub range : IfSome said.range (λ read. IfOk read (λ range. IsTrue (can_be_written range)))

setup_channels : (sets : Bool) (tracks : List Track) (value : Option (List ℕ)) → ArePairApart (cond sets (client_pair tracks value) None)
setup_channels true tracks value = client_apart tracks value
setup_channels false tracks value = tt

read_writable : (value : List ℕ) (read : Result Range RangeFault) → meaning One value ≡ read → IfOk read (λ range. IsTrue (can_be_written range))
read_writable value (Ok range) e = meaning_sound One value range e
read_writable value (Err fault) e = tt

field_writable : (value : Option (List ℕ)) → IfSome (option_map (meaning One) value) (λ read. IfOk read (λ range. IsTrue (can_be_written range)))
field_writable None = tt
field_writable (Some value) = read_writable value (meaning One value) refl

range_writable : (plays : Bool) (value : Option (List ℕ)) → IfSome (cond plays (option_map (meaning One) value) None) (λ read. IfOk read (λ range. IsTrue (can_be_written range)))
range_writable true value = field_writable value
range_writable false value = tt

pub said_sound : (tracks : List Track) (request : Request1) → IsSoundSaid (said_of tracks request)
said_sound tracks request = record {
  channels = setup_channels (is_setup request.method) tracks (field request (codes "Transport"));
  range = range_writable (is_play request.method || is_pause request.method) (field request (codes "Range"));
}

-- an admission is sound, where there is one
abbrev pub AdmitsSound : Result Admission ℕ → Type 0
AdmitsSound admitted = IfOk admitted IsSoundAdmission

channels_admitted : (channels : Option Pair) → ArePairApart channels → AdmitsSound (with_channels channels)
channels_admitted None apart = tt
channels_admitted (Some pair) apart = apart

range_admitted : (range : Option (Result Range RangeFault)) → IfSome range (λ read. IfOk read (λ one. IsTrue (can_be_written one))) → AdmitsSound (with_range range)
range_admitted None can = tt
range_admitted (Some (Ok range)) can = can
range_admitted (Some (Err fault)) can = tt

pub admission_sound : (method : Method) (said : Said) → IsSoundSaid said → AdmitsSound (admission method said)
admission_sound Options said sound = tt
admission_sound Describe said sound = tt
admission_sound Setup said sound = channels_admitted said.channels sound.channels
admission_sound Play said sound = range_admitted said.range sound.range
admission_sound Pause said sound = tt
admission_sound Teardown said sound = tt
admission_sound GetParameter said sound = tt
admission_sound SetParameter said sound = tt

pub unless_sound : (code : Option ℕ) (admitted : Result Admission ℕ) → AdmitsSound admitted → AdmitsSound (unless_code code admitted)
unless_sound None admitted sound = sound
unless_sound (Some code) admitted sound = tt

either : (first : Bool) (one other : Decision) → SendsSound one → SendsSound other → SendsSound (cond first one other)
either true one other a b = a
either false one other a b = b

play_on_sound : (judged : Judged) (request : Request1) (said : Said) (uri : List ℕ) (range : Option Range) → Read request → is_target uri ≡ true → IsWritable range →
    SendsSound (play_on judged request said uri range)
play_on_sound judged request said uri None read target can = tt
play_on_sound judged request said uri (Some range) read target can = record { uri = target; range = can; scale = scale_value request read }

play_sound : (state : State) (judged : Judged) (request : Request1) (said : Said) (uri : List ℕ) (range : Option Range) → IsFit judged → Read request → is_target uri ≡ true → IsWritable range →
    SendsSound (play_in state judged request said uri range)
play_sound Init judged request said uri range fit read target can = (up_sound judged request said uri range fit read target can, target)
play_sound Ready judged request said uri range fit read target can = (up_sound judged request said uri range fit read target can, target)
play_sound Playing judged request said uri range fit read target can = play_on_sound judged request said uri range read target can

serve_sound : (judged : Judged) (request : Request1) (said : Said) (uri : List ℕ) (admitted : Admission) → IsFit judged → Read request → is_target uri ≡ true → IsSoundAdmission admitted →
    SendsSound (serve judged request said uri admitted)
serve_sound judged request said uri (SetUp pair) fit read target sound = (setup_sound judged request said uri fit read target, target, sound)
serve_sound judged request said uri (Played range) fit read target sound = play_sound judged.state judged request said uri range fit read target sound
serve_sound judged request said uri Other fit read target sound = (up_sound judged request said uri None fit read target tt, target)

rules_sound : (judged : Judged) (request : Request1) (said : Said) (uri : List ℕ) (admitted : Result Admission ℕ) → IsFit judged → Read request → is_target uri ≡ true → AdmitsSound admitted →
    SendsSound (by_rules judged request said uri admitted)
rules_sound judged request said uri (Err code) fit read target sound = tt
rules_sound judged request said uri (Ok admitted) fit read target sound =
    either (is_for_gateway request.method said) (Answer (options_text request.cseq)) (serve judged request said uri admitted) tt
    (serve_sound judged request said uri admitted fit read target sound)

request_sound : (judged : Judged) (request : Request1) → IsFit judged → Read request → SendsSound (decide_request judged request)
request_sound judged request fit read =
    let said = said_of judged.all request in
    let uri = uri_up judged request.uri in
    rules_sound judged request said uri (rules_checked judged request.method said uri) fit read (uri_target judged request.uri fit read.uri)
    (unless_sound (first_code (session_rules judged request.method said uri)) (admission request.method said) (admission_sound request.method said (said_sound judged.all request)))

read_sound : (judged : Judged) (found : Result Request1 Refusal) → IsFit judged → ((request : Request1) → found ≡ Ok request → Read request) → SendsSound (decide_read judged found)
read_sound judged (Ok request) fit known = request_sound judged request fit (known request refl)
read_sound judged (Err refusal) fit known = tt

-- What a decision sends up can be written and read back.
pub decide_sound : (given : Given) (shape : Shape) → AreFit given → length shape.bytes < 2 ^ 64 → SendsSound (decide given shape)
decide_sound given shape fit short = read_sound (judged_of given shape) (request_of_item shape) (judged_fit given (request_of_item shape) fit) (λ request e. request_read shape request short e)
