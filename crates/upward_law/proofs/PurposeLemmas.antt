-- A request that goes up says what it is for.
use Rattle.std.proofs.Common.{◌≡◌, ◌∙◌, ℕ, Bool, not, true, false, cond, find, List, [], ◌∷◌, map, Option, Some, None, Result, Ok, Err, refl, sym, ap, arith}
use Rattle.std.specs.Prelude.{codes, is_none, option_map}
use Rattle.std.specs.List.{list_all}
use Rattle.std.specs.Option.{option_or}
use Rattle.std.specs.Str.{bytes_eq}
use Rattle.gate_bytes.specs.Tokens.{equal_fold}
use Rattle.rtsp_head.specs.declared.header.Header.{Header}
use Rattle.rtsp_head.specs.Headers.{field_of}
use Rattle.rtsp_head.specs.Items.{Shape}
use Rattle.rtsp_head.specs.Optional.{said_where, Field, field_headers}
use Rattle.rtsp_head.proofs.FieldLemmas.{field_told, names_hold}
use Rattle.rtsp_small.specs.Methods.{method_name}
use Rattle.rtsp_small.specs.declared.method.Method.TheVariants as methods
use Rattle.rtsp_range.specs.declared.range.Range.{Range}
use Rattle.rtsp_transport.specs.declared.channels.Pair.{Pair}
use Rattle.rtsp_uri.specs.declared.base.Bases.{Bases}
use Rattle.head_one.specs.declared.refusal.Refusal.{Refusal}
use Rattle.head_one.specs.declared.request.Request1.{Request1}
use Rattle.head_one.specs.Requests.{request_of_item}
use Rattle.head_two.specs.declared.request.Request2.{Request2}
use Rattle.session_one.specs.declared.parts.Asked.{Asked}
use Rattle.session_one.specs.declared.table.State.{State}
use Rattle.session_one.specs.declared.table.State.TheVariants.{Init, Ready, Playing}
use Rattle.translate_up.specs.Answers.{options_text}
use Rattle.translate_up.specs.Decisions.{play_in, serve, is_for_gateway, by_rules, decide_read, judged_read, judged_of, decide}
use Rattle.translate_up.specs.Fields.{Said, said_of}
use Rattle.translate_up.specs.QueuedPlay.{play_fields_up, play_up}
use Rattle.translate_up.specs.Rules.{rules_checked}
use Rattle.translate_up.specs.Upward.{method_up, session_said, uri_up, fields_up, request_up, transport_header, headers_with_transport, is_other}
use Rattle.translate_up.specs.Views.{SeenSession, Given, Judged, session_or_none}
use Rattle.translate_up.specs.declared.decision.Decision.{Decision}
use Rattle.translate_up.specs.declared.decision.Decision.TheVariants.{Answer, Forward, Queue, Setup}
use Rattle.translate_up.proofs.DecisionLemmas.{SpeaksAs}
use Rattle.client_slot.specs.declared.purpose.Purpose.{Purpose}
use Rattle.client_slot.specs.Client.{Client}
use Rattle.client_slot.specs.ClosingRequest.{closing_request}
use Rattle.client_slot.specs.Places.{session_at, session_where}
use Rattle.client_slot.specs.Session.{PlayerSession}
use Rattle.client_slot.specs.SessionChanges.{when_next}
use Rattle.client_machine.specs.Events.{Outgoing, asks, carries, PrivateEvent}
use Rattle.client_machine.specs.Treatment.{session_found, given, queued_more_where, fits_memory, decision_on, Going, Treated, treated_first, treated}
use Rattle.client_machine.specs.Step.{after_plays, goes_at, NextPart, rests, releases, goes_on, hear, going_on, step}
use Rattle.client_machine.specs.UpTexts.{channels, over_pair}
use Rattle.client_machine.proofs.AskLemmas.{decision_speaks}
use Rattle.client_machine.proofs.BelowLemmas.{IsMute, hear_mute}
use Rattle.client_machine.proofs.HoldLemmas.{AreSame, same_at, changed_same, plays_steady}
use Rattle.client_machine.proofs.PlaceLemmas.{calm_in, seen_at}
use Rattle.client_machine.proofs.WayLemmas.{going_as}
use Rattle.gateway_claim.proofs.CaseLemmas.{pair_where}
use Rattle.gateway_claim.proofs.TurnLemmas.{same_where}
use Rattle.upward_law.specs.OpenRequest.{IsAskOf, IsRequestFor}
use Rattle.upward_law.proofs.NameLemmas.{AreBare, fields_differ, field_names_differ}

-- What goes up has the URI that is kept of it, names its session, and has no channels yet; and each of its headers stands once.
abbrev IsAskAt : Option (List ℕ) → Request2 → Asked → Type 0
IsAskAt id request asked = (request.uri ≡ asked.uri) × (field_of request.headers (codes "Session") ≡ said_where asked.named id) × AreBare request.headers

abbrev AsksAs : Judged → Decision → Type 0
AsksAs judged (Answer text) = Unit {0}
AsksAs judged (Queue play text) = Unit {0}
AsksAs judged (Forward request asked) = (asked.place ≡ judged.place) × IsAskAt judged.session request asked
AsksAs judged (Setup request asked channels) = (asked.place ≡ judged.place) × IsAskAt judged.session request asked

up_session : (judged : Judged) (request : Request1) (said : Said) (uri : List ℕ) (range : Option Range) → field_of (request_up judged request said uri range).headers (codes "Session") ≡ session_said judged said
up_session judged request said uri range = field_told (codes "Session") (fields_up judged request said range) ∙ first (session_said judged said)
  where
    first : (value : Option (List ℕ)) → option_or value None ≡ value
    first None = refl
    first (Some id) = refl

fields_bare : (fields : List Field) → list_all (λ field. not (equal_fold field.name (codes "Transport"))) fields ≡ true → fields_differ fields ≡ true → AreBare (field_headers fields)
fields_bare fields other differ = (names_hold is_other (λ name. not (equal_fold name (codes "Transport"))) (λ header other. other) fields other, field_names_differ fields differ)

up_bare : (judged : Judged) (request : Request1) (said : Said) (uri : List ℕ) (range : Option Range) → AreBare (request_up judged request said uri range).headers
up_bare judged request said uri range = fields_bare (fields_up judged request said range) refl refl

play_asks : (state : State) (judged : Judged) (request : Request1) (said : Said) (uri : List ℕ) (range : Option Range) → AsksAs judged (play_in state judged request said uri range)
play_asks Init judged request said uri range = (refl, (refl, up_session judged request said uri range, up_bare judged request said uri range))
play_asks Ready judged request said uri range = (refl, (refl, up_session judged request said uri range, up_bare judged request said uri range))
play_asks Playing judged request said uri None = tt
play_asks Playing judged request said uri (Some range) = tt

serve_asks : (judged : Judged) (request : Request1) (said : Said) (uri : List ℕ) (admitted : _) → AsksAs judged (serve judged request said uri admitted)
serve_asks judged request said uri admitted = grind (arith, up_session, up_bare, play_asks)

either_asks : (own : Bool) (judged : Judged) (text : List ℕ) (served : Decision) → AsksAs judged served → AsksAs judged (cond own (Answer text) served)
either_asks true judged text served is = tt
either_asks false judged text served is = is

rules_ask : (judged : Judged) (request : Request1) (said : Said) (uri : List ℕ) (checked : _) → AsksAs judged (by_rules judged request said uri checked)
rules_ask judged request said uri (Err code) = tt
rules_ask judged request said uri (Ok admitted) =
    either_asks (is_for_gateway request.method said) judged (options_text request.cseq) (serve judged request said uri admitted) (serve_asks judged request said uri admitted)

read_asks : (judged : Judged) (read : Result Request1 Refusal) → AsksAs judged (decide_read judged read)
read_asks judged (Ok request) = rules_ask judged request (said_of judged.all request) (uri_up judged request.uri) (rules_checked judged request.method (said_of judged.all request) (uri_up judged request.uri))
read_asks judged (Err refusal) = tt

decision_asks : (given : Given) (shape : Shape) → AsksAs (judged_of given shape) (decision_on given shape)
decision_asks given shape = by (fits_memory shape)
  where
    by : (fits : Bool) → AsksAs (judged_of given shape) (cond fits (decide given shape) (Answer []))
    by true = read_asks (judged_of given shape) (request_of_item shape)
    by false = tt

-- By the sessions as requests see them.
abbrev IsAskIn : List SeenSession → Request2 → Asked → Type 0
IsAskIn sessions request asked = (request.method ≡ method_name (method_up asked.method)) × IsAskAt (session_or_none asked.place sessions).id request asked

-- a SETUP alone has channels
abbrev IsSetupWith : Option Pair → Request2 → Type 0
IsSetupWith None request = Unit {0}
IsSetupWith (Some channels) request = request.method ≡ method_name methods.Setup

abbrev GoesIn : List SeenSession → Option Going → Type 0
GoesIn sessions None = Unit {0}
GoesIn sessions (Some one) = IsAskIn sessions one.request one.asked × IsSetupWith one.channels one.request

judged_session : (given : Given) (read : Result Request1 Refusal) → (judged_read given read).session ≡ (session_or_none (judged_read given read).place given.sessions).id
judged_session given read = grind arith

ask_in : (given : Given) (shape : Shape) (request : Request2) (asked : Asked) → request.method ≡ method_name (method_up asked.method) → asked.place ≡ (judged_of given shape).place → IsAskAt (judged_of given shape).session request asked
    → IsAskIn given.sessions request asked
ask_in given shape request asked method place is =
    (method, (is.0, is.1 ∙ ap (λ (id : Option (List ℕ)). said_where asked.named id) (judged_session given (request_of_item shape) ∙ ap (λ (at : Option ℕ). (session_or_none at given.sessions).id) (sym place)), is.2))

queued_in : (queued : Option ℕ) (sessions : List SeenSession) (one : Option Going) → GoesIn (queued_more_where queued sessions) one → GoesIn sessions one
queued_in queued sessions None is = tt
queued_in queued sessions (Some one) is =
    ((is.0.0, (is.0.1.0, is.0.1.1 ∙ ap (λ (id : Option (List ℕ)). said_where one.asked.named id) (calm_in (λ seen. seen.id) queued one.asked.place sessions (λ seen n. refl)), is.0.1.2)), is.1)

first_in : (decision : Decision) (given : Given) (shape : Shape) (more : List Shape) (again : Given → Treated) → AsksAs (judged_of given shape) decision → SpeaksAs (judged_of given shape) decision → ((one : Given) → GoesIn one.sessions (again one).going)
    → GoesIn given.sessions (treated_first decision given more again).going
first_in (Answer text) given shape more again is speaks later = later given
first_in (Queue play text) given shape more again is speaks later = queued_in play.place given.sessions (again _).going (later (record given { sessions = queued_more_where play.place given.sessions }))
first_in (Forward request asked) given shape more again is speaks later = (ask_in given shape request asked speaks.0 is.0 is.1, tt)
first_in (Setup request asked pair) given shape more again is speaks later =
    (ask_in given shape request asked (speaks.0 ∙ ap (λ method. method_name (method_up method)) (sym speaks.1)) is.0 is.1, speaks.0)

treated_in : (shapes : List Shape) (given : Given) → GoesIn given.sessions (treated shapes given).going
treated_in [] given = tt
treated_in (shape ∷ more) given = first_in (decision_on given shape) given shape more (treated more) (decision_asks given shape) (decision_speaks given shape) (treated_in more)

-- The channels that are put in leave the session.
session_kept : (pair : Pair) (headers : List Header) → field_of (headers_with_transport pair headers) (codes "Session") ≡ field_of headers (codes "Session")
session_kept pair [] = refl
session_kept pair (header ∷ headers) = by (bytes_eq header.name (codes "Accept-Ranges")) (session_kept pair headers)
  where
    later : (here : Bool) → field_of (headers_with_transport pair headers) (codes "Session") ≡ field_of headers (codes "Session")
        → option_map (λ (one : Header). one.value) (cond here (Some header) (find (λ (one : Header). equal_fold one.name (codes "Session")) (headers_with_transport pair headers)))
        ≡ option_map (λ (one : Header). one.value) (cond here (Some header) (find (λ (one : Header). equal_fold one.name (codes "Session")) headers))
    later true rest = refl
    later false rest = rest

    by : (due : Bool) → field_of (headers_with_transport pair headers) (codes "Session") ≡ field_of headers (codes "Session")
        → field_of (cond due (transport_header pair ∷ header ∷ headers) (header ∷ headers_with_transport pair headers)) (codes "Session") ≡ field_of (header ∷ headers) (codes "Session")
    by true rest = refl
    by false rest = later (equal_fold header.name (codes "Session")) rest

-- What goes up, and what is open then, where its pair is the one that is free.
abbrev IsFor : Option ℕ → ℕ → (ℕ → ℕ) → List PlayerSession → Request2 → Option ℕ → Option Purpose → Type 0
IsFor free own pairs sessions request named None = ⊥
IsFor free own pairs sessions request named (Some purpose) =
    AreBare request.headers
    × (((p : ℕ) → free ≡ Some p → (over_pair named free request).method ≡ method_name methods.Setup → pairs own ≡ p) → IsRequestFor pairs sessions purpose (over_pair named free request))

abbrev pub MeantBy : Option ℕ → ℕ → (ℕ → ℕ) → List PlayerSession → Option Outgoing → Option Purpose → Type 0
MeantBy free own pairs sessions None new = Unit {0}
MeantBy free own pairs sessions (Some (asks request named)) new = IsFor free own pairs sessions request named new
MeantBy free own pairs sessions (Some (carries pair half rest)) new = Unit {0}

pub unpaired : (free : Option ℕ) (request : Request2) → over_pair None free request ≡ request
unpaired None request = refl
unpaired (Some p) request = refl

seen_in : (place : Option ℕ) (sessions : List PlayerSession) → (session_or_none place (map session_found sessions)).id ≡ (session_where place sessions).id
seen_in None sessions = refl
seen_in (Some place) sessions = ap (λ (one : SeenSession). one.id) (seen_at place sessions)

ask_of : (before sessions : List PlayerSession) (request : Request2) (asked : Asked) → AreSame before sessions → IsAskIn (map session_found before) request asked → IsAskOf sessions asked request
ask_of before sessions request asked same is =
    record { method = is.0; uri = is.1.0; session = is.1.1 ∙ ap (λ (id : Option (List ℕ)). said_where asked.named id) (seen_in asked.place before ∙ sym (same_where asked.place before sessions same)) }

goes_for : (free : Option ℕ) (own : ℕ) (pairs : ℕ → ℕ) (one : Option Going) (text : List ℕ) (before client : Client) → GoesIn (map session_found before.sessions) one → AreSame before.sessions client.sessions
    → MeantBy free own pairs (goes_at one (pair_where free own) text client).client.sessions (goes_at one (pair_where free own) text client).message (goes_at one (pair_where free own) text client).client.pending
goes_for free own pairs None text before client is same = tt
goes_for free own pairs (Some one) text before client is same = by free one.channels is.1
  where
    ask : IsAskOf client.sessions one.asked one.request
    ask = ask_of before.sessions client.sessions one.request one.asked same is.0

    by : (free : Option ℕ) (channels : Option Pair) → IsSetupWith channels one.request → MeantBy free own pairs client.sessions (goes_at (Some (record one { channels = channels })) (pair_where free own) text client).message (goes_at (Some (record one { channels = channels })) (pair_where free own) text client).client.pending
    by None None setup = (is.0.1.2, λ right. (ask, tt))
    by (Some p) None setup = (is.0.1.2, λ right. (ask, tt))
    by None (Some pair) setup = (is.0.1.2, λ right. (ask, tt))
    by (Some p) (Some pair) setup = (
      is.0.1.2,
      λ right. (
        record { method = ask.method; uri = ask.uri; session = session_kept (channels p) one.request.headers ∙ ask.session },
        (one.request, ap (λ (n : ℕ). over_pair (Some own) (Some n) one.request) (sym (right p refl setup))),
      ),
    )

going_for : (bases : Bases) (free : Option ℕ) (own : ℕ) (pairs : ℕ → ℕ) (next : NextPart) (client : Client)
    → MeantBy free own pairs (going_on bases (pair_where free own) next client).client.sessions (going_on bases (pair_where free own) next client).message (going_on bases (pair_where free own) next client).client.pending
going_for bases free own pairs next client = going_as (λ effect. MeantBy free own pairs effect.client.sessions effect.message effect.client.pending) bases (pair_where free own) next client (record {
  still = tt;
  released = λ place play idle due is. (
    fields_bare (play_fields_up (session_at place client.sessions).id play) refl refl,
    λ right. unpaired free (play_up (session_at place client.sessions).id play)
        ∙ ap (λ (id : Option (List ℕ)). play_up id play) (sym (same_at place client.sessions _ (changed_same place when_next client.sessions (λ session. record { id = refl; tracks = refl }))).id),
  );
  treats = λ idle alive.
      let done = treated client.waiting (given bases (is_none (pair_where free own)) client) in
      let left : Client = record client { waiting = done.left } in
      goes_for free own pairs done.going done.hand client (after_plays done.plays left) (treated_in client.waiting (given bases (is_none (pair_where free own)) client)) (plays_steady done.plays left).sessions;
  left = λ place id idle dead filled is. (
    (refl, refl),
    λ right. ap (option_map (closing_request (session_at place client.sessions).control)) is
        ∙ ap (λ (one : Request2). Some one) (sym (unpaired free (closing_request (session_at place client.sessions).control id))),
  );
})

first_for : (free : Option ℕ) (own : ℕ) (pairs : ℕ → ℕ) (sessions : List PlayerSession) (next : NextPart) (first second : Option Outgoing) (new : Option Purpose) → IsMute next first → MeantBy free own pairs sessions second new → MeantBy free own pairs sessions (option_or first second) new
first_for free own pairs sessions next None second new mute is = is
first_for free own pairs sessions rests (Some (asks request named)) second new mute is = absurd mute
first_for free own pairs sessions releases (Some (asks request named)) second new mute is = absurd mute
first_for free own pairs sessions goes_on (Some (asks request named)) second new mute is = absurd mute
first_for free own pairs sessions next (Some (carries pair half rest)) second new mute is = tt

pub step_for : (bases : Bases) (number : ℕ) (free : Option ℕ) (own : ℕ) (pairs : ℕ → ℕ) (client : Client) (event : PrivateEvent)
    → MeantBy free own pairs (step bases number (pair_where free own) client event).client.sessions (step bases number (pair_where free own) client event).message (step bases number (pair_where free own) client event).client.pending
step_for bases number free own pairs client event =
    let heard = hear bases number client event in
    first_for free own pairs _ heard.next heard.effect.message _ _ (hear_mute bases number client event) (going_for bases free own pairs heard.next heard.effect.client)
