-- What goes up for a connection: its kind by its text, the session or the empty place that it names, and the books once it
-- went up.
use Rattle.std.proofs.Common.{false, true, cond, ◌≡◌, ◌∙◌, ℕ, ◌+◌, Bool, List, Option, Some, None, arith, ◌<◌, ◌^◌, ◌&&◌, [], ◌∷◌, map, IfSome, IsSome, Result, refl, sym, ap, subst, unwrap_or, not}
use Rattle.rtsp_small.specs.declared.method.Method.TheVariants as methods
use Rattle.head_two.specs.declared.request.Request2.{Request2}
use Rattle.head_two.specs.Requests.{request_text, Numbered, IsRequest}
use Rattle.session_one.specs.Table.{same_method}
use Rattle.client_slot.specs.declared.purpose.Purpose.{Purpose}
use Rattle.client_slot.specs.declared.purpose.Purpose.TheVariants as purposes
use Rattle.client_slot.specs.Session.{PlayerSession}
use Rattle.client_slot.specs.Places.{session_at, session_where}
use Rattle.client_machine.specs.OpenRequests.{IsAskedAs, IsOpenAs, IsAsked, AsksBy}
use Rattle.client_machine.specs.UpTexts.{over_pair}
use Rattle.client_machine.proofs.HoldLemmas.{Suits, AreSame, same_at, same_first, plays_steady, IsSteady, going_steady, IsHeldStill, SuitsOpen, SuitsBy, going_suits}
use Rattle.gateway_claim.specs.Books.{id_in_text, kind_of_text, Books, RequestKind, kind_of, pair_asked, lends, free_in}
use Rattle.gateway_claim.specs.BooksAndSlots.{IsForSession, IsOpenFor, IsJoined}
use Rattle.gateway_claim.proofs.LendLemmas.{IsLentFor, IsFree, lent_free, own_lent}
use Rattle.std.specs.Prelude.{is_none, is_some, codes}
use Rattle.std.specs.Option.{option_and_then, option_map}
use Rattle.rtsp_head.specs.Headers.{field_of}
use Rattle.rtsp_head.specs.HeadParts.{Request}
use Rattle.rtsp_head.specs.Items.{Shape}
use Rattle.rtsp_head.proofs.MessageLemmas.{message_sound}
use Rattle.rtsp_small.specs.Sessions.{is_session_id}
use Rattle.rtsp_small.specs.declared.cseq.TheConstants.{CSEQ_TWO_DIGITS}
use Rattle.rtsp_transport.specs.declared.channels.Pair.{Pair}
use Rattle.rtsp_uri.specs.declared.base.Bases.{Bases}
use Rattle.head_one.specs.declared.request.Request1.{Request1}
use Rattle.head_one.specs.declared.refusal.Refusal.{Refusal}
use Rattle.head_two.specs.Messages.{version_two}
use Rattle.head_two.proofs.ReadLemmas.{request_read}
use Rattle.session_one.specs.declared.parts.Asked.{Asked}
use Rattle.translate_up.specs.Views.{SeenSession, Given, session_or_none, has_empty}
use Rattle.translate_up.specs.DecisionPlaces.{IsDecidedIn}
use Rattle.translate_up.specs.Sound.{is_target, IsSound, AreFit, SendsSound}
use Rattle.translate_up.specs.Decisions.{judged_read, judged_of}
use Rattle.translate_up.specs.declared.decision.Decision.{Decision}
use Rattle.translate_up.specs.declared.decision.Decision.TheVariants.{Forward, Setup}
use Rattle.translate_up.proofs.DecisionLemmas.{SpeaksAs, decide_speaks}
use Rattle.translate_up.proofs.SessionPlaceLemmas.{decided_in}
use Rattle.translate_up.proofs.SessionNameLemmas.{IsNaming, decide_names}
use Rattle.translate_up.proofs.SoundLemmas.{start_sound, session_value}
use Rattle.client_slot.specs.Teardown.{teardown_request}
use Rattle.client_slot.specs.ClosingRequest.{closing_request}
use Rattle.client_slot.specs.Client.{Client}
use Rattle.client_machine.specs.Events.{Outgoing, asks, carries}
use Rattle.client_machine.specs.Treatment.{session_found, given, queued_more_where, decision_on, Going, Treated, treated_first, treated}
use Rattle.client_machine.specs.Step.{track_of, after_plays, goes_at, NextPart, going_on}
use Rattle.client_machine.proofs.PlaceLemmas.{calm_in, seen_at, calm_has, empty_seen}
use Rattle.client_machine.proofs.WayLemmas.{going_as}
use Rattle.gateway_claim.proofs.FitLemmas.{IsFitOne, fit_at, IsFitClient, given_fit, queued_fit, decision_sound}
use Rattle.channel_map.proofs.PairLemmas.{lowest_free_is_free}
use Rattle.client_machine.specs.Alone.{asked_in}
use Rattle.client_machine.specs.Bounds.{AreSessionsBelow}
use Rattle.client_machine.proofs.AskLemmas.{going_asks}
use Rattle.gateway_claim.specs.Follows.{message_up}
use Rattle.gateway_claim.proofs.CaseLemmas.{pair_where}
use Rattle.gateway_claim.proofs.SettleLemmas.{AreAlike, alike_joined}

-- the pair that is free is held by nobody
abbrev pub IsFreePair : Books → Option ℕ → Type 0
IsFreePair books None = Unit {0}
IsFreePair books (Some p) = books.held p ≡ None

-- by whether a pair is named: where one is, it is the next own number and one is free
abbrev pub IsNamedBy : ℕ → Option ℕ → Option ℕ → Type 0
IsNamedBy next free None = Unit {0}
IsNamedBy next free (Some own) = (p : ℕ) × (free ≡ Some p) × (own ≡ next)

-- A TEARDOWN's text names the session that it is for, and a SETUP has its place.
abbrev pub IsToldFor : List PlayerSession → ℕ → Request2 → Purpose → Type 0
IsToldFor sessions number request (purposes.Client asked (Some track)) = IsForSession asked.place sessions
IsToldFor sessions number request (purposes.Client asked None) = same_method asked.method methods.Teardown ≡ true → id_in_text (request_text number request) ≡ (session_where asked.place sessions).id
IsToldFor sessions number request (purposes.Released play) = Unit {0}
IsToldFor sessions number request (purposes.Closing place) = id_in_text (request_text number request) ≡ (session_at place sessions).id

-- What goes up is lent for its purpose.
kind_lent : (books : Books) (count number : ℕ) (request : Request2) (own free : Option ℕ) (shut : Bool) (sessions : List PlayerSession) (purpose : Purpose) → IsAskedAs purpose request own → IsNamedBy (count + 1) free own → IsFreePair books free
    → Suits (cond shut false true) purpose → IsToldFor sessions number request purpose → IsLentFor books count (kind_of_text (request_text number (over_pair own free request)) free shut) sessions purpose
kind_lent books count number request own free shut sessions purpose is named is_free suits told = grind arith

-- What goes up, and what is open then.
abbrev pub TellsOpen : List PlayerSession → ℕ → Request2 → Option Purpose → Type 0
TellsOpen sessions number request None = Unit {0}
TellsOpen sessions number request (Some purpose) = IsToldFor sessions number request purpose

abbrev pub TellsBy : List PlayerSession → ℕ → Option Outgoing → Option Purpose → Type 0
TellsBy sessions number (Some (asks request named)) new = TellsOpen sessions number request new
TellsBy sessions number message new = Unit {0}

-- What was written is read back.
text_names : (number : ℕ) (request : Request2) → IsRequest number request → id_in_text (request_text number request) ≡ field_of request.headers (codes "Session")
text_names number request is = ap (option_and_then (λ (one : Numbered). field_of one.request.headers (codes "Session"))) (request_read number request is)

teardown_sound : (uri id : List ℕ) → is_target uri ≡ true → is_session_id id ≡ true → IsSound (teardown_request uri id)
teardown_sound uri id target valid number short = record {
  short = short;
  no_frame = refl;
  held = omega arith;
  writable = message_sound (Request (codes "TEARDOWN") uri version_two) (Some number) (teardown_request uri id).headers [] (start_sound methods.Teardown uri target) (omega arith) (omega arith) (omega arith)
      (ap (λ t. t && true) (session_value (Some id) valid));
  own = refl;
}

closing_names : (number : ℕ) (control : Option (List ℕ)) (id : List ℕ) → number < 10 ^ CSEQ_TWO_DIGITS → IfSome control (λ uri. is_target uri ≡ true) → is_session_id id ≡ true → id_in_text (request_text number (closing_request control id)) ≡ Some id
closing_names number control id short fit valid = text_names number (closing_request control id) (teardown_sound (unwrap_or control (codes "*")) id (grind arith) valid number short)

-- The first request that goes up, by the sessions as requests see them.
abbrev IsNamedIn : List SeenSession → Request2 → Option ℕ → Option Pair → Type 0
IsNamedIn sessions request place None = IsSound request × (field_of request.headers (codes "Session") ≡ (session_or_none place sessions).id)
IsNamedIn sessions request None (Some channels) = has_empty sessions ≡ true
IsNamedIn sessions request (Some place) (Some channels) = is_some (session_or_none (Some place) sessions).id ≡ true

-- a SETUP alone has channels
abbrev IsSetupWith : Asked → Option Pair → Type 0
IsSetupWith asked None = Unit {0}
IsSetupWith asked (Some channels) = asked.method ≡ methods.Setup

abbrev IsNamedGoing : List SeenSession → Option Going → Type 0
IsNamedGoing sessions None = Unit {0}
IsNamedGoing sessions (Some one) = IsNamedIn sessions one.request one.asked.place one.channels × IsSetupWith one.asked one.channels

queued_named : (queued place : Option ℕ) (sessions : List SeenSession) (request : Request2) (channels : Option Pair) → IsNamedIn (queued_more_where queued sessions) request place channels → IsNamedIn sessions request place channels
queued_named queued place sessions request None named = (named.0, named.1 ∙ calm_in (λ one. one.id) queued place sessions (λ one n. refl))
queued_named queued None sessions request (Some channels) named = sym (calm_has queued sessions) ∙ named
queued_named queued (Some place) sessions request (Some channels) named = sym (calm_in (λ one. is_some one.id) queued (Some place) sessions (λ one n. refl)) ∙ named

-- as it was decided
judged_session : (given : Given) (read : Result Request1 Refusal) → (judged_read given read).session ≡ (session_or_none (judged_read given read).place given.sessions).id
judged_session given read = grind arith

judged_room : (given : Given) (read : Result Request1 Refusal) → (judged_read given read).has_room ≡ has_empty given.sessions
judged_room given read = grind arith

abbrev IsDecidedSo : List SeenSession → Decision → Type 0
IsDecidedSo sessions (Forward request asked) = IsNamedIn sessions request asked.place None
IsDecidedSo sessions (Setup request asked channels) = IsNamedIn sessions request asked.place (Some channels) × (asked.method ≡ methods.Setup)
IsDecidedSo sessions decision = Unit {0}

decided_so : (given : Given) (shape : Shape) (decision : Decision) → IsNaming (judged_of given shape) decision → IsDecidedIn given.sessions decision → SpeaksAs (judged_of given shape) decision → SendsSound decision → IsDecidedSo given.sessions decision
decided_so given shape decision naming placed speaks sound = grind (arith, judged_session, judged_room)

first_named : (decision : Decision) (given : Given) (more : List Shape) (again : Given → Treated) → IsDecidedSo given.sessions decision → AreFit given → ((one : Given) → AreFit one → IsNamedGoing one.sessions (again one).going)
    → IsNamedGoing given.sessions (treated_first decision given more again).going
first_named decision given more again so fit later = grind (arith, queued_named, queued_fit)

treated_named : (shapes : List Shape) (given : Given) → AreFit given → IsNamedGoing given.sessions (treated shapes given).going
treated_named [] given fit = tt
treated_named (shape ∷ more) given fit = first_named (decision_on given shape) given more (treated more) (grind (arith, decision_sound, decided_so, decide_names, decided_in, decide_speaks)) fit (treated_named more)

-- as the connection has its sessions
seen_in : (place : Option ℕ) (sessions : List PlayerSession) → (session_or_none place (map session_found sessions)).id ≡ (session_where place sessions).id
seen_in place sessions = grind (arith, seen_at)

pub same_where : (place : Option ℕ) (a b : List PlayerSession) → AreSame a b → (session_where place b).id ≡ (session_where place a).id
same_where place a b same = grind (arith, same_at)

goes_tells : (one : Option Going) (pair : Option ℕ) (text : List ℕ) (before client : Client) (number : ℕ) → number < 10 ^ CSEQ_TWO_DIGITS → IsNamedGoing (map session_found before.sessions) one → AreSame before.sessions client.sessions
    → TellsBy (goes_at one pair text client).client.sessions number (goes_at one pair text client).message (goes_at one pair text client).client.pending
goes_tells None pair text before client number short named same = tt
goes_tells (Some one) pair text before client number short named same = by one.channels pair named.0 named.1
  where
    plain_told : IsNamedIn (map session_found before.sessions) one.request one.asked.place None → id_in_text (request_text number one.request) ≡ (session_where one.asked.place client.sessions).id
    plain_told named = grind (arith, text_names, seen_in, same_where)

    setup_told : (place : Option ℕ) (channels : Pair) → IsNamedIn (map session_found before.sessions) one.request place (Some channels) → IsForSession place client.sessions
    setup_told None channels named =
        subst (λ (place : Option ℕ). IsSome place) (sym (same_first is_none 0 before.sessions client.sessions same)) (empty_seen 0 before.sessions named)
    setup_told (Some place) channels named =
        subst (λ (id : Option (List ℕ)). IsSome id) (sym (same_where (Some place) before.sessions client.sessions same)) (grind (arith, (ap (λ (one : SeenSession). is_some one.id) (sym (seen_at place before.sessions)) ∙ named)))

    by : (channels : Option Pair) (pair : Option ℕ) → IsNamedIn (map session_found before.sessions) one.request one.asked.place channels → IsSetupWith one.asked channels → IsToldFor client.sessions number one.request (purposes.Client one.asked (track_of one.asked.uri pair channels))
    by channels pair named setup = grind (arith, plain_told, setup_told)

pub going_tells : (bases : Bases) (pair : Option ℕ) (next : NextPart) (client : Client) (number : ℕ) → number < 10 ^ CSEQ_TWO_DIGITS → IsFitClient client
    → TellsBy (going_on bases pair next client).client.sessions number (going_on bases pair next client).message (going_on bases pair next client).client.pending
going_tells bases pair next client number short fit = going_as (λ effect. TellsBy effect.client.sessions number effect.message effect.client.pending) bases pair next client (record {
  still = tt;
  released = λ place play idle due is. tt;
  treats = λ idle alive.
      let all = treated client.waiting (given bases (is_none pair) client) in
      let left = record client { waiting = all.left } in
      goes_tells all.going pair all.hand client (after_plays all.plays left) number short (treated_named client.waiting (given bases (is_none pair) client) (given_fit bases (is_none pair) client fit)) (plays_steady all.plays left).sessions;
  left = λ place id idle dead filled is.
      let one : IsFitOne (session_at place client.sessions) = fit_at place client.sessions fit.sessions in
      closing_names number (session_at place client.sessions).control id short one.control (subst (λ (named : Option (List ℕ)). IfSome named (λ one. is_session_id one ≡ true)) is one.id) ∙ sym is;
})

-- Joined goes with the streams, the ids and what is open.
pub alike : (sessions others : List PlayerSession) → AreSame sessions others → AreAlike sessions others
alike sessions others same = λ place. let one = same_at place sessions others same in (one.id, one.tracks)

for_same : (place : Option ℕ) (sessions others : List PlayerSession) → AreSame sessions others → IsForSession place sessions → IsForSession place others
for_same None sessions others same there = subst (λ (one : Option ℕ). IsSome one) (sym (same_first is_none 0 sessions others same)) there
for_same (Some place) sessions others same there = subst (λ (id : Option (List ℕ)). IsSome id) (sym (same_at place sessions others same).id) there

pub joined_still : (books : Books) (i : ℕ) (client after : Client) (count : ℕ) → IsHeldStill client after → IsJoined books i client count → IsJoined books i after count
joined_still books i client after count still joined =
    alike_joined books i count client after (alike client.sessions after.sessions still.sessions) still.pending
    (subst (λ (one : Option Purpose). IsOpenFor books i (books.number_of i count) after.sessions one) (sym still.pending) (grind (arith, same_where, same_at, for_same, still.sessions, joined.pending))) joined

-- What goes up, and what it does in the books: nothing; or a request, for which a kind is lent.
abbrev pub HasGone : Books → ℕ → Client → ℕ → Option RequestKind → ℕ → Type 0
HasGone books i after count None more = IsJoined books i after (count + more)
HasGone books i after count (Some kind) more = IsFree books (pair_asked kind) × IsJoined (lends i kind books) i after (count + more)

-- a request went up
asked_gone : (books : Books) (i count number : ℕ) (client after : Client) (request : Request2) (named free : Option ℕ) (shut : Bool) (pending : Option Purpose) → IsJoined books i client count → AreSessionsBelow count client.sessions → IsFreePair books free
    → IsAsked (pair_where free (count + 1)) request named client.pending after.pending → IsSteady client after → after.pending ≡ pending → IsOpenAs pending request named → SuitsOpen client.alive pending → shut ≡ not client.alive → TellsOpen after.sessions number request pending
    → HasGone books i after count (Some (kind_of_text (request_text number (over_pair named free request)) free shut)) 1
asked_gone books i count number client after request named free shut None joined below is_free asked steady e is_open suits closed tells = absurd is_open
asked_gone books i count number client after request named free shut (Some purpose) joined below is_free asked steady e is_open suits closed tells =
    let lent : IsLentFor books count (kind_of_text (request_text number (over_pair named free request)) free shut) after.sessions purpose =
    kind_lent books count number request named free shut after.sessions purpose is_open (grind (arith, asked.named)) is_free (grind arith) tells in (
      lent_free books count (kind_of_text (request_text number (over_pair named free request)) free shut) after.sessions purpose lent,
      own_lent books i (kind_of_text (request_text number (over_pair named free request)) free shut) purpose client after count joined below asked.before e (alike client.sessions after.sessions steady.sessions) lent,
    )

-- the same connection with one request more, or with none
pub none_more : (books : Books) (i : ℕ) (client : Client) (count : ℕ) → IsJoined books i client count → IsJoined books i client (count + 0)
none_more books i client count joined = subst (λ (n : ℕ). IsJoined books i client n) (grind arith) joined

steady_still : (client after : Client) → IsSteady client after → after.pending ≡ client.pending → IsHeldStill client after
steady_still client after steady same = record { sessions = steady.sessions; pending = same }

-- what goes up after an event was heard
pub going_gone : (bases : Bases) (earlier books : Books) (i count : ℕ) (client : Client) (next : NextPart) (shut : Bool) → IsJoined books i client count → AreSessionsBelow count client.sessions
    → shut ≡ not client.alive → TellsBy (going_on bases (pair_where (free_in books) (count + 1)) next client).client.sessions (earlier.issued + 1) (going_on bases (pair_where (free_in books) (count + 1)) next client).message (going_on bases (pair_where (free_in books) (count + 1)) next client).client.pending
    → HasGone books i (going_on bases (pair_where (free_in books) (count + 1)) next client).client count
    (kind_of (option_map (message_up earlier books i) (going_on bases (pair_where (free_in books) (count + 1)) next client).message) (free_in books) shut) (asked_in (going_on bases (pair_where (free_in books) (count + 1)) next client).message)
going_gone bases earlier books i count client next shut joined below closed tells =
    by (going_on bases (pair_where (free_in books) (count + 1)) next client).message (going_asks bases (pair_where (free_in books) (count + 1)) next client) (going_suits bases (pair_where (free_in books) (count + 1)) next client) tells
  where
    by : (message : Option Outgoing) → AsksBy (pair_where (free_in books) (count + 1)) client.pending message (going_on bases (pair_where (free_in books) (count + 1)) next client).client.pending
        → SuitsBy client.alive message (going_on bases (pair_where (free_in books) (count + 1)) next client).client.pending
        → TellsBy (going_on bases (pair_where (free_in books) (count + 1)) next client).client.sessions (earlier.issued + 1) message (going_on bases (pair_where (free_in books) (count + 1)) next client).client.pending
        → HasGone books i (going_on bases (pair_where (free_in books) (count + 1)) next client).client count (kind_of (option_map (message_up earlier books i) message) (free_in books) shut) (asked_in message)
    by None same suits told =
        none_more books i _ count (joined_still books i client _ count (steady_still client _ (going_steady bases (pair_where (free_in books) (count + 1)) next client) same) joined)
    by (Some (asks request named)) asked suits told =
        asked_gone books i count (earlier.issued + 1) client _ request named (free_in books) shut _ joined below (grind (arith, lowest_free_is_free)) asked (going_steady bases (pair_where (free_in books) (count + 1)) next client) refl asked.after suits closed told
    by (Some (carries pair half rest)) asked suits told = absurd asked
