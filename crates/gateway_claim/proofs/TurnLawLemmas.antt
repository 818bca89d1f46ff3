-- The turn of a connection in a history: the step by the books is its own step, the next entry hands out what that hands out,
-- and the books and the connections are then as the step leaves them.
use Rattle.std.proofs.Common.{◌≡◌, ◌∙◌, ℕ, zero, suc, ◌+◌, false, map, List, [], ◌∷◌, Option, Some, IfSome, refl, sym, ap, subst, arith, cond, ◌++◌, None, IsSome, ◌≢◌}
use Rattle.std.specs.Option.{option_map, option_or, option_to_list}
use Rattle.rtsp_uri.specs.declared.base.Bases.{Bases}
use Rattle.session_one.specs.declared.parts.Track.{Track}
use Rattle.client_slot.specs.declared.purpose.Purpose.{Purpose}
use Rattle.client_slot.specs.Session.{PlayerSession}
use Rattle.client_slot.specs.Places.{session_at, session_where, tracks_of}
use Rattle.client_slot.specs.Client.{Client}
use Rattle.client_slot.specs.Renumber.{purpose_under, session_under, client_under}
use Rattle.client_machine.specs.Alone.{effect_alone, private_after, Private, asked_in}
use Rattle.client_machine.specs.Bounds.{ArePairsBelow, IsWithin, IsBelow}
use Rattle.client_machine.specs.Events.{Outgoing, carries, Effect, PrivateEvent, asks}
use Rattle.client_machine.specs.Frames.{channel_in, Half, half_for}
use Rattle.client_machine.specs.Step.{hear, step, going_on}
use Rattle.client_machine.specs.Renumber.{message_under, effect_under}
use Rattle.client_machine.proofs.AskLemmas.{going_asks}
use Rattle.client_machine.proofs.BelowLemmas.{alone_below, alone_numbered, tracks_below, hear_numbered, under_agree}
use Rattle.client_machine.proofs.WayLemmas.{hear_as}
use Rattle.gateway_claim.specs.Books.{Books, free_in, RequestKind, kind_of, lends, kind_of_text}
use Rattle.gateway_claim.specs.Happenings.{Happening, HistoryEntry, fault_in, entered, silent}
use Rattle.gateway_claim.specs.OwnEvents.{turn, final_in, settled_by, books_of, event_of, own, lends_where, has_shut}
use Rattle.gateway_claim.specs.BooksAndSlots.{kind_for, IsJoined, AreSound}
use Rattle.gateway_claim.specs.Follows.{message_up, spent, breach, effect, answer_due, message_due, up_due, IsHistory, outcome_with, next}
use Rattle.gateway_claim.specs.Turns.{shared, raw_event, raw_up, number_heard, kind_pending, outcome_by, kind_gone, IsItsTurn, IsSteppedBy}
use Rattle.gateway_claim.proofs.AgreeLemmas.{alone, IsStep, step_is, AreJoined, IsTurnStep, turn_step, joined, event_for, alone_next, event_present, books_with, books_next, other_quiet}
use Rattle.gateway_claim.proofs.StepLemmas.{raw_is, open_is, numbers_at, pairs_at, numbers_agree, pairs_agree, other_of, free_or, raw_step, asked_is_free, lent_client}
use Rattle.std.specs.Prelude.{is_some}
use Rattle.gateway_claim.specs.declared.event.UpMessage.{UpMessage}
use Rattle.gateway_claim.specs.declared.event.UpCause.{UpCause}
use Rattle.gateway_claim.specs.declared.event.Outcome.{Outcome}
use Rattle.gateway_claim.proofs.CaseLemmas.{not_over, pair_where, breach_standing}
use Rattle.gateway_claim.proofs.NextLemmas.{next_follows, same_number}
use Rattle.gateway_claim.proofs.LendLemmas.{new_number}
use Rattle.client_machine.specs.UpTexts.{text_up}
use Rattle.client_machine.proofs.HoldLemmas.{going_steady, same_tracks}

-- A frame of the player goes up on a pair of one of its streams.
abbrev pub CarriesBelow : ℕ → Option Outgoing → Type 0
CarriesBelow n (Some (carries pair half rest)) = IsWithin n pair
CarriesBelow n message = Unit {0}

half_below : (n channel : ℕ) (tracks : List Track) → ArePairsBelow n tracks → IfSome (half_for channel tracks) (λ half. IsWithin n half.pair)
half_below n channel [] below = tt
half_below n channel (track ∷ tracks) below = grind (arith, half_below n channel tracks below.1)

-- a message of the connection, as it goes up in the numbers of all
pub message_is : (books settled : Books) (i n free : ℕ) (message : Option Outgoing) → CarriesBelow n message
    → option_map (message_up books settled i) message ≡ option_map (raw_up (books.issued + 1) (free_in settled)) (option_map (message_under (pairs_at books i (n + 1) free)) message)
message_is books settled i n free message below = grind arith

-- The kind of what goes up is that of what is open then.
pub under_at : (numbers pairs : ℕ → ℕ) (place : ℕ) (sessions : List PlayerSession) → (session_at place (map (session_under numbers pairs) sessions)).id ≡ (session_at place sessions).id
under_at numbers pairs place [] = refl
under_at numbers pairs zero (one ∷ more) = refl
under_at numbers pairs (suc place) (one ∷ more) = under_at numbers pairs place more

pub under_where : (numbers pairs : ℕ → ℕ) (place : Option ℕ) (sessions : List PlayerSession) → (session_where place (map (session_under numbers pairs) sessions)).id ≡ (session_where place sessions).id
under_where numbers pairs place sessions = grind (arith, under_at)

pub kind_same : (numbers pairs : ℕ → ℕ) (sessions : List PlayerSession) (purpose : Purpose) → kind_for pairs sessions purpose ≡ kind_pending (map (session_under numbers pairs) sessions) (Some (purpose_under pairs purpose))
kind_same numbers pairs sessions purpose = grind (arith, under_where, under_at)

-- A frame alone goes up at an event by itself, on a pair of a stream.
hear_below : (bases : Bases) (n : ℕ) (client : Client) (event : PrivateEvent) → ArePairsBelow n (tracks_of client.sessions) → CarriesBelow n (hear bases n client event).effect.message
hear_below bases n client event below = hear_as (λ heard. CarriesBelow n heard.effect.message) bases n client event (record {
  idle = tt;
  closing = λ reason alive. tt;
  waits = λ shape full here is alive. tt;
  carrying = λ shape full half here is. subst (λ (one : Option Half). IfSome one (λ found. IsWithin n found.pair)) is (half_below n (channel_in shape) (tracks_of client.sessions) below);
  settles = λ purpose told ssrc full here late is. tt;
  notes = λ id names here. tt;
  gives = λ pair half channel rest here is alive. tt;
})

pub step_below : (bases : Bases) (n : ℕ) (pair : Option ℕ) (client : Client) (event : PrivateEvent) → ArePairsBelow n (tracks_of client.sessions) → CarriesBelow n (step bases n pair client event).message
step_below bases n pair client event below = grind (arith, hear_below, going_asks)

-- The step in the numbers of all.
abbrev pub raw_step_of : Bases → List HistoryEntry → ℕ → Happening → PrivateEvent → Effect
raw_step_of bases T i h raw = step bases (number_heard h) (free_in (settled_by (books_of T) h)) (shared (books_of T) i (alone bases T i).client) raw

-- It is the connection's own, renumbered.
pub step_renumbered : (bases : Bases) (T : List HistoryEntry) (i : ℕ) (h : Happening) (event raw : PrivateEvent) → AreSound (books_of T) → IsJoined (books_of T) i (alone bases T i).client (alone bases T i).count → (alone bases T i).over ≡ false
    → IsStep bases (books_of T) (final_in (books_of T) h) i (alone bases T i) event → turn (books_of T) h ≡ Some i → event_of (books_of T) i (alone bases T i).client.waiting h ≡ Some event → raw_event (books_of T) h ≡ Some raw
    → raw_step_of bases T i h raw ≡ effect_under (numbers_at (books_of T) i ((alone bases T i).count + 1) (other_of raw)) (pairs_at (books_of T) i ((alone bases T i).count + 1) (free_or (free_in (settled_by (books_of T) h))))
    (effect_alone bases (alone bases T i) event)
step_renumbered bases T i h event raw sound joined over made turns is_event is_raw =
    let open_now = open_is (books_of T) i (alone bases T i).count (alone bases T i).client h raw joined (alone_numbered bases (own bases i T)).1 turns is_raw in
    raw_step bases (books_of T) i (alone bases T i).count (number_heard h) (free_in (settled_by (books_of T) h)) (alone bases T i).client event raw sound joined (alone_below bases (own bases i T))
    (raw_is (books_of T) i (alone bases T i).client.waiting h event raw turns is_event is_raw) open_now.0 open_now.1
    ∙ ap (effect_under (numbers_at (books_of T) i ((alone bases T i).count + 1) (other_of raw)) (pairs_at (books_of T) i ((alone bases T i).count + 1) (free_or (free_in (settled_by (books_of T) h)))))
    (sym (step_is bases (books_of T) (final_in (books_of T) h) i (alone bases T i) event over made))

-- The connection whose turn it is makes the step that it makes alone.
turn_made : (bases : Bases) (T : List HistoryEntry) (i : ℕ) (h : Happening) (event raw : PrivateEvent) → IsItsTurn bases T i h event raw → IsStep bases (books_of T) (final_in (books_of T) h) i (alone bases T i) event
turn_made bases T i h event raw is = subst (λ (one : Option PrivateEvent). IsTurnStep bases (books_of T) i (alone bases T i) one (final_in (books_of T) h)) is.is_own
    (turn_step bases T i h ((joined bases T is.is_history is.standing).1 i) is.entered is.turns is.said)

pub renumbered : (bases : Bases) (T : List HistoryEntry) (i : ℕ) (h : Happening) (event raw : PrivateEvent) → IsItsTurn bases T i h event raw
    → raw_step_of bases T i h raw ≡ effect_under (numbers_at (books_of T) i ((alone bases T i).count + 1) (other_of raw)) (pairs_at (books_of T) i ((alone bases T i).count + 1) (free_or (free_in (settled_by (books_of T) h))))
    (effect_alone bases (alone bases T i) event)
renumbered bases T i h event raw is =
    let all : AreJoined bases T = joined bases T is.is_history is.standing in
    step_renumbered bases T i h event raw all.0 (all.1 i) (not_over bases T is.standing i) (turn_made bases T i h event raw is) is.turns is.is_own is.is_raw

-- what the machine does at the turn
pub at_turn : (bases : Bases) (T : List HistoryEntry) (i : ℕ) (h : Happening) (event raw : PrivateEvent) → IsItsTurn bases T i h event raw → effect bases T h ≡ effect_alone bases (alone bases T i) event
at_turn bases T i h event raw is = grind arith

nothing_wrong : (bases : Bases) (T : List HistoryEntry) (i : ℕ) (h : Happening) (event raw : PrivateEvent) → IsItsTurn bases T i h event raw → breach bases T h ≡ None
nothing_wrong bases T i h event raw is =
    breach_standing bases T h is.standing
    ∙ ap (λ wrong. option_or wrong (spent (books_of T).issued (effect bases T h).message)) is.said
    ∙ ap (λ (done : Effect). spent (books_of T).issued done.message) (at_turn bases T i h event raw is)
    ∙ sym (grind arith)
    ∙ sym (ap (λ (done : Effect). spent (books_of T).issued done.message) (renumbered bases T i h event raw is))
    ∙ is.left

carried : (bases : Bases) (T : List HistoryEntry) (i : ℕ) (h : Happening) (event raw : PrivateEvent) → IsItsTurn bases T i h event raw → CarriesBelow (alone bases T i).count (effect_alone bases (alone bases T i) event).message
carried bases T i h event raw is =
    subst (λ (done : Effect). CarriesBelow (alone bases T i).count done.message) (sym (step_is bases (books_of T) (final_in (books_of T) h) i (alone bases T i) event (not_over bases T is.standing i) (turn_made bases T i h event raw is)))
    (step_below bases (alone bases T i).count (pair_where (free_in (settled_by (books_of T) h)) ((alone bases T i).count + 1)) (alone bases T i).client event (tracks_below (alone bases T i).count (alone bases T i).client.sessions (alone_below bases (own bases i T)).sessions))

-- What is handed out is what the step in the numbers of all hands out.
pub turn_outcome : (bases : Bases) (T : List HistoryEntry) (i : ℕ) (h : Happening) (event raw : PrivateEvent) → IsItsTurn bases T i h event raw → next bases T h ≡ outcome_by (books_of T) h i (raw_step_of bases T i h raw)
turn_outcome bases T i h event raw is =
    let p : ℕ → ℕ = pairs_at (books_of T) i ((alone bases T i).count + 1) (free_or (free_in (settled_by (books_of T) h))) in
    ap (λ (f : Option UpCause). cond (is_some f) silent (outcome_with (breach bases T h) (turn (books_of T) h) (up_due bases T h) (effect bases T h))) is.standing
    ∙ ap (λ wrong. outcome_with wrong (turn (books_of T) h) (up_due bases T h) (effect bases T h)) (nothing_wrong bases T i h event raw is)
    ∙ ap (λ who. outcome_with None who (record { answer = answer_due (books_of T) h; message = message_due (books_of T) (settled_by (books_of T) h) who (effect bases T h).message }) (effect bases T h)) is.turns
    ∙ ap (λ (done : Effect). outcome_with None (Some i) (record { answer = answer_due (books_of T) h; message = option_map (message_up (books_of T) (settled_by (books_of T) h) i) done.message }) done) (at_turn bases T i h event raw is)
    ∙ ap (λ (message : Option UpMessage). outcome_with None (Some i) (record { answer = answer_due (books_of T) h; message = message }) (effect_alone bases (alone bases T i) event))
    (message_is (books_of T) (settled_by (books_of T) h) i (alone bases T i).count (free_or (free_in (settled_by (books_of T) h))) (effect_alone bases (alone bases T i) event).message (carried bases T i h event raw is))
    ∙ ap (λ (done : Effect). outcome_by (books_of T) h i done) (sym (renumbered bases T i h event raw is))

-- The entry.
abbrev pub entry_next : Bases → List HistoryEntry → Happening → HistoryEntry
entry_next bases T h = record { happening = h; outcome = next bases T h }

pub next_history : (bases : Bases) (T : List HistoryEntry) (h : Happening) → IsHistory bases T → IsHistory bases (entry_next bases T h ∷ T)
next_history bases T h history = (history, next_follows bases T h history)

pub turn_stands : (bases : Bases) (T : List HistoryEntry) (i : ℕ) (h : Happening) (event raw : PrivateEvent) → IsItsTurn bases T i h event raw → fault_in (entry_next bases T h ∷ T) ≡ None
turn_stands bases T i h event raw is =
    ap (λ was. option_or was (next bases T h).fault) is.standing ∙ ap (λ (out : Outcome). out.fault) (turn_outcome bases T i h event raw is)

-- The connection after it.
pub turn_alone : (bases : Bases) (T : List HistoryEntry) (i : ℕ) (h : Happening) (event raw : PrivateEvent) → IsItsTurn bases T i h event raw
    → alone bases (entry_next bases T h ∷ T) i ≡ private_after bases (event ∷ own bases i T)
turn_alone bases T i h event raw is =
    alone_next bases T (entry_next bases T h) i (turn_stands bases T i h event raw is)
    ∙ ap (λ who. private_after bases (option_to_list (event_for bases T h who i) ++ own bases i T)) is.turns
    ∙ ap (λ one. private_after bases (option_to_list one ++ own bases i T)) (event_present bases T h i event is.entered is.is_own)

-- the kind of the request that goes up
abbrev pub kind_at : Bases → List HistoryEntry → ℕ → Happening → PrivateEvent → Option RequestKind
kind_at bases T i h event =
    kind_of (option_map (message_up (books_of T) (settled_by (books_of T) h) i) (effect_alone bases (alone bases T i) event).message) (free_in (settled_by (books_of T) h)) (has_shut (Some i) (entry_next bases T h ∷ T))

pub turn_books_of : (bases : Bases) (T : List HistoryEntry) (i : ℕ) (h : Happening) (event raw : PrivateEvent) → IsItsTurn bases T i h event raw
    → books_of (entry_next bases T h ∷ T) ≡ lends_where (Some i) (kind_at bases T i h event) (settled_by (books_of T) h)
turn_books_of bases T i h event raw is =
    books_next bases T (entry_next bases T h) (next_history bases T h is.is_history).1 (turn_stands bases T i h event raw is)
    ∙ ap (λ who. books_with (books_of T) h who (effect bases T h).message (has_shut who (entry_next bases T h ∷ T))) is.turns
    ∙ ap (λ (done : Effect). books_with (books_of T) h (Some i) done.message (has_shut (Some i) (entry_next bases T h ∷ T))) (at_turn bases T i h event raw is)

-- A request that goes up is open then.
abbrev pub AskedOpen : Option Outgoing → Option Purpose → Type 0
AskedOpen (Some (asks request named)) pending = IsSome pending
AskedOpen message pending = Unit {0}

-- what goes up in all, by what was heard
pub step_open : (bases : Bases) (number : ℕ) (pair : Option ℕ) (client : Client) (event : PrivateEvent) → AskedOpen (step bases number pair client event).message (step bases number pair client event).client.pending
step_open bases number pair client event = grind arith

-- after the turn: the connection by the new books, and these books
abbrev pub IsAfter : Bases → List HistoryEntry → ℕ → Happening → PrivateEvent → Type 0
IsAfter bases T i h raw =
    (shared (books_of (entry_next bases T h ∷ T)) i (alone bases (entry_next bases T h ∷ T) i).client ≡ (raw_step_of bases T i h raw).client)
    × (books_of (entry_next bases T h ∷ T) ≡ lends_where (Some i) (kind_gone (raw_step_of bases T i h raw).message (raw_step_of bases T i h raw).client) (settled_by (books_of T) h))

-- The streams after a step are those after it was heard.
step_tracks : (bases : Bases) (T : List HistoryEntry) (i : ℕ) (h : Happening) (event raw : PrivateEvent) → IsItsTurn bases T i h event raw → ArePairsBelow (alone bases T i).count (tracks_of (effect_alone bases (alone bases T i) event).client.sessions)
step_tracks bases T i h event raw is =
    let pair : Option ℕ = pair_where (free_in (settled_by (books_of T) h)) ((alone bases T i).count + 1) in
    subst (λ (done : Effect). ArePairsBelow (alone bases T i).count (tracks_of done.client.sessions)) (sym (step_is bases (books_of T) (final_in (books_of T) h) i (alone bases T i) event (not_over bases T is.standing i) (turn_made bases T i h event raw is)))
    (subst (λ tracks. ArePairsBelow (alone bases T i).count tracks)
    (sym (same_tracks (hear bases (alone bases T i).count (alone bases T i).client event).effect.client.sessions (going_on bases (pair_where (free_in (settled_by (books_of T) h)) ((alone bases T i).count + 1)) (hear bases (alone bases T i).count (alone bases T i).client event).next (hear bases (alone bases T i).count (alone bases T i).client event).effect.client).client.sessions
    (going_steady bases (pair_where (free_in (settled_by (books_of T) h)) ((alone bases T i).count + 1)) (hear bases (alone bases T i).count (alone bases T i).client event).next (hear bases (alone bases T i).count (alone bases T i).client event).effect.client).sessions))
    (tracks_below (alone bases T i).count (hear bases (alone bases T i).count (alone bases T i).client event).effect.client.sessions (hear_numbered bases (alone bases T i).count (alone bases T i).client event (alone_numbered bases (own bases i T))).0.sessions))

step_asked : (bases : Bases) (T : List HistoryEntry) (i : ℕ) (h : Happening) (event raw : PrivateEvent) → IsItsTurn bases T i h event raw → AskedOpen (effect_alone bases (alone bases T i) event).message (effect_alone bases (alone bases T i) event).client.pending
step_asked bases T i h event raw is = let made = turn_made bases T i h event raw is in grind (arith, step_is, alone, not_over, step_open, pair_where)

-- By the message: nothing, or a frame, goes up.
quiet_after : (books settled after : Books) (i count other : ℕ) (free : Option ℕ) (client : Client) → after ≡ settled → ((k : ℕ) → settled.number_of i k ≡ books.number_of i k) → ((k : ℕ) → settled.pair_of i k ≡ books.pair_of i k)
    → IsBelow count client → shared after i client ≡ client_under (numbers_at books i (count + 1) other) (pairs_at books i (count + 1) (free_or free)) client
quiet_after books settled after i count other free client same numbers pairs below =
    ap (λ b. shared b i client) same
    ∙ under_agree count (settled.number_of i) (numbers_at books i (count + 1) other) (settled.pair_of i) (pairs_at books i (count + 1) (free_or free)) client below
    (λ k low high. numbers k ∙ sym (numbers_agree books i count other k low high)) (λ k low high. pairs k ∙ sym (pairs_agree books i count (free_or free) k low high))

plus_zero : (n : ℕ) (client : Client) → IsBelow (n + 0) client → IsBelow n client
plus_zero n client below = subst (λ (m : ℕ). IsBelow m client) (grind arith) below

-- the connection by the new books, and these books, as the step in the numbers of all has them
abbrev IsAfterBy : Bases → List HistoryEntry → ℕ → Happening → PrivateEvent → Client → Option Outgoing → Books → Type 0
IsAfterBy bases T i h raw client message after =
    (shared after i client ≡ client_under (numbers_at (books_of T) i ((alone bases T i).count + 1) (other_of raw)) (pairs_at (books_of T) i ((alone bases T i).count + 1) (free_or (free_in (settled_by (books_of T) h)))) client)
    × (after ≡ lends_where (Some i) (kind_gone (option_map (message_under (pairs_at (books_of T) i ((alone bases T i).count + 1) (free_or (free_in (settled_by (books_of T) h))))) message) (shared after i client)) (settled_by (books_of T) h))

after_by : (bases : Bases) (T : List HistoryEntry) (i : ℕ) (h : Happening) (raw : PrivateEvent) (client : Client) (message : Option Outgoing) (after : Books) → (alone bases T i).count ≡ (books_of T).counts i
    → IsBelow ((alone bases T i).count + asked_in message) client → ArePairsBelow (alone bases T i).count (tracks_of client.sessions) → AskedOpen message client.pending
    → IsJoined after i client ((alone bases T i).count + asked_in message)
    → after ≡ lends_where (Some i) (kind_of (option_map (message_up (books_of T) (settled_by (books_of T) h) i) message) (free_in (settled_by (books_of T) h)) (has_shut (Some i) (entry_next bases T h ∷ T))) (settled_by (books_of T) h)
    → IsAfterBy bases T i h raw client message after
after_by bases T i h raw client None after counted below tracks asked is_joined books =
    (quiet_after (books_of T) (settled_by (books_of T) h) after i (alone bases T i).count (other_of raw) (free_in (settled_by (books_of T) h)) client books (λ k. refl) (λ k. refl) (plus_zero (alone bases T i).count client below), books)
after_by bases T i h raw client (Some (carries pair half rest)) after counted below tracks asked is_joined books =
    (quiet_after (books_of T) (settled_by (books_of T) h) after i (alone bases T i).count (other_of raw) (free_in (settled_by (books_of T) h)) client books (λ k. refl) (λ k. refl) (plus_zero (alone bases T i).count client below), books)
after_by bases T i h raw client (Some (asks request named)) after counted below tracks asked is_joined books =
    let kind : RequestKind = kind_of_text (text_up ((books_of T).issued + 1) (free_in (settled_by (books_of T) h)) named request) (free_in (settled_by (books_of T) h)) (has_shut (Some i) (entry_next bases T h ∷ T)) in
    let joined_lent : IsJoined (lends i kind (settled_by (books_of T) h)) i client ((alone bases T i).count + 1) = subst (λ (one : Books). IsJoined one i client ((alone bases T i).count + 1)) books is_joined in
    let same_kind : kind ≡ kind_pending (shared (lends i kind (settled_by (books_of T) h)) i client).sessions (shared (lends i kind (settled_by (books_of T) h)) i client).pending =
    grind (arith, new_number, same_number, kind_same, (ap (λ n. n + 1) counted)) in (
      ap (λ one. shared one i client) books
          ∙ lent_client (books_of T) (settled_by (books_of T) h) i (alone bases T i).count (other_of raw) (free_in (settled_by (books_of T) h)) kind client counted refl (λ k. refl) (λ k. refl) below tracks same_kind
          (asked_is_free (text_up ((books_of T).issued + 1) (free_in (settled_by (books_of T) h)) named request) (free_in (settled_by (books_of T) h)) (has_shut (Some i) (entry_next bases T h ∷ T))),
      books ∙ ap (λ one. lends i one (settled_by (books_of T) h)) (same_kind ∙ ap (λ one. kind_pending (shared one i client).sessions (shared one i client).pending) (sym books)),
    )

pub turn_after : (bases : Bases) (T : List HistoryEntry) (i : ℕ) (h : Happening) (event raw : PrivateEvent) → IsItsTurn bases T i h event raw → IsAfter bases T i h raw
turn_after bases T i h event raw is =
    let before : AreJoined bases T = joined bases T is.is_history is.standing in
    let now : AreJoined bases (entry_next bases T h ∷ T) = joined bases (entry_next bases T h ∷ T) (next_history bases T h is.is_history) (turn_stands bases T i h event raw is) in
    let alone_is : alone bases (entry_next bases T h ∷ T) i ≡ private_after bases (event ∷ own bases i T) = turn_alone bases T i h event raw is in
    let both = after_by bases T i h raw (effect_alone bases (alone bases T i) event).client (effect_alone bases (alone bases T i) event).message (books_of (entry_next bases T h ∷ T)) (before.1 i).counted
    (alone_below bases (event ∷ own bases i T)) (step_tracks bases T i h event raw is) (step_asked bases T i h event raw is)
    (subst (λ (one : Private). IsJoined (books_of (entry_next bases T h ∷ T)) i one.client one.count) alone_is (now.1 i))
    (turn_books_of bases T i h event raw is) in
    let client : shared (books_of (entry_next bases T h ∷ T)) i (alone bases (entry_next bases T h ∷ T) i).client ≡ (raw_step_of bases T i h raw).client =
    ap (λ (one : Private). shared (books_of (entry_next bases T h ∷ T)) i one.client) alone_is ∙ both.0 ∙ sym (ap (λ (done : Effect). done.client) (renumbered bases T i h event raw is)) in (
      client,
      both.1
          ∙ ap (λ (one : Client). lends_where (Some i) (kind_gone (option_map (message_under (pairs_at (books_of T) i ((alone bases T i).count + 1) (free_or (free_in (settled_by (books_of T) h))))) (effect_alone bases (alone bases T i) event).message) one) (settled_by (books_of T) h))
          (both.0 ∙ sym (ap (λ (done : Effect). done.client) (renumbered bases T i h event raw is)))
          ∙ ap (λ (message : Option Outgoing). lends_where (Some i) (kind_gone message (raw_step_of bases T i h raw).client) (settled_by (books_of T) h)) (sym (ap (λ (done : Effect). done.message) (renumbered bases T i h event raw is))),
    )

-- Every other connection is as it was.
kept_shared : (books settled : Books) (i j n : ℕ) (kind : Option RequestKind) (client : Client) → j ≢ i → IsBelow n client → ((k : ℕ) → settled.number_of j k ≡ books.number_of j k) → ((k : ℕ) → settled.pair_of j k ≡ books.pair_of j k)
    → shared (lends_where (Some i) kind settled) j client ≡ shared books j client
kept_shared books settled i j n kind client ne below numbers pairs = grind arith

pub turn_others : (bases : Bases) (T : List HistoryEntry) (i : ℕ) (h : Happening) (event raw : PrivateEvent) → IsItsTurn bases T i h event raw → (j : ℕ) → j ≢ i
    → shared (books_of (entry_next bases T h ∷ T)) j (alone bases (entry_next bases T h ∷ T) j).client ≡ shared (books_of T) j (alone bases T j).client
turn_others bases T i h event raw is j ne =
    let same : alone bases (entry_next bases T h ∷ T) j ≡ alone bases T j =
    alone_next bases T (entry_next bases T h) j (turn_stands bases T i h event raw is)
    ∙ ap (λ who. private_after bases (option_to_list (event_for bases T h who j) ++ own bases j T)) is.turns
    ∙ other_quiet bases T h i j ne in
    ap (λ (one : Private). shared (books_of (entry_next bases T h ∷ T)) j one.client) same
    ∙ ap (λ b. shared b j (alone bases T j).client) (turn_books_of bases T i h event raw is)
    ∙ kept_shared (books_of T) (settled_by (books_of T) h) i j (alone bases T j).count (kind_at bases T i h event) (alone bases T j).client ne (alone_below bases (own bases j T)) (λ k. refl) (λ k. refl)

-- The turn of a connection is one step by the books.
pub stepped : (bases : Bases) (history : List HistoryEntry) (i : ℕ) (happening : Happening) (own_form raw : PrivateEvent) → IsItsTurn bases history i happening own_form raw → IsSteppedBy bases history i happening raw
stepped bases history i happening own_form raw is =
    let after = turn_after bases history i happening own_form raw is in
    record { outcome = turn_outcome bases history i happening own_form raw is; client = after.0; others = turn_others bases history i happening own_form raw is; books = after.1 }
