-- Where an event ends the connection to the server, the next entry of the history is that end.
use Rattle.std.proofs.Common.{◌≡◌, ◌∙◌, ℕ, ◌+◌, true, cond, List, Option, Some, None, Result, Ok, Err, refl, sym, ap, subst}
use Rattle.std.specs.Prelude.{is_some}
use Rattle.std.specs.Option.{option_map, option_or}
use Rattle.rtsp_head.specs.Items.{Shape}
use Rattle.rtsp_uri.specs.declared.base.Bases.{Bases}
use Rattle.client_slot.specs.Client.{Client}
use Rattle.client_machine.specs.Alone.{effect_alone}
use Rattle.client_machine.specs.Events.{Outgoing, asks, carries, Effect, PrivateEvent}
use Rattle.client_machine.specs.Renumber.{message_under}
use Rattle.client_machine.specs.Step.{step}
use Rattle.gateway_claim.specs.declared.event.Closed.TheVariants.{All}
use Rattle.gateway_claim.specs.declared.event.UpCause.{UpCause}
use Rattle.gateway_claim.specs.Books.{Books, free_in}
use Rattle.gateway_claim.specs.ServerItems.{Heard, replies, requests, frames, faults, heard, HeardNotice, notice_of}
use Rattle.gateway_claim.specs.Happenings.{Happening, enters, takes, ends, lags, hears, up_ends, HistoryEntry, fault_in, entered, nothing_up, silent}
use Rattle.gateway_claim.specs.OwnEvents.{turn, final_in, settled_by, books_of, notice_event, heard_event, event_by}
use Rattle.gateway_claim.specs.Follows.{said_breach, spent, effect_of_turn, effect, breach, up_due, IsHistory, outcome_with, next}
use Rattle.gateway_claim.specs.Turns.{shared, notice_raw, heard_raw, raw_event, number_heard}
use Rattle.gateway_claim.proofs.AgreeLemmas.{joined, effect_present, alone, AreJoined, IsStep, IsTurnStep, turn_step}
use Rattle.gateway_claim.proofs.CaseLemmas.{not_over, own_event, breach_standing}
use Rattle.gateway_claim.proofs.StepLemmas.{pairs_at, free_or}
use Rattle.gateway_claim.proofs.TurnLawLemmas.{raw_step_of, step_renumbered}
use Rattle.gateway_mux.specs.Pictures.{Picture, books_in, IsPictureOf}
use Rattle.gateway_mux.specs.Moves.{wrong_in, step_in, IsSpentAt, IsEndAt}
use Rattle.gateway_mux.proofs.BooksLemmas.{AreSame, turn_same, raw_same, settled_same, free_same}
use Rattle.gateway_mux.proofs.PictureLemmas.{entered_in, same_books, wrong_same}

-- What comes to a connection in the numbers of all has a form in its own.
notice_comes : (books : Books) (i : ℕ) (notice : Result HeardNotice ℕ) → notice_event books i notice ≡ None → notice_raw notice ≡ None
notice_comes books i (Ok notice) none = cc
notice_comes books i (Err code) none = refl

heard_comes : (books settled : Books) (i : ℕ) (waiting : List Shape) (said : Heard) → heard_event books settled i waiting said ≡ None → heard_raw books said ≡ None
heard_comes books settled i waiting (replies reply) none = cc
heard_comes books settled i waiting (requests request) none = notice_comes books i (notice_of books.holder request) none
heard_comes books settled i waiting (frames channel rest) none = cc
heard_comes books settled i waiting (faults fault) none = refl

comes_by : (books settled : Books) (i : ℕ) (waiting : List Shape) (h : Happening) → event_by books settled i waiting h ≡ None → raw_event books h ≡ None
comes_by books settled i waiting (enters conn) none = refl
comes_by books settled i waiting (takes conn shape) none = cc
comes_by books settled i waiting (ends conn) none = cc
comes_by books settled i waiting (lags conn) none = cc
comes_by books settled i waiting (hears shape) none = heard_comes books settled i waiting (heard shape) none
comes_by books settled i waiting (up_ends cause) none = refl

pub own_comes : (bases : Bases) (T : List HistoryEntry) (i : ℕ) (h : Happening) (raw : PrivateEvent) → raw_event (books_of T) h ≡ Some raw → (event : PrivateEvent) × (own_event bases T i h ≡ Some event)
own_comes bases T i h raw is = by (own_event bases T i h) refl
  where
    none_some : None ≡ Some raw → ⊥
    none_some e = cc

    by : (event : Option PrivateEvent) → own_event bases T i h ≡ event → (event : PrivateEvent) × (own_event bases T i h ≡ Some event)
    by None e = absurd (none_some (sym (comes_by (books_of T) (settled_by (books_of T) h) i (alone bases T i).client.waiting h e) ∙ is))
    by (Some event) e = (event, e)

-- The step by what the multiplexer has is that by the books.
pub step_same : (bases : Bases) (one : Picture) (T : List HistoryEntry) (h : Happening) (i : ℕ) (client : Client) (raw : PrivateEvent) → IsPictureOf bases one T → client ≡ shared (books_of T) i (alone bases T i).client
    → step_in bases one h client raw ≡ raw_step_of bases T i h raw
step_same bases one T h i client raw is here =
    ap (λ (free : Option ℕ). step bases (number_heard h) free client raw)
    (free_same (settled_by (books_in one) h) (settled_by (books_of T) h) (settled_same (books_in one) (books_of T) h (same_books bases one T is)))
    ∙ ap (λ (now : Client). step bases (number_heard h) (free_in (settled_by (books_of T) h)) now raw) here

-- A message takes a number in every numbering, or in none.
spent_same : (issued : ℕ) (pairs : ℕ → ℕ) (message : Option Outgoing) → spent issued (option_map (message_under pairs) message) ≡ spent issued message
spent_same issued pairs None = refl
spent_same issued pairs (Some (asks request named)) = refl
spent_same issued pairs (Some (carries pair half rest)) = refl

-- No number is left for the request of the connection whose turn it is.
breach_spent : (bases : Bases) (T : List HistoryEntry) (i : ℕ) (h : Happening) (event raw : PrivateEvent) (cause : UpCause) → IsHistory bases T → fault_in T ≡ None → entered i T ≡ true → turn (books_of T) h ≡ Some i
    → own_event bases T i h ≡ Some event → raw_event (books_of T) h ≡ Some raw → said_breach bases T h ≡ None → spent (books_of T).issued (raw_step_of bases T i h raw).message ≡ Some cause → breach bases T h ≡ Some cause
breach_spent bases T i h event raw cause history standing en turns is_event is_raw said spends =
    let all : AreJoined bases T = joined bases T history standing in
    let made : IsStep bases (books_of T) (final_in (books_of T) h) i (alone bases T i) event =
    subst (λ (one : Option PrivateEvent). IsTurnStep bases (books_of T) i (alone bases T i) one (final_in (books_of T) h)) is_event (turn_step bases T i h (all.1 i) en turns said) in
    breach_standing bases T h standing
    ∙ ap (λ wrong. option_or wrong (spent (books_of T).issued (effect bases T h).message)) said
    ∙ ap (λ (done : Effect). spent (books_of T).issued done.message) (ap (λ who. effect_of_turn bases T who h) turns ∙ effect_present bases T h i (Some event) en is_event)
    ∙ sym (spent_same (books_of T).issued (pairs_at (books_of T) i ((alone bases T i).count + 1) (free_or (free_in (settled_by (books_of T) h)))) (effect_alone bases (alone bases T i) event).message)
    ∙ sym (ap (λ (done : Effect). spent (books_of T).issued done.message) (step_renumbered bases T i h event raw all.0 (all.1 i) (not_over bases T standing i) made turns is_event is_raw))
    ∙ spends

spent_at : (bases : Bases) (one : Picture) (T : List HistoryEntry) (h : Happening) (cause : UpCause) → IsPictureOf bases one T → IsSpentAt bases one h cause → breach bases T h ≡ Some cause
spent_at bases one T h cause is at =
    let same : AreSame (books_in one) (books_of T) = same_books bases one T is in
    let here = entered_in bases one T is at.i at.client at.here in
    let is_raw : raw_event (books_of T) h ≡ Some at.raw = sym (raw_same (books_in one) (books_of T) h same) ∙ at.is_raw in
    let comes = own_comes bases T at.i h at.raw is_raw in
    breach_spent bases T at.i h comes.0 at.raw cause is.is_history is.standing here.0 (sym (turn_same (books_in one) (books_of T) h same) ∙ at.turns) comes.1 is_raw
    (sym (wrong_same bases one T is h) ∙ at.said)
    (ap (λ n. spent n (raw_step_of bases T at.i h at.raw).message) (sym is.issued)
    ∙ sym (ap (λ (done : Effect). spent one.issued done.message) (step_same bases one T h at.i at.client at.raw is here.1)) ∙ at.spends)

-- Why the connection to the server ends is the first thing that is wrong.
breach_at : (bases : Bases) (one : Picture) (T : List HistoryEntry) (h : Happening) (cause : UpCause) (wrong : Option UpCause) → IsPictureOf bases one T → wrong_in one h ≡ wrong → IsEndAt bases one h wrong cause → breach bases T h ≡ Some cause
breach_at bases one T h cause None is e at = spent_at bases one T h cause is at
breach_at bases one T h cause (Some wrong) is e at =
    breach_standing bases T h is.standing
    ∙ ap (λ said. option_or said (spent (books_of T).issued (effect bases T h).message)) (sym (wrong_same bases one T is h) ∙ e)
    ∙ ap (λ why. Some why) at

pub ends_so : (bases : Bases) (one : Picture) (T : List HistoryEntry) (h : Happening) (cause : UpCause) → IsPictureOf bases one T → IsEndAt bases one h (wrong_in one h) cause
    → next bases T h ≡ record { to_client = None; to_up = nothing_up; closed = All; fault = Some cause }
ends_so bases one T h cause is at =
    ap (λ (f : Option UpCause). cond (is_some f) silent (outcome_with (breach bases T h) (turn (books_of T) h) (up_due bases T h) (effect bases T h))) is.standing
    ∙ ap (λ wrong. outcome_with wrong (turn (books_of T) h) (up_due bases T h) (effect bases T h)) (breach_at bases one T h cause (wrong_in one h) is refl at)
