-- The turn of a connection in the multiplexer is the next entry of its history.
use Rattle.std.proofs.Common.{◌≡◌, ◌≢◌, ◌∙◌, ℕ, ◌+◌, ◌==◌, ◌&&◌, ◌||◌, Bool, true, false, cond, List, ◌∷◌, Some, None, Result, Ok, Err, refl, sym, ap, subst}
use Rattle.std.specs.Prelude.{is_none}
use Rattle.std.specs.Option.{option_map, option_or}
use Rattle.std.proofs.lemmas.Bool.{eq-eqb, eqb-true}
use Rattle.rtsp_uri.specs.declared.base.Bases.{Bases}
use Rattle.rtsp_head.specs.Items.{Shape}
use Rattle.client_slot.specs.Client.{Client}
use Rattle.client_machine.specs.Alone.{Private}
use Rattle.client_machine.specs.Events.{Effect, PrivateEvent, end, slow}
use Rattle.client_machine.specs.Step.{step}
use Rattle.gateway_claim.specs.declared.event.Outcome.{Outcome}
use Rattle.gateway_claim.specs.Books.{Opened, Books, settles, free_in}
use Rattle.gateway_claim.specs.ServerItems.{Heard, replies, requests, frames, faults, heard, HeardNotice, notice_of}
use Rattle.gateway_claim.specs.Happenings.{Happening, enters, takes, ends, lags, hears, up_ends, HistoryEntry, fault_in, enters_here, entered}
use Rattle.gateway_claim.specs.OwnEvents.{turn, heard_final, settled_by, lends_where, notice_event, heard_event, event_of, books_of}
use Rattle.gateway_claim.specs.Follows.{spent, answer_due, next}
use Rattle.gateway_claim.specs.Turns.{shared, shared_in, raw_up, notice_raw, heard_raw, raw_event, number_heard, kind_gone, outcome_by, client_alone, step_by_books, IsItsTurn, IsSteppedBy}
use Rattle.gateway_claim.proofs.AgreeLemmas.{alone}
use Rattle.gateway_claim.proofs.TurnLawLemmas.{stepped, entry_next, next_history}
use Rattle.gateway_mux.specs.Pictures.{Picture, bare_held, books_in, IsPictureOf}
use Rattle.gateway_mux.specs.Moves.{step_in, TakesTurn, books_stepped, IsAfterTurn}
use Rattle.gateway_mux.proofs.BooksLemmas.{AreSame, turn_same, raw_same, answer_same, settled_same, free_same, lends_same}
use Rattle.gateway_mux.specs.Departure.{IsKeptUnlessGone}
use Rattle.gateway_mux.proofs.OverLemmas.{kept_as, kept_along}
use Rattle.gateway_mux.proofs.PictureLemmas.{entered_in, same_books, wrong_same}

-- What comes to a connection in the numbers of all has a form in its own.
notice_form : (books : Books) (i : ℕ) (notice : Result HeardNotice ℕ) (raw : PrivateEvent) → notice_raw notice ≡ Some raw → (form : PrivateEvent) × (notice_event books i notice ≡ Some form)
notice_form books i (Ok notice) raw e = (_, refl)
notice_form books i (Err code) raw e = cc

heard_form : (books settled : Books) (i : ℕ) (waiting : List Shape) (said : Heard) (raw : PrivateEvent) → heard_raw books said ≡ Some raw → (form : PrivateEvent) × (heard_event books settled i waiting said ≡ Some form)
heard_form books settled i waiting (replies reply) raw e = (_, refl)
heard_form books settled i waiting (requests request) raw e = notice_form books i (notice_of books.holder request) raw e
heard_form books settled i waiting (frames channel rest) raw e = (_, refl)
heard_form books settled i waiting (faults fault) raw e = cc

own_form : (books : Books) (i : ℕ) (waiting : List Shape) (h : Happening) (raw : PrivateEvent) → raw_event books h ≡ Some raw → (form : PrivateEvent) × (event_of books i waiting h ≡ Some form)
own_form books i waiting (enters conn) raw e = cc
own_form books i waiting (takes conn shape) raw e = (_, refl)
own_form books i waiting (ends conn) raw e = (end, refl)
own_form books i waiting (lags conn) raw e = (slow, refl)
own_form books i waiting (hears shape) raw e = heard_form books (settles (heard_final books (heard shape)) books) i waiting (heard shape) raw e
own_form books i waiting (up_ends cause) raw e = cc

-- Nobody enters where it is the turn of a connection.
no_entering : (books : Books) (h : Happening) (i j : ℕ) → turn books h ≡ Some i → enters_here j h ≡ false
no_entering books (enters conn) i j e = cc
no_entering books (takes conn shape) i j e = refl
no_entering books (ends conn) i j e = refl
no_entering books (lags conn) i j e = refl
no_entering books (hears shape) i j e = refl
no_entering books (up_ends cause) i j e = refl

-- The step is the same.
step_same : (bases : Bases) (one : Picture) (T : List HistoryEntry) (h : Happening) (i : ℕ) (client : Client) (raw : PrivateEvent) → AreSame (books_in one) (books_of T) → client ≡ shared (books_of T) i (alone bases T i).client
    → step_in bases one h client raw ≡ step_by_books bases T i h raw
step_same bases one T h i client raw same is_client =
    ap (λ free. step bases (number_heard h) free client raw) (free_same (settled_by (books_in one) h) (settled_by (books_of T) h) (settled_same (books_in one) (books_of T) h same))
    ∙ ap (λ who. step bases (number_heard h) (free_in (settled_by (books_of T) h)) who raw) is_client

-- and so is what it hands out
outcome_same : (a b : Books) (h : Happening) (i : ℕ) (effect : Effect) → AreSame a b → outcome_by a h i effect ≡ outcome_by b h i effect
outcome_same a b h i effect same =
    ap (λ answer. record (outcome_by a h i effect) { to_up = record { answer = answer; message = option_map (raw_up (a.issued + 1) (free_in (settled_by a h))) effect.message } }) (answer_same a b h same)
    ∙ ap (λ number. record (outcome_by a h i effect) { to_up = record { answer = answer_due b h; message = option_map (raw_up (number + 1) (free_in (settled_by a h))) effect.message } }) same.issued
    ∙ ap (λ free. record (outcome_by a h i effect) { to_up = record { answer = answer_due b h; message = option_map (raw_up (b.issued + 1) free) effect.message } })
    (free_same (settled_by a h) (settled_by b h) (settled_same a b h same))

-- It is a turn as the law has it.
is_turn : (bases : Bases) (one : Picture) (T : List HistoryEntry) (h : Happening) (i : ℕ) (client : Client) (raw : PrivateEvent) → IsPictureOf bases one T → TakesTurn bases one h i client raw
    → (form : PrivateEvent) × IsItsTurn bases T i h form raw
is_turn bases one T h i client raw is comes =
    let same : AreSame (books_in one) (books_of T) = same_books bases one T is in
    let raw_is : raw_event (books_of T) h ≡ Some raw = sym (raw_same (books_in one) (books_of T) h same) ∙ comes.is_raw in
    let (form, has) = own_form (books_of T) i (client_alone bases T i).waiting h raw raw_is in (
      form,
      record {
        is_history = is.is_history;
        standing = is.standing;
        entered = (entered_in bases one T is i client comes.here).0;
        turns = sym (turn_same (books_in one) (books_of T) h same) ∙ comes.turns;
        is_own = has;
        is_raw = raw_is;
        said = sym (wrong_same bases one T is h) ∙ comes.said;
        left = ap (λ (number : ℕ). spent number (step_by_books bases T i h raw).message) (sym is.issued)
            ∙ ap (λ (effect : Effect). spent one.issued effect.message) (sym (step_same bases one T h i client raw same (entered_in bases one T is i client comes.here).1))
            ∙ comes.left;
      },
    )

-- The connections after it.
shared_when : (bases : Bases) (T : List HistoryEntry) (j : ℕ) (t : Bool) → entered j T ≡ t → shared_in bases j T ≡ option_map (λ (private : Private). shared (books_of T) j private.client) (cond t (Some (alone bases T j)) None)
shared_when bases T j t e = ap (λ one. option_map (λ (private : Private). shared (books_of T) j private.client) (cond one (Some (alone bases T j)) None)) e

entered_still : (T : List HistoryEntry) (e : HistoryEntry) (j : ℕ) → enters_here j e.happening ≡ false → entered j (e ∷ T) ≡ entered j T
entered_still T e j none = ap (λ t. (t && is_none (fault_in T)) || entered j T) none

other_client : (bases : Bases) (T : List HistoryEntry) (e : HistoryEntry) (j : ℕ) → enters_here j e.happening ≡ false → shared (books_of (e ∷ T)) j (client_alone bases (e ∷ T) j) ≡ shared (books_of T) j (client_alone bases T j)
    → shared_in bases j (e ∷ T) ≡ shared_in bases j T
other_client bases T e j none same = by (entered j T) refl
  where
    by : (t : Bool) → entered j T ≡ t → shared_in bases j (e ∷ T) ≡ shared_in bases j T
    by true en = shared_when bases (e ∷ T) j true (entered_still T e j none ∙ en) ∙ ap (λ client. Some client) same ∙ sym (shared_when bases T j true en)
    by false en = shared_when bases (e ∷ T) j false (entered_still T e j none ∙ en) ∙ sym (shared_when bases T j false en)

apart : (j i : ℕ) → (j == i) ≡ false → j ≢ i
apart j i e same = true_false (sym (ap (λ n. n == i) same ∙ own i) ∙ e)
  where
    true_false : true ≡ false → ⊥
    true_false e = cc

    own : (n : ℕ) → (n == n) ≡ true
    own n = eq-eqb n n refl

pub turn_follows : (bases : Bases) (one after : Picture) (T : List HistoryEntry) (h : Happening) (i : ℕ) (client : Client) (raw : PrivateEvent) → IsPictureOf bases one T → TakesTurn bases one h i client raw
    → IsAfterTurn bases one after h i client raw
    → (next bases T h ≡ outcome_by (books_in one) h i (step_in bases one h client raw)) × IsPictureOf bases after (record { happening = h; outcome = next bases T h } ∷ T)
turn_follows bases one after T h i client raw is comes now = (outcome, is_after)
  where
    same : AreSame (books_in one) (books_of T)
    same = same_books bases one T is

    enters : (entered i T ≡ true) × (client ≡ shared (books_of T) i (alone bases T i).client)
    enters = entered_in bases one T is i client comes.here

    law : IsSteppedBy bases T i h raw
    law = let (form, its) = is_turn bases one T h i client raw is comes in stepped bases T i h form raw its

    steps : step_in bases one h client raw ≡ step_by_books bases T i h raw
    steps = step_same bases one T h i client raw same enters.1

    outcome : next bases T h ≡ outcome_by (books_in one) h i (step_in bases one h client raw)
    outcome = law.outcome ∙ ap (outcome_by (books_of T) h i) (sym steps) ∙ sym (outcome_same (books_in one) (books_of T) h i (step_in bases one h client raw) same)

    books : AreSame (books_stepped one h i (step_in bases one h client raw)) (books_of (entry_next bases T h ∷ T))
    books = subst (λ (b : Books). AreSame (books_stepped one h i (step_in bases one h client raw)) b) (sym law.books)
        (subst (λ (effect : Effect). AreSame (books_stepped one h i (step_in bases one h client raw)) (lends_where (Some i) (kind_gone effect.message effect.client) (settled_by (books_of T) h))) steps
        (lends_same (settled_by (books_in one) h) (settled_by (books_of T) h) i (kind_gone (step_in bases one h client raw).message (step_in bases one h client raw).client)
        (settled_same (books_in one) (books_of T) h same)))

    none : (j : ℕ) → enters_here j h ≡ false
    none j = no_entering (books_in one) h i j comes.turns

    clients : (j : ℕ) (t : Bool) → (j == i) ≡ t → IsKeptUnlessGone (after.clients j) (shared_in bases j (entry_next bases T h ∷ T))
    clients j true e =
        kept_as
        (ap after.clients (eqb-true j i e) ∙ now.is_client ∙ ap (λ (effect : Effect). Some effect.client) steps ∙ ap (λ one. Some one) (sym law.client)
        ∙ sym (shared_when bases (entry_next bases T h ∷ T) i true (entered_still T (entry_next bases T h) i (none i) ∙ enters.0))
        ∙ ap (λ k. shared_in bases k (entry_next bases T h ∷ T)) (sym (eqb-true j i e)))
    clients j false e =
        let ne : j ≢ i = apart j i e in
        kept_along (now.others j ne) (is.clients j) (sym (other_client bases T (entry_next bases T h) j (none j) (law.others j ne)))

    is_after : IsPictureOf bases after (entry_next bases T h ∷ T)
    is_after = record {
      is_history = next_history bases T h is.is_history;
      standing = ap (λ was. option_or was (next bases T h).fault) is.standing ∙ ap (λ (out : Outcome). out.fault) outcome;
      clients = λ j. clients j (j == i) refl;
      asker = λ n. now.asker n ∙ ap (option_map (λ (opened : Opened). opened.conn)) (books.opened n);
      held = λ p. now.held p ∙ ap (option_map (bare_held p)) (books.held p);
      holder = λ id. now.holder id ∙ books.holder id;
      issued = now.issued ∙ books.issued;
    }
