-- Where nothing comes of an event, the next entry of the history hands out the answer to the server alone, and what the
-- multiplexer has is what that longer history has.
use Rattle.std.proofs.Common.{◌≡◌, ◌≢◌, ◌∙◌, ℕ, ◌==◌, ◌&&◌, ◌||◌, Bool, true, false, cond, List, ◌∷◌, Option, Some, None, refl, sym, ap, subst}
use Rattle.std.specs.Prelude.{is_some, is_none}
use Rattle.std.specs.Option.{option_map, option_or}
use Rattle.std.proofs.lemmas.Bool.{eq-eqb, eqb-true}
use Rattle.rtsp_uri.specs.declared.base.Bases.{Bases}
use Rattle.client_slot.specs.Client.{Client}
use Rattle.client_machine.specs.Alone.{Private, new_private}
use Rattle.client_machine.specs.Events.{Effect, stays, PrivateEvent}
use Rattle.client_machine.specs.Step.{hear, idles, heard_step}
use Rattle.gateway_claim.specs.declared.event.Outcome.{Outcome}
use Rattle.gateway_claim.specs.declared.event.UpCause.{UpCause}
use Rattle.gateway_claim.specs.Books.{Opened, Books, settles, free_in}
use Rattle.gateway_claim.specs.Happenings.{Happening, HistoryEntry, fault_in, enters_here, entered, silent}
use Rattle.gateway_claim.specs.OwnEvents.{turn, final_in, settled_by, lends_where, has_shut, books_of, own}
use Rattle.gateway_claim.specs.Follows.{event_in, effect_at, effect_of_turn, said_breach, spent, effect, breach, answer_due, message_due, up_due, IsHistory, outcome_with, next}
use Rattle.gateway_claim.specs.Turns.{shared, shared_in, raw_event, number_heard, kind_gone, outcome_by, IsSteppedBy}
use Rattle.gateway_claim.proofs.AgreeLemmas.{joined, books_with, books_next, alone_with, event_for, alone_next, alone}
use Rattle.gateway_claim.proofs.CaseLemmas.{nobody_settles, own_event, breach_standing}
use Rattle.gateway_claim.proofs.TurnLawLemmas.{stepped, raw_step_of, entry_next, next_history}
use Rattle.gateway_mux.specs.Pictures.{Picture, bare_held, books_in, IsPictureOf}
use Rattle.gateway_mux.specs.Moves.{IsIdleAt, IsIdleTurn, IsIdle, answering}
use Rattle.gateway_mux.proofs.BooksLemmas.{AreSame, turn_same, raw_same, final_same, answer_same}
use Rattle.connection_table.specs.Over.{is_over}
use Rattle.gateway_mux.proofs.OverLemmas.{kept_along}
use Rattle.gateway_mux.proofs.PictureLemmas.{entered_in, over_in, same_books, wrong_same}
use Rattle.gateway_mux.proofs.QuietLemmas.{over_hears}
use Rattle.gateway_mux.proofs.EndLemmas.{own_comes}

-- The next entry hands out the answer alone, and leaves the books and every connection as they were.
pub record IsStill (bases : Bases) (T : List HistoryEntry) (h : Happening) : Type 0 where
  pub outcome : next bases T h ≡ answering (answer_due (books_of T) h)
  pub books : books_of (entry_next bases T h ∷ T) ≡ books_of T
  pub clients : (i : ℕ) → shared (books_of (entry_next bases T h ∷ T)) i (alone bases (entry_next bases T h ∷ T) i).client ≡ shared (books_of T) i (alone bases T i).client

-- Nothing goes up, and nothing is lent.
nothing_out : (books settled : Books) (who : Option ℕ) (answer : Option (List ℕ)) → outcome_with None who (record { answer = answer; message = message_due books settled who None }) (stays new_private.client) ≡ answering answer
nothing_out books settled None answer = refl
nothing_out books settled (Some i) answer = refl

nothing_lent : (books : Books) (h : Happening) (who : Option ℕ) (shut : Bool) → books_with books h who None shut ≡ settled_by books h
nothing_lent books h None shut = refl
nothing_lent books h (Some i) shut = refl

-- No connection makes a step.
no_step : (bases : Bases) (T : List HistoryEntry) (h : Happening) → IsHistory bases T → fault_in T ≡ None → said_breach bases T h ≡ None → final_in (books_of T) h ≡ None → effect bases T h ≡ stays new_private.client
    → ((j : ℕ) → event_for bases T h (turn (books_of T) h) j ≡ None) → IsStill bases T h
no_step bases T h history standing said settles_none made quiet =
    let wrong : breach bases T h ≡ None =
    breach_standing bases T h standing
    ∙ ap (λ one. option_or one (spent (books_of T).issued (effect bases T h).message)) said
    ∙ ap (λ (done : Effect). spent (books_of T).issued done.message) made in
    let out : next bases T h ≡ answering (answer_due (books_of T) h) =
    ap (λ (f : Option UpCause). cond (is_some f) silent (outcome_with (breach bases T h) (turn (books_of T) h) (up_due bases T h) (effect bases T h))) standing
    ∙ ap (λ one. outcome_with one (turn (books_of T) h) (up_due bases T h) (effect bases T h)) wrong
    ∙ ap (λ (done : Effect). outcome_with None (turn (books_of T) h) (record { answer = answer_due (books_of T) h; message = message_due (books_of T) (settled_by (books_of T) h) (turn (books_of T) h) done.message }) done) made
    ∙ nothing_out (books_of T) (settled_by (books_of T) h) (turn (books_of T) h) (answer_due (books_of T) h) in
    let stands : fault_in (entry_next bases T h ∷ T) ≡ None = ap (λ was. option_or was (next bases T h).fault) standing ∙ ap (λ (one : Outcome). one.fault) out in
    let same : books_of (entry_next bases T h ∷ T) ≡ books_of T =
    books_next bases T (entry_next bases T h) (next_history bases T h history).1 stands
    ∙ ap (λ (done : Effect). books_with (books_of T) h (turn (books_of T) h) done.message (has_shut (turn (books_of T) h) (entry_next bases T h ∷ T))) made
    ∙ nothing_lent (books_of T) h (turn (books_of T) h) (has_shut (turn (books_of T) h) (entry_next bases T h ∷ T))
    ∙ ap (λ final. settles final (books_of T)) settles_none in
    record {
      outcome = out;
      books = same;
      clients = λ j. ap (λ (b : Books). shared b j (alone bases (entry_next bases T h ∷ T) j).client) same
          ∙ ap (λ (p : Private). shared (books_of T) j p.client) (alone_next bases T (entry_next bases T h) j stands ∙ ap (alone_with bases (own bases j T)) (quiet j));
    }

no_event : (t : Bool) → cond {A = Option PrivateEvent} t None None ≡ None
no_event true = refl
no_event false = refl

-- It is nobody's turn.
pub still_nobody : (bases : Bases) (T : List HistoryEntry) (h : Happening) → IsHistory bases T → fault_in T ≡ None → said_breach bases T h ≡ None → turn (books_of T) h ≡ None → IsStill bases T h
still_nobody bases T h history standing said turns =
    no_step bases T h history standing said (nobody_settles (books_of T) h turns) (ap (λ who. effect_of_turn bases T who h) turns)
    (λ j. ap (λ who. event_for bases T h who j) turns ∙ no_event (entered j T))

-- It is the turn of a connection that never entered.
still_absent : (bases : Bases) (T : List HistoryEntry) (h : Happening) (i : ℕ) → IsHistory bases T → fault_in T ≡ None → said_breach bases T h ≡ None → final_in (books_of T) h ≡ None → turn (books_of T) h ≡ Some i → entered i T ≡ false → IsStill bases T h
still_absent bases T h i history standing said settles_none turns absent =
    no_step bases T h history standing said settles_none
    (ap (λ who. effect_of_turn bases T who h) turns ∙ ap (λ t. effect_at bases (cond t (Some (alone bases T i)) None) (event_in (books_of T) i (cond t (Some (alone bases T i)) None) h)) absent)
    (λ j. ap (λ who. event_for bases T h who j) turns ∙ by j (i == j) refl)
  where
    by : (j : ℕ) (t : Bool) → (i == j) ≡ t → cond (entered j T) (cond (i == j) (own_event bases T j h) None) None ≡ None
    by j true e = ap (λ en. cond en (cond (i == j) (own_event bases T j h) None) None) (ap (λ k. entered k T) (sym (eqb-true i j e)) ∙ absent)
    by j false e = ap (λ t. cond (entered j T) (cond t (own_event bases T j h) None) None) e ∙ no_event (entered j T)

-- It is the turn of a connection that entered and hears nothing: the law of a turn tells what is after it.
still_heard : (bases : Bases) (T : List HistoryEntry) (h : Happening) (i : ℕ) (raw : PrivateEvent) → IsHistory bases T → fault_in T ≡ None → said_breach bases T h ≡ None → final_in (books_of T) h ≡ None → turn (books_of T) h ≡ Some i → entered i T ≡ true
    → raw_event (books_of T) h ≡ Some raw → hear bases (number_heard h) (shared (books_of T) i (alone bases T i).client) raw ≡ idles (shared (books_of T) i (alone bases T i).client) → IsStill bases T h
still_heard bases T h i raw history standing said settles_none turns en is_raw idle =
    let comes = own_comes bases T i h raw is_raw in
    let made : raw_step_of bases T i h raw ≡ stays (shared (books_of T) i (alone bases T i).client) = ap (heard_step bases (free_in (settled_by (books_of T) h))) idle in
    let law : IsSteppedBy bases T i h raw = stepped bases T i h comes.0 raw (record {
      is_history = history;
      standing = standing;
      entered = en;
      turns = turns;
      is_own = comes.1;
      is_raw = is_raw;
      said = said;
      left = ap (λ (done : Effect). spent (books_of T).issued done.message) made;
    }) in
    let same : books_of (entry_next bases T h ∷ T) ≡ books_of T =
    law.books
    ∙ ap (λ (done : Effect). lends_where (Some i) (kind_gone done.message done.client) (settled_by (books_of T) h)) made
    ∙ ap (λ final. settles final (books_of T)) settles_none in
    record {
      outcome = law.outcome ∙ ap (λ (done : Effect). outcome_by (books_of T) h i done) made;
      books = same;
      clients = λ j. by (law.client ∙ ap (λ (done : Effect). done.client) made) law.others j (i == j) refl;
    }
  where
    true_is_false : true ≡ false → ⊥
    true_is_false e = cc

    by : shared (books_of (entry_next bases T h ∷ T)) i (alone bases (entry_next bases T h ∷ T) i).client ≡ shared (books_of T) i (alone bases T i).client
        → ((j : ℕ) → j ≢ i → shared (books_of (entry_next bases T h ∷ T)) j (alone bases (entry_next bases T h ∷ T) j).client ≡ shared (books_of T) j (alone bases T j).client)
        → (j : ℕ) (t : Bool) → (i == j) ≡ t → shared (books_of (entry_next bases T h ∷ T)) j (alone bases (entry_next bases T h ∷ T) j).client ≡ shared (books_of T) j (alone bases T j).client
    by here others j true e =
        subst (λ (k : ℕ). shared (books_of (entry_next bases T h ∷ T)) k (alone bases (entry_next bases T h ∷ T) k).client ≡ shared (books_of T) k (alone bases T k).client) (eqb-true i j e) here
    by here others j false e = others j (λ is. true_is_false (sym (eq-eqb i j (sym is)) ∙ e))

-- It is the turn of a connection that never entered, or is over.
still_gone : (bases : Bases) (T : List HistoryEntry) (h : Happening) (i : ℕ) → IsHistory bases T → fault_in T ≡ None → said_breach bases T h ≡ None → final_in (books_of T) h ≡ None → turn (books_of T) h ≡ Some i
    → (entered i T ≡ true → is_over (shared (books_of T) i (alone bases T i).client) ≡ true) → IsStill bases T h
still_gone bases T h i history standing said settles_none turns over = by (entered i T) refl
  where
    by : (t : Bool) → entered i T ≡ t → IsStill bases T h
    by true en =
        let hears = over_hears bases T h i (joined bases T history standing) (over en) turns in
        still_heard bases T h i hears.raw history standing said settles_none turns en hears.is_raw hears.idle
    by false absent = still_absent bases T h i history standing said settles_none turns absent

-- What the multiplexer has is what the longer history has.
same_client : (bases : Bases) (T : List HistoryEntry) (e : HistoryEntry) (i : ℕ) (t : Bool) → shared (books_of (e ∷ T)) i (alone bases (e ∷ T) i).client ≡ shared (books_of T) i (alone bases T i).client
    → option_map (λ (p : Private). shared (books_of (e ∷ T)) i p.client) (cond t (Some (alone bases (e ∷ T) i)) None) ≡ option_map (λ (p : Private). shared (books_of T) i p.client) (cond t (Some (alone bases T i)) None)
same_client bases T e i true same = ap (λ (one : Client). Some one) same
same_client bases T e i false same = refl

pub shared_still : (bases : Bases) (T : List HistoryEntry) (h : Happening) (i : ℕ) → IsStill bases T h → entered i (entry_next bases T h ∷ T) ≡ entered i T → shared_in bases i (entry_next bases T h ∷ T) ≡ shared_in bases i T
shared_still bases T h i still en =
    ap (λ t. option_map (λ (p : Private). shared (books_of (entry_next bases T h ∷ T)) i p.client) (cond t (Some (alone bases (entry_next bases T h ∷ T) i)) None)) en
    ∙ same_client bases T (entry_next bases T h) i (entered i T) (still.clients i)

pub stands_still : (bases : Bases) (T : List HistoryEntry) (h : Happening) → fault_in T ≡ None → IsStill bases T h → fault_in (entry_next bases T h ∷ T) ≡ None
stands_still bases T h standing still = ap (λ was. option_or was (next bases T h).fault) standing ∙ ap (λ (out : Outcome). out.fault) still.outcome

same_picture : (bases : Bases) (one : Picture) (T : List HistoryEntry) (h : Happening) → IsPictureOf bases one T → ((i : ℕ) → enters_here i h ≡ false) → IsStill bases T h → IsPictureOf bases one (entry_next bases T h ∷ T)
same_picture bases one T h is nobody still = record {
  is_history = next_history bases T h is.is_history;
  standing = stands_still bases T h is.standing still;
  clients = λ i. kept_along refl (is.clients i) (sym (shared_still bases T h i still (ap (λ t. (t && is_none (fault_in T)) || entered i T) (nobody i))));
  asker = λ number. is.asker number ∙ ap (λ (b : Books). option_map (λ (opened : Opened). opened.conn) (b.opened number)) (sym still.books);
  held = λ pair. is.held pair ∙ ap (λ (b : Books). option_map (bare_held pair) (b.held pair)) (sym still.books);
  holder = λ id. is.holder id ∙ ap (λ (b : Books). b.holder id) (sym still.books);
  issued = is.issued ∙ ap (λ (b : Books). b.issued) (sym still.books);
}

-- Whose turn it is, and whether the connection entered.
still_at : (bases : Bases) (one : Picture) (T : List HistoryEntry) (h : Happening) (answer : Option (List ℕ)) (i : ℕ) (client : Option Client) → IsPictureOf bases one T → IsIdle bases one h answer → turn (books_in one) h ≡ Some i → one.clients i ≡ client → IsIdleAt bases one h client
    → IsStill bases T h
still_at bases one T h answer i None is idle turns here at =
    let same : AreSame (books_in one) (books_of T) = same_books bases one T is in
    still_gone bases T h i is.is_history is.standing (sym (wrong_same bases one T is h) ∙ idle.said) (sym (final_same (books_in one) (books_of T) h same) ∙ idle.settles)
    (sym (turn_same (books_in one) (books_of T) h same) ∙ turns) (λ en. over_in bases one T is i here en)
still_at bases one T h answer i (Some client) is idle turns here at =
    let same : AreSame (books_in one) (books_of T) = same_books bases one T is in
    let there = entered_in bases one T is i client here in
    still_heard bases T h i at.raw is.is_history is.standing (sym (wrong_same bases one T is h) ∙ idle.said) (sym (final_same (books_in one) (books_of T) h same) ∙ idle.settles)
    (sym (turn_same (books_in one) (books_of T) h same) ∙ turns) there.0 (sym (raw_same (books_in one) (books_of T) h same) ∙ at.is_raw)
    (subst (λ (now : Client). hear bases (number_heard h) now at.raw ≡ idles now) there.1 at.idle)

still_by : (bases : Bases) (one : Picture) (T : List HistoryEntry) (h : Happening) (answer : Option (List ℕ)) (who : Option ℕ) → IsPictureOf bases one T → IsIdle bases one h answer → turn (books_in one) h ≡ who → IsIdleTurn bases one h who → IsStill bases T h
still_by bases one T h answer None is idle turns at =
    still_nobody bases T h is.is_history is.standing (sym (wrong_same bases one T is h) ∙ idle.said) (sym (turn_same (books_in one) (books_of T) h (same_books bases one T is)) ∙ turns)
still_by bases one T h answer (Some i) is idle turns at = still_at bases one T h answer i (one.clients i) is idle turns refl at

pub idle_follows : (bases : Bases) (one : Picture) (T : List HistoryEntry) (h : Happening) (answer : Option (List ℕ)) → IsPictureOf bases one T → ((i : ℕ) → enters_here i h ≡ false) → IsIdle bases one h answer
    → (next bases T h ≡ answering answer) × IsPictureOf bases one (record { happening = h; outcome = answering answer } ∷ T)
idle_follows bases one T h answer is nobody idle =
    let still : IsStill bases T h = still_by bases one T h answer (turn (books_in one) h) is idle refl idle.idle in
    let out : next bases T h ≡ answering answer = still.outcome ∙ ap answering (sym (idle.answers ∙ answer_same (books_in one) (books_of T) h (same_books bases one T is))) in (
      out,
      subst (λ (one_out : Outcome). IsPictureOf bases one (record { happening = h; outcome = one_out } ∷ T)) out (same_picture bases one T h is nobody still),
    )
