-- The next entry follows a history, and no other one does.
use Rattle.std.proofs.Common.{◌≡◌, ℕ, Bool, true, cond, ◌&&◌, ◌==◌, List, [], ◌∷◌, ◌++◌, map, Option, None, Some, refl, sym, ◌∙◌, ap, subst, arith, false}
use Rattle.std.specs.Prelude.{is_some}
use Rattle.std.specs.Option.{option_or, option_to_list}
use Rattle.std.proofs.lemmas.List.{append_cancel_right}
use Rattle.std.proofs.lemmas.Bool.{eq-eqb, eqb-true}
use Rattle.rtsp_uri.specs.declared.base.Bases.{Bases}
use Rattle.client_machine.specs.declared.why.CloseWhy.{CloseWhy}
use Rattle.client_machine.specs.Alone.{hand, shut_alone, is_empty_list, private_after}
use Rattle.gateway_claim.specs.declared.event.Closed.{Closed}
use Rattle.gateway_claim.specs.declared.event.Closed.TheVariants.{Nobody, One, All}
use Rattle.gateway_claim.specs.declared.event.ToClient.{ToClient}
use Rattle.gateway_claim.specs.declared.event.UpCause.{UpCause}
use Rattle.gateway_claim.specs.Happenings.{HistoryEntry, fault_in, entered, pieces_to, closes_of, sent, shut, is_all, nothing_up, Happening, silent}
use Rattle.gateway_claim.specs.OwnEvents.{own, turn, is_turn, books_of, event_of}
use Rattle.gateway_claim.specs.Follows.{breach, up_due, Follows, IsHistory, event_in, effect_at, effect_of_turn, effect, client_piece, one_closed, outcome_with, next, history_of}
use Rattle.client_machine.specs.declared.why.CloseWhy.TheVariants as why
use Rattle.client_machine.specs.Events.{Effect, PrivateEvent}
use Rattle.client_machine.proofs.KeepLemmas.{IsOver, ends_shut, live_unclosed}
use Rattle.gateway_claim.specs.Books.{Books}
use Rattle.gateway_claim.proofs.CaseLemmas.{own_event, own_quiet, quiet_after, faults_over}

-- a history as a whole is one of the private machine for each connection
pub sent_as_alone : (bases : Bases) (T : List HistoryEntry) → IsHistory bases T → (i : ℕ) → sent i T ≡ hand bases (own bases i T)
sent_as_alone bases [] h i = refl
sent_as_alone bases (e ∷ T) h i = h.1.sent i

pub shut_as_alone : (bases : Bases) (T : List HistoryEntry) → IsHistory bases T → (i : ℕ) → shut i T ≡ shut_alone bases (own bases i T)
shut_as_alone bases [] h i = refl
shut_as_alone bases (e ∷ T) h i = h.1.shut i

-- a number equals itself
pub same_number : (n : ℕ) → (n == n) ≡ true
same_number n = eq-eqb n n refl

piece_kept : (n : ℕ) (bytes : List ℕ) → cond (n == n) (bytes ∷ []) [] ≡ bytes ∷ []
piece_kept n bytes = ap (λ b. cond b (bytes ∷ []) []) (same_number n)

close_kept : (n : ℕ) (why : CloseWhy) → cond (n == n) (why ∷ []) [] ≡ why ∷ []
close_kept n why = ap (λ b. cond b (why ∷ []) []) (same_number n)

-- what every connection is handed tells what was handed out
one_piece : (p q : Option ToClient) → ((i : ℕ) → pieces_to i p ≡ pieces_to i q) → p ≡ q
one_piece None None h = refl
one_piece None (Some q) h = let none : [] ≡ q.bytes ∷ [] = h q.conn ∙ piece_kept q.conn q.bytes in cc
one_piece (Some p) None h = let none : p.bytes ∷ [] ≡ [] = sym (piece_kept p.conn p.bytes) ∙ h p.conn in cc
one_piece (Some p) (Some q) h = ap (λ x. Some x) (grind (arith, (sym (piece_kept p.conn p.bytes) ∙ h p.conn)))

-- how every connection is closed, and whether all are, tells what was closed
one_close : (p q : Closed) (alive : ℕ → Bool) → is_all p ≡ is_all q → ((i : ℕ) → closes_of i (alive i) p ≡ closes_of i (alive i) q) → p ≡ q
one_close Nobody Nobody alive a h = refl
one_close Nobody (One j w) alive a h = let none : [] ≡ w ∷ [] = h j ∙ close_kept j w in cc
one_close Nobody All alive a h = cc
one_close (One i v) Nobody alive a h = let none : v ∷ [] ≡ [] = sym (close_kept i v) ∙ h i in cc
one_close (One i v) (One j w) alive a h = grind (arith, (sym (close_kept i v) ∙ h i))
one_close (One i v) All alive a h = cc
one_close All Nobody alive a h = cc
one_close All (One j w) alive a h = cc
one_close All All alive a h = refl

-- at most one entry with a given happening follows
pub one_next : (bases : Bases) (T : List HistoryEntry) (d e : HistoryEntry) → Follows bases T d → Follows bases T e → d.happening ≡ e.happening → d ≡ e
one_next bases T d e fd fe same =
    let faults : d.outcome.fault ≡ e.outcome.fault = fd.fault ∙ ap (breach bases T) same ∙ sym fe.fault in
    let owns : (i : ℕ) → own bases i (d ∷ T) ≡ own bases i (e ∷ T) = λ i. grind arith in
    let pieces : d.outcome.to_client ≡ e.outcome.to_client = one_piece d.outcome.to_client e.outcome.to_client
    (λ i. append_cancel_right _ _ (sent i T) (fd.sent i ∙ ap (hand bases) (owns i) ∙ sym (fe.sent i))) in
    let closes : d.outcome.closed ≡ e.outcome.closed = one_close d.outcome.closed e.outcome.closed (λ i. entered i T && is_empty_list (shut i T))
    (fd.all ∙ ap is_some faults ∙ sym fe.all)
    (λ i. append_cancel_right _ _ (shut i T) (fd.shut i ∙ ap (shut_alone bases) (owns i) ∙ sym (fe.shut i))) in
    let ups : d.outcome.to_up ≡ e.outcome.to_up =
    fd.spelled
    ∙ ap (λ (f : Option UpCause). cond (is_some (option_or (fault_in T) f)) nothing_up (up_due bases T d.happening)) faults
    ∙ ap (λ h. cond (is_some (fault_in (e ∷ T))) nothing_up (up_due bases T h)) same
    ∙ sym fe.spelled in
    grind arith

-- what happens to a connection that is over, or took no part, changes nothing
quiet_alone : (bases : Bases) (en : Bool) (event : Option PrivateEvent) (events : List PrivateEvent) → (en ≡ true → IsOver bases events)
    → (hand bases (option_to_list (cond en event None) ++ events) ≡ hand bases events) × (shut_alone bases (option_to_list (cond en event None) ++ events) ≡ shut_alone bases events)
quiet_alone bases en event events over = grind arith

-- After the end of the connection to the server an entry that hands out nothing follows.
silent_follows : (bases : Bases) (T : List HistoryEntry) (h : Happening) (cause : UpCause) → IsHistory bases T → fault_in T ≡ Some cause → Follows bases T (record { happening = h; outcome = silent })
silent_follows bases T h cause history ended =
    let e : HistoryEntry = record { happening = h; outcome = silent } in
    let quiet = λ (i : ℕ). quiet_alone bases (entered i T) (cond (is_turn i (turn (books_of T) h)) (own_event bases T i h) None) (own bases i T) (faults_over bases T history cause ended i) in
    record {
      sent = λ i. sent_as_alone bases T history i ∙ sym (ap (hand bases) (own_quiet bases T e i refl) ∙ (quiet i).0);
      shut = λ i. shut_as_alone bases T history i ∙ sym (ap (shut_alone bases) (own_quiet bases T e i refl) ∙ (quiet i).1);
      spelled = sym (ap (λ (f : Option UpCause). cond (is_some (option_or f None)) nothing_up (up_due bases T h)) ended);
      fault = sym (quiet_after bases T h cause ended);
      all = refl;
    }

-- what the machine does at the event of a connection that took part, or not
abbrev machine_does : Bases → Books → ℕ → Bool → List PrivateEvent → Happening → Effect
machine_does bases books i en events h = effect_at bases (cond en (Some (private_after bases events)) None) (event_in books i (cond en (Some (private_after bases events)) None) h)

-- What the connection whose turn it is, and another one, is handed then, and how it is closed.
event_alone : (bases : Bases) (i : ℕ) (alive : Bool) (event : Option PrivateEvent) (events : List PrivateEvent)
    → (pieces_to i (client_piece (Some i) (effect_at bases (Some (private_after bases events)) event).hand) ++ hand bases events ≡ hand bases (option_to_list event ++ events))
    × (closes_of i alive (one_closed (Some i) (effect_at bases (Some (private_after bases events)) event).close) ++ shut_alone bases events ≡ shut_alone bases (option_to_list event ++ events))
event_alone bases i alive event events = grind (arith, same_number)

turn_alone : (bases : Bases) (books : Books) (i : ℕ) (alive en : Bool) (events : List PrivateEvent) (h : Happening)
    → (pieces_to i (client_piece (Some i) (machine_does bases books i en events h).hand) ++ hand bases events
    ≡ hand bases (cond en (option_to_list (event_of books i (private_after bases events).client.waiting h)) [] ++ events))
    × (closes_of i alive (one_closed (Some i) (machine_does bases books i en events h).close) ++ shut_alone bases events
    ≡ shut_alone bases (cond en (option_to_list (event_of books i (private_after bases events).client.waiting h)) [] ++ events))
turn_alone bases books i alive true events h = event_alone bases i alive (event_of books i (private_after bases events).client.waiting h) events
turn_alone bases books i alive false events h = (refl, refl)

-- What each connection is handed, and how it is closed, at an entry without a fault.
IsGiven : Bases → List HistoryEntry → Happening → ℕ → Option ℕ → Type 0
IsGiven bases T h i turn = (pieces_to i (client_piece turn (effect_of_turn bases T turn h).hand) ++ sent i T
    ≡ hand bases (cond (entered i T) (cond (is_turn i turn) (option_to_list (own_event bases T i h)) []) [] ++ own bases i T))
    × (closes_of i (entered i T && is_empty_list (shut i T)) (one_closed turn (effect_of_turn bases T turn h).close) ++ shut i T
    ≡ shut_alone bases (cond (entered i T) (cond (is_turn i turn) (option_to_list (own_event bases T i h)) []) [] ++ own bases i T))

given_turn : (bases : Bases) (T : List HistoryEntry) (h : Happening) (i : ℕ) → IsHistory bases T → IsGiven bases T h i (Some i)
unfolding IsGiven
given_turn bases T h i history =
    let now = turn_alone bases (books_of T) i (entered i T && is_empty_list (shut i T)) (entered i T) (own bases i T) h in
    (grind (arith, sent_as_alone, now.0, same_number), grind (arith, shut_as_alone, now.1, same_number))

is_given : (bases : Bases) (T : List HistoryEntry) (h : Happening) (i : ℕ) (turn : Option ℕ) → IsHistory bases T → IsGiven bases T h i turn
unfolding IsGiven
is_given bases T h i None history = grind (arith, sent_as_alone, shut_as_alone)
is_given bases T h i (Some j) history = by (j == i) refl
  where
    by : (here : Bool) → (j == i) ≡ here → IsGiven bases T h i (Some j)
    by true e = subst (λ (k : ℕ). IsGiven bases T h i (Some k)) (sym (eqb-true j i e)) (given_turn bases T h i history)
    by false e = grind (arith, sent_as_alone, shut_as_alone)

-- The entry of the machine whose turn it is follows, or that of what is wrong.
judged_follows : (bases : Bases) (T : List HistoryEntry) (h : Happening) (wrong : Option UpCause) → IsHistory bases T → fault_in T ≡ None → breach bases T h ≡ wrong →
    Follows bases T (record { happening = h; outcome = outcome_with wrong (turn (books_of T) h) (up_due bases T h) (effect bases T h) })
unfolding IsGiven
judged_follows bases T h None history standing right = record {
  sent = λ i. (is_given bases T h i (turn (books_of T) h) history).0;
  shut = λ i. (is_given bases T h i (turn (books_of T) h) history).1;
  spelled = sym (ap (λ (f : Option UpCause). cond (is_some (option_or f None)) nothing_up (up_due bases T h)) standing);
  fault = sym right;
  all = grind arith;
}
judged_follows bases T h (Some cause) history standing wrong = grind (arith, sent_as_alone, ends_shut, live_unclosed, shut_as_alone)

next_by : (bases : Bases) (T : List HistoryEntry) (h : Happening) (ended : Option UpCause) → IsHistory bases T → fault_in T ≡ ended →
    Follows bases T (record { happening = h; outcome = cond (is_some ended) silent (outcome_with (breach bases T h) (turn (books_of T) h) (up_due bases T h) (effect bases T h)) })
next_by bases T h (Some cause) history e = silent_follows bases T h cause history e
next_by bases T h None history e = judged_follows bases T h (breach bases T h) history e refl

-- What is computed as the next entry follows.
pub next_follows : (bases : Bases) (T : List HistoryEntry) (h : Happening) → IsHistory bases T → Follows bases T (record { happening = h; outcome = next bases T h })
next_follows bases T h history = next_by bases T h (fault_in T) history refl

-- The history that is computed is one, it tells all that happens, and there is no other.
pub history_is : (bases : Bases) (happenings : List Happening) → IsHistory bases (history_of bases happenings)
history_is bases [] = tt
history_is bases (happening ∷ earlier) = (history_is bases earlier, next_follows bases (history_of bases earlier) happening (history_is bases earlier))

pub history_tells : (bases : Bases) (happenings : List Happening) → map (λ (e : HistoryEntry). e.happening) (history_of bases happenings) ≡ happenings
history_tells bases [] = refl
history_tells bases (happening ∷ earlier) = ap (λ (l : List Happening). happening ∷ l) (history_tells bases earlier)
