-- The gateway of one player hands out, event by event, what its history hands out.
use Rattle.std.proofs.Common.{◌≡◌, ◌∙◌, ℕ, ◌+◌, ◌==◌, ◌&&◌, ◌||◌, Bool, true, false, cond, List, [], ◌∷◌, Option, Some, None, refl, sym, ap, subst, arith}
use Rattle.std.specs.Prelude.{is_none, is_some, not, unwrap_or}
use Rattle.std.specs.Option.{option_and_then, option_map, option_or}
use Rattle.std.proofs.lemmas.Bool.{eq-eqb, eqb-true}
use Rattle.rtsp_uri.specs.declared.base.Bases.{Bases}
use Rattle.head_two.specs.declared.reply.Reply2.{Reply2}
use Rattle.client_slot.specs.Client.{Client}
use Rattle.client_machine.specs.Alone.{Private, new_private, private_after}
use Rattle.client_machine.specs.declared.why.CloseWhy.{CloseWhy}
use Rattle.client_machine.specs.Events.{Effect, Outgoing, PrivateEvent}
use Rattle.client_machine.proofs.SeenTreatLemmas.{same_function}
use Rattle.gateway_claim.specs.declared.event.Outcome.{Outcome}
use Rattle.gateway_claim.specs.declared.event.ToUp.{ToUp}
use Rattle.gateway_claim.specs.declared.event.UpCause.{UpCause}
use Rattle.gateway_claim.specs.declared.event.UpCause.TheVariants.{BadGrant, SessionTaken}
use Rattle.gateway_claim.specs.declared.event.UpMessage.{UpMessage}
use Rattle.gateway_claim.specs.declared.event.UpMessage.TheVariants.{Request, Frame}
use Rattle.session_one.specs.Table.{is_success}
use Rattle.gateway_claim.specs.Books.{RequestKind, sets_up, tears_down, closes, plain, setup_kind, teardown_kind, is_setup_text, is_teardown_text, id_in_text, id_said, kind_of, Opened, Books, pair_asked, free_in}
use Rattle.gateway_claim.specs.Follows.{IsHistory, Follows, client_piece, message_up, one_closed, event_in, is_granted, answer_due, breach, effect, effect_at, effect_of_turn, heard_breach, kind_breach, message_due, message_with, next, outcome_with, private_in, reply_breach, said_breach, session_asked, session_of_private, spent, up_due}
use Rattle.gateway_claim.specs.Happenings.{Happening, enters, takes, ends, lags, hears, up_ends, HistoryEntry, entered, enters_here, fault_in, shut, silent}
use Rattle.gateway_claim.specs.OnePlayer.{IsOnlyPlayer}
use Rattle.gateway_claim.specs.OwnEvents.{books_of, event_of, has_shut, is_turn, lends_where, own, settled_by, turn}
use Rattle.gateway_claim.specs.ServerItems.{Heard, replies, requests, frames, faults, heard}
use Rattle.gateway_claim.proofs.AgreeLemmas.{alone, alone_next, alone_with, books_next, books_with, effect_present, event_for}
use Rattle.gateway_claim.proofs.AskLemmas.{never_part}
use Rattle.gateway_claim.proofs.CaseLemmas.{both_none, breach_standing, own_absent, own_event}
use Rattle.gateway_claim.proofs.NextLemmas.{same_number}
use Rattle.lone_records.specs.LoneGateway.{LoneGateway, books_alone, own_books, does_alone, event_alone, fault_alone, goes_up_alone, handed_alone, heard_fault, lone_next, outcome_alone, pair_gone, pair_left, pairs_then, player_then, reply_fault, said_fault}
use Rattle.lone_records.proofs.AlikeLemmas.{AreAlikeFor, same_turn, same_event, same_free, same_answer}
use Rattle.lone_records.proofs.OwnBookLemmas.{true_false, torn_asks}
use Rattle.lone_records.proofs.BookLemmas.{IsLone, lone_books, alike_alone}

-- the gateway as a history has it
abbrev pub lone_in : Bases → ℕ → List HistoryEntry → LoneGateway
lone_in bases i T = record { entered = entered i T; player = alone bases T i; pairs = (books_of T).pair_of i; fault = fault_in T }

-- a gateway by its parts
abbrev lone_of : Bool → Private → (ℕ → ℕ) → Option UpCause → LoneGateway
lone_of a p f v = record { entered = a; player = p; pairs = f; fault = v }

four_same : (a b : Bool) (p q : Private) (f g : ℕ → ℕ) (v w : Option UpCause) → a ≡ b → p ≡ q → f ≡ g → v ≡ w
    → ◌≡◌ {A = LoneGateway} (record { entered = a; player = p; pairs = f; fault = v }) (record { entered = b; player = q; pairs = g; fault = w })
four_same a b p q f g v w one two three four =
    ap (λ (x : Bool). lone_of x p f v) one ∙ ap (λ (x : Private). lone_of b x f v) two ∙ ap (λ (x : ℕ → ℕ). lone_of b q x v) three ∙ ap (λ (x : Option UpCause). lone_of b q g x) four

-- Two effects that hand out the same.
record HandSame (one other : Effect) : Type 0 where
  hand : one.hand ≡ other.hand
  message : one.message ≡ other.message
  close : one.close ≡ other.close

module _ (bases : Bases) (T : List HistoryEntry) (i : ℕ) (h : Happening) (history : IsHistory bases T) (only : IsOnlyPlayer i T) (standing : fault_in T ≡ None) where
  is_lone : IsLone (books_of T) i (alone bases T i)
  is_lone = lone_books bases T i history only standing

  alike : AreAlikeFor i (books_of T) (books_alone i (alone bases T i) ((books_of T).pair_of i))
  alike = alike_alone (books_of T) i (alone bases T i) is_lone

  turns : turn (books_of T) h ≡ turn (own_books i (lone_in bases i T)) h
  turns = same_turn i (books_of T) (books_alone i (alone bases T i) ((books_of T).pair_of i)) alike h

  turn_event : (who : Option ℕ) → turn (books_of T) h ≡ who → cond (is_turn i who) (event_of (own_books i (lone_in bases i T)) i (alone bases T i).client.waiting h) None ≡ cond (is_turn i who) (own_event bases T i h) None
  turn_event None e = refl
  turn_event (Some j) e = by (j == i) refl
    where
      by : (t : Bool) → (j == i) ≡ t → cond t (event_of (own_books i (lone_in bases i T)) i (alone bases T i).client.waiting h) None ≡ cond t (own_event bases T i h) None
      by true same = sym (same_event i (books_of T) (books_alone i (alone bases T i) ((books_of T).pair_of i)) alike h (alone bases T i).client.waiting (e ∙ ap (λ n. Some n) (eqb-true j i same)))
      by false same = refl

  both_cond : (en here : Bool) (event : Option PrivateEvent) → cond (en && here) event None ≡ cond en (cond here event None) None
  both_cond en here event = grind arith

  -- the event of the player
  event_is : event_alone i (lone_in bases i T) h ≡ event_for bases T h (turn (books_of T) h) i
  event_is =
      both_cond (entered i T) (is_turn i (turn (own_books i (lone_in bases i T)) h)) (event_of (own_books i (lone_in bases i T)) i (alone bases T i).client.waiting h)
      ∙ ap (λ (who : Option ℕ). cond (entered i T) (cond (is_turn i who) (event_of (own_books i (lone_in bases i T)) i (alone bases T i).client.waiting h) None) None) (sym turns)
      ∙ ap (λ (event : Option PrivateEvent). cond (entered i T) event None) (turn_event (turn (books_of T) h) refl)

  quiet : (client : Client) → HandSame (record { client = (alone bases T i).client; hand = []; message = None; close = None }) (record { client = client; hand = []; message = None; close = None })
  quiet client = record { hand = refl; message = refl; close = refl }

  absent_does : (j : ℕ) → entered j T ≡ false → effect_of_turn bases T (Some j) h ≡ record { client = new_private.client; hand = []; message = None; close = None }
  absent_does j absent = ap (λ t. effect_at bases (cond t (Some (alone bases T j)) None) (event_in (books_of T) j (cond t (Some (alone bases T j)) None) h)) absent

  does_by : (who : Option ℕ) → turn (books_of T) h ≡ who → HandSame (effect_at bases (Some (alone bases T i)) (event_for bases T h who i)) (effect_of_turn bases T who h)
  does_by None e = by (entered i T)
    where
      by : (en : Bool) → HandSame (effect_at bases (Some (alone bases T i)) (cond en None None)) (effect_of_turn bases T None h)
      by true = quiet new_private.client
      by false = quiet new_private.client
  does_by (Some j) e = by (j == i) refl (entered i T) refl
    where
      by : (t : Bool) → (j == i) ≡ t → (en : Bool) → entered i T ≡ en → HandSame (effect_at bases (Some (alone bases T i)) (cond en (cond t (own_event bases T i h) None) None)) (effect_of_turn bases T (Some j) h)
      by true same true en =
          subst (λ (k : ℕ). HandSame (effect_at bases (Some (alone bases T i)) (own_event bases T i h)) (effect_of_turn bases T (Some k) h)) (sym (eqb-true j i same))
          (subst (λ (done : Effect). HandSame (effect_at bases (Some (alone bases T i)) (own_event bases T i h)) done) (sym (effect_present bases T h i (own_event bases T i h) en refl)) (record { hand = refl; message = refl; close = refl }))
      by true same false en = subst (HandSame (effect_at bases (Some (alone bases T i)) None)) (sym (absent_does j (ap (λ k. entered k T) (eqb-true j i same) ∙ en))) (quiet new_private.client)
      by false same true en = subst (HandSame (effect_at bases (Some (alone bases T i)) None)) (sym (absent_does j (never_part T j (only j (λ is. true_false (sym (eq-eqb j i is) ∙ same)))))) (quiet new_private.client)
      by false same false en = subst (HandSame (effect_at bases (Some (alone bases T i)) None)) (sym (absent_does j (never_part T j (only j (λ is. true_false (sym (eq-eqb j i is) ∙ same)))))) (quiet new_private.client)

  does_same : HandSame (does_alone bases i (lone_in bases i T) h) (effect bases T h)
  does_same = subst (λ (event : Option PrivateEvent). HandSame (effect_at bases (Some (alone bases T i)) event) (effect bases T h)) (sym event_is) (does_by (turn (books_of T) h) refl)

  -- what the server is told of
  issued_is : (books_of T).issued ≡ (alone bases T i).count
  issued_is = is_lone.own.1.issued ∙ sym is_lone.joins.counted

  -- what is wrong
  session_is : (en : Bool) → entered i T ≡ en → session_of_private (private_in bases i T) ≡ session_asked (alone bases T i).client.sessions (alone bases T i).client.pending
  session_is true en = ap (λ t. session_of_private (cond t (Some (alone bases T i)) None)) en
  session_is false en =
      ap (λ t. session_of_private (cond t (Some (alone bases T i)) None)) en
      ∙ sym (ap (λ (events : List PrivateEvent). session_asked (private_after bases events).client.sessions (private_after bases events).client.pending) (own_absent bases T i en))

  kind_same : (one other : Books) (kind : RequestKind) (session : Option (List ℕ)) (reply : Reply2) → one.holder ≡ other.holder → kind_breach one kind session reply ≡ kind_breach other kind session reply
  kind_same one other (sets_up pair) session reply same =
      ap (λ (f : List ℕ → Option ℕ). cond {A = Option UpCause} (is_success reply.code)
      (cond {A = Option UpCause} (not (is_granted pair session reply)) (Some (BadGrant reply.cseq)) (cond {A = Option UpCause} (is_none session && is_some (option_and_then f (id_said reply))) (Some (SessionTaken reply.cseq)) None)) None) same
  kind_same one other (tears_down id) session reply same = refl
  kind_same one other (closes id) session reply same = refl
  kind_same one other plain session reply same = refl

  reply_same : (reply : Reply2) (opened : Option Opened) → (books_of T).opened reply.cseq ≡ opened → reply_breach bases T reply opened ≡ reply_fault (own_books i (lone_in bases i T)) (alone bases T i).client reply opened
  reply_same reply None here = refl
  reply_same reply (Some opened) here =
      ap (λ k. kind_breach (books_of T) opened.kind (session_of_private (private_in bases k T)) reply) (is_lone.opened reply.cseq opened here)
      ∙ ap (λ session. kind_breach (books_of T) opened.kind session reply) (session_is (entered i T) refl)
      ∙ kind_same (books_of T) (own_books i (lone_in bases i T)) opened.kind (session_asked (alone bases T i).client.sessions (alone bases T i).client.pending) reply alike.holder

  heard_same : (said : Heard) → heard_breach bases T said ≡ heard_fault (own_books i (lone_in bases i T)) (alone bases T i).client said
  heard_same (replies reply) =
      reply_same reply ((books_of T).opened reply.cseq) refl
      ∙ ap (λ (f : ℕ → Option Opened). reply_fault (own_books i (lone_in bases i T)) (alone bases T i).client reply (f reply.cseq)) alike.opened
  heard_same (requests request) = refl
  heard_same (frames channel rest) = refl
  heard_same (faults fault) = refl

  said_same : (one : Happening) → said_breach bases T one ≡ said_fault (own_books i (lone_in bases i T)) (alone bases T i).client one
  said_same (enters conn) = refl
  said_same (takes conn shape) = refl
  said_same (ends conn) = refl
  said_same (lags conn) = refl
  said_same (hears shape) = heard_same (heard shape)
  said_same (up_ends cause) = refl

  fault_is : fault_alone bases i (lone_in bases i T) h ≡ breach bases T h
  fault_is =
      ap (λ wrong. option_or wrong (spent (alone bases T i).count (does_alone bases i (lone_in bases i T) h).message)) (sym (said_same h))
      ∙ ap (λ n. option_or (said_breach bases T h) (spent n (does_alone bases i (lone_in bases i T) h).message)) (sym issued_is)
      ∙ ap (λ message. option_or (said_breach bases T h) (spent (books_of T).issued message)) does_same.message
      ∙ sym (breach_standing bases T h standing)

  free_is : pair_left i (lone_in bases i T) h ≡ free_in (settled_by (books_of T) h)
  free_is = sym (same_free i (books_of T) (books_alone i (alone bases T i) ((books_of T).pair_of i)) alike h)

  -- what goes up, and for whom
  silent_turn : (j : ℕ) → (j == i) ≡ false → effect_of_turn bases T (Some j) h ≡ record { client = new_private.client; hand = []; message = None; close = None }
  silent_turn j same = absent_does j (never_part T j (only j (λ is. true_false (sym (eq-eqb j i is) ∙ same))))

  up_same : (k : ℕ) (message : Option Outgoing) → option_map (message_with ((books_of T).issued + 1) (free_in (settled_by (books_of T) h)) ((books_of T).pair_of k)) message ≡ option_map (message_up (books_of T) (settled_by (books_of T) h) k) message
  up_same k None = refl
  up_same k (Some message) = refl

  up_by : (who : Option ℕ) → turn (books_of T) h ≡ who
      → option_map (message_with ((books_of T).issued + 1) (free_in (settled_by (books_of T) h)) ((books_of T).pair_of i)) (effect_of_turn bases T who h).message ≡ message_due (books_of T) (settled_by (books_of T) h) who (effect_of_turn bases T who h).message
  up_by None e = refl
  up_by (Some j) e = by (j == i) refl
    where
      by : (t : Bool) → (j == i) ≡ t → option_map (message_with ((books_of T).issued + 1) (free_in (settled_by (books_of T) h)) ((books_of T).pair_of i)) (effect_of_turn bases T (Some j) h).message
          ≡ message_due (books_of T) (settled_by (books_of T) h) (Some j) (effect_of_turn bases T (Some j) h).message
      by true same = ap (λ k. option_map (message_with ((books_of T).issued + 1) (free_in (settled_by (books_of T) h)) ((books_of T).pair_of k)) (effect_of_turn bases T (Some j) h).message) (sym (eqb-true j i same)) ∙ up_same j (effect_of_turn bases T (Some j) h).message
      by false same =
          ap (λ (done : Effect). option_map (message_with ((books_of T).issued + 1) (free_in (settled_by (books_of T) h)) ((books_of T).pair_of i)) done.message) (silent_turn j same)
          ∙ sym (ap (λ (done : Effect). message_due (books_of T) (settled_by (books_of T) h) (Some j) done.message) (silent_turn j same))

  up_is : goes_up_alone bases i (lone_in bases i T) h ≡ message_due (books_of T) (settled_by (books_of T) h) (turn (books_of T) h) (effect bases T h).message
  up_is =
      ap (λ n. option_map (message_with (n + 1) (pair_left i (lone_in bases i T) h) ((books_of T).pair_of i)) (does_alone bases i (lone_in bases i T) h).message) (sym issued_is)
      ∙ ap (λ free. option_map (message_with ((books_of T).issued + 1) free ((books_of T).pair_of i)) (does_alone bases i (lone_in bases i T) h).message) free_is
      ∙ ap (option_map (message_with ((books_of T).issued + 1) (free_in (settled_by (books_of T) h)) ((books_of T).pair_of i))) does_same.message
      ∙ up_by (turn (books_of T) h) refl

  handed_by : (wrong : Option UpCause) (up : ToUp) (who : Option ℕ) → turn (books_of T) h ≡ who → outcome_with wrong (Some i) up (effect_of_turn bases T who h) ≡ outcome_with wrong who up (effect_of_turn bases T who h)
  handed_by (Some cause) up who e = refl
  handed_by None up None e = refl
  handed_by None up (Some j) e = by (j == i) refl
    where
      by : (t : Bool) → (j == i) ≡ t → outcome_with None (Some i) up (effect_of_turn bases T (Some j) h) ≡ outcome_with None (Some j) up (effect_of_turn bases T (Some j) h)
      by true same = ap (λ k. outcome_with None (Some k) up (effect_of_turn bases T (Some j) h)) (sym (eqb-true j i same))
      by false same =
          ap (outcome_with None (Some i) up) (silent_turn j same) ∙ sym (ap (outcome_with None (Some j) up) (silent_turn j same))

  abbrev out_of : ToUp → List ℕ → Option CloseWhy → Outcome
  out_of up hand close = record { to_client = client_piece (Some i) hand; to_up = up; closed = one_closed (Some i) close; fault = None }

  hand_same : (wrong : Option UpCause) (up : ToUp) (one other : Effect) → HandSame one other → outcome_with wrong (Some i) up one ≡ outcome_with wrong (Some i) up other
  hand_same (Some cause) up one other same = refl
  hand_same None up one other same = ap (λ hand. out_of up hand one.close) same.hand ∙ ap (out_of up other.hand) same.close

  -- what is handed out
  pub handed_is : outcome_alone bases i (lone_in bases i T) h ≡ next bases T h
  handed_is =
      ap (λ (f : Option UpCause). cond (is_some f) silent (handed_alone bases i (lone_in bases i T) h)) standing
      ∙ ap (λ wrong. outcome_with wrong (Some i) (record { answer = answer_due (own_books i (lone_in bases i T)) h; message = goes_up_alone bases i (lone_in bases i T) h }) (does_alone bases i (lone_in bases i T) h)) fault_is
      ∙ ap (λ answer. outcome_with (breach bases T h) (Some i) (record { answer = answer; message = goes_up_alone bases i (lone_in bases i T) h }) (does_alone bases i (lone_in bases i T) h))
      (sym (same_answer i (books_of T) (books_alone i (alone bases T i) ((books_of T).pair_of i)) alike h))
      ∙ ap (λ message. outcome_with (breach bases T h) (Some i) (record { answer = answer_due (books_of T) h; message = message }) (does_alone bases i (lone_in bases i T) h)) up_is
      ∙ hand_same (breach bases T h) (up_due bases T h) (does_alone bases i (lone_in bases i T) h) (effect bases T h) does_same
      ∙ handed_by (breach bases T h) (up_due bases T h) (turn (books_of T) h) refl
      ∙ sym (ap (λ (f : Option UpCause). cond (is_some f) silent (outcome_with (breach bases T h) (turn (books_of T) h) (up_due bases T h) (effect bases T h))) standing)

  -- the pairs afterwards
  asked_same : (text : Option UpMessage) (free : Option ℕ) (shut : Bool) → option_and_then pair_asked (kind_of text free shut) ≡ pair_gone text free
  asked_same None free shut = refl
  asked_same (Some (Frame text)) free shut = refl
  asked_same (Some (Request text)) free shut = by (is_setup_text text) (is_teardown_text text)
    where
      by : (sets tears : Bool) → pair_asked (cond sets (setup_kind free) (cond tears (teardown_kind shut (id_in_text text)) plain)) ≡ pair_asked (cond sets (setup_kind free) (cond tears (teardown_kind false (id_in_text text)) plain))
      by true tears = refl
      by false true = torn_asks shut (id_in_text text) ∙ sym (torn_asks false (id_in_text text))
      by false false = refl

  none_then : (number : ℕ) (f : ℕ → ℕ) (own : ℕ) → pairs_then number None f own ≡ f own
  none_then number f own = by (own == number)
    where
      by : (t : Bool) → cond t (f own) (f own) ≡ f own
      by true = refl
      by false = refl

  pairs_lent : (books : Books) (kind : Option RequestKind) (number own : ℕ) → books.counts i + 1 ≡ number → pairs_then number (option_and_then pair_asked kind) (books.pair_of i) own ≡ (lends_where (Some i) kind books).pair_of i own
  pairs_lent books None number own counted = none_then number (books.pair_of i) own
  pairs_lent books (Some kind) number own counted =
      ap (λ n. pairs_then n (pair_asked kind) (books.pair_of i) own) (sym counted)
      ∙ sym (ap (λ t. cond (t && (own == books.counts i + 1)) (unwrap_or (pair_asked kind) (books.pair_of i own)) (books.pair_of i own)) (same_number i))

  pairs_by : (who : Option ℕ) (shut : Bool) (own : ℕ) → turn (books_of T) h ≡ who
      → pairs_then ((alone bases T i).count + 1) (pair_gone (message_due (books_of T) (settled_by (books_of T) h) who (effect_of_turn bases T who h).message) (free_in (settled_by (books_of T) h))) ((books_of T).pair_of i) own
      ≡ (books_with (books_of T) h who (effect_of_turn bases T who h).message shut).pair_of i own
  pairs_by None shut own e = none_then ((alone bases T i).count + 1) ((books_of T).pair_of i) own
  pairs_by (Some j) shut own e = by (j == i) refl
    where
      by : (t : Bool) → (j == i) ≡ t
          → pairs_then ((alone bases T i).count + 1) (pair_gone (message_due (books_of T) (settled_by (books_of T) h) (Some j) (effect_of_turn bases T (Some j) h).message) (free_in (settled_by (books_of T) h))) ((books_of T).pair_of i) own
          ≡ (books_with (books_of T) h (Some j) (effect_of_turn bases T (Some j) h).message shut).pair_of i own
      by true same =
          let kind : Option RequestKind = kind_of (message_due (books_of T) (settled_by (books_of T) h) (Some j) (effect_of_turn bases T (Some j) h).message) (free_in (settled_by (books_of T) h)) shut in
          ap (λ pair. pairs_then ((alone bases T i).count + 1) pair ((books_of T).pair_of i) own)
          (sym (asked_same (message_due (books_of T) (settled_by (books_of T) h) (Some j) (effect_of_turn bases T (Some j) h).message) (free_in (settled_by (books_of T) h)) shut))
          ∙ pairs_lent (settled_by (books_of T) h) kind ((alone bases T i).count + 1) own (ap (λ n. n + 1) (sym is_lone.joins.counted))
          ∙ ap (λ k. (lends_where (Some k) kind (settled_by (books_of T) h)).pair_of i own) (sym (eqb-true j i same))
      by false same =
          let quiet_turn = silent_turn j same in
          ap (λ (done : Effect). pairs_then ((alone bases T i).count + 1) (pair_gone (message_due (books_of T) (settled_by (books_of T) h) (Some j) done.message) (free_in (settled_by (books_of T) h))) ((books_of T).pair_of i) own) quiet_turn
          ∙ none_then ((alone bases T i).count + 1) ((books_of T).pair_of i) own
          ∙ sym (ap (λ (done : Effect). (books_with (books_of T) h (Some j) done.message shut).pair_of i own) quiet_turn)

  player_is : (event : Option PrivateEvent) → player_then (alone bases T i) event (effect_at bases (Some (alone bases T i)) event) ≡ alone_with bases (own bases i T) event
  player_is None = refl
  player_is (Some event) = refl

  and_true : (t : Bool) → (t && true) ≡ t
  and_true true = refl
  and_true false = refl

  -- the gateway then, by whether something is wrong
  abbrev lone_new : LoneGateway
  lone_new = record {
    entered = enters_here i h || entered i T;
    player = player_then (alone bases T i) (event_alone i (lone_in bases i T) h) (does_alone bases i (lone_in bases i T) h);
    pairs = pairs_then ((alone bases T i).count + 1) (pair_gone (goes_up_alone bases i (lone_in bases i T) h) (pair_left i (lone_in bases i T) h)) ((books_of T).pair_of i);
    fault = None;
  }

  abbrev lone_ended : LoneGateway
  lone_ended = record { entered = entered i T; player = alone bases T i; pairs = (books_of T).pair_of i; fault = fault_alone bases i (lone_in bases i T) h }

  next_by : (wrong : Option UpCause) → breach bases T h ≡ wrong → lone_next bases i (lone_in bases i T) h ≡ cond (is_some wrong) lone_ended lone_new
  next_by wrong is =
      ap (λ (f : Option UpCause). cond (is_some f) (lone_in bases i T) (cond (is_some (fault_alone bases i (lone_in bases i T) h)) lone_ended lone_new)) standing
      ∙ ap (λ (f : Option UpCause). cond (is_some f) lone_ended lone_new) (fault_is ∙ is)

  -- the gateway after an entry that ends nothing
  pub next_is : (e : HistoryEntry) → Follows bases T e → e.happening ≡ h → fault_in (e ∷ T) ≡ None → lone_next bases i (lone_in bases i T) h ≡ lone_in bases i (e ∷ T)
  next_is e follows here after =
      next_by None (ap (breach bases T) (sym here) ∙ sym follows.fault ∙ (both_none (fault_in T) e.outcome.fault after).1)
      ∙ four_same _ _ _ _ _ _ _ _ part player (same_function _ _ pairs) (sym after)
    where
      part : (enters_here i h || entered i T) ≡ entered i (e ∷ T)
      part = sym
          (ap (λ one. (enters_here i one && is_none (fault_in T)) || entered i T) here
          ∙ ap (λ (f : Option UpCause). (enters_here i h && is_none f) || entered i T) standing
          ∙ ap (λ t. t || entered i T) (and_true (enters_here i h)))

      player : player_then (alone bases T i) (event_alone i (lone_in bases i T) h) (does_alone bases i (lone_in bases i T) h) ≡ alone bases (e ∷ T) i
      player =
          player_is (event_alone i (lone_in bases i T) h) ∙ ap (alone_with bases (own bases i T)) event_is
          ∙ ap (λ one. alone_with bases (own bases i T) (event_for bases T one (turn (books_of T) one) i)) (sym here) ∙ sym (alone_next bases T e i after)

      pairs : (k : ℕ) → pairs_then ((alone bases T i).count + 1) (pair_gone (goes_up_alone bases i (lone_in bases i T) h) (pair_left i (lone_in bases i T) h)) ((books_of T).pair_of i) k ≡ (books_of (e ∷ T)).pair_of i k
      pairs k =
          ap (λ message. pairs_then ((alone bases T i).count + 1) (pair_gone message (pair_left i (lone_in bases i T) h)) ((books_of T).pair_of i) k) up_is
          ∙ ap (λ free. pairs_then ((alone bases T i).count + 1) (pair_gone (message_due (books_of T) (settled_by (books_of T) h) (turn (books_of T) h) (effect bases T h).message) free) ((books_of T).pair_of i) k) free_is
          ∙ pairs_by (turn (books_of T) h) (has_shut (turn (books_of T) h) (e ∷ T)) k refl
          ∙ ap (λ one. (books_with (books_of T) one (turn (books_of T) one) (effect bases T one).message (has_shut (turn (books_of T) one) (e ∷ T))).pair_of i k) (sym here)
          ∙ sym (ap (λ (b : Books). b.pair_of i k) (books_next bases T e follows after))

  -- and after one that ends the server's connection
  pub ended_is : (cause : UpCause) → breach bases T h ≡ Some cause → (lone_next bases i (lone_in bases i T) h).fault ≡ Some cause
  ended_is cause wrong = ap (λ (l : LoneGateway). l.fault) (next_by (Some cause) wrong) ∙ fault_is ∙ wrong
