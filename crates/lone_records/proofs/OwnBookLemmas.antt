-- A pair of channels that is held for no session yet is that of an open SETUP; and one player has all the numbers.
use Rattle.std.proofs.Common.{◌≡◌, ◌∙◌, ℕ, ◌+◌, ◌≤◌, ◌==◌, ◌&&◌, Bool, true, false, cond, List, [], ◌∷◌, Option, Some, None, IfSome, IsSome, ◌⊎◌, inl, inr, refl, sym, ap, subst, arith, nat_lt}
use Rattle.std.proofs.lemmas.Bool.{eq-eqb, eqb-true, cases_Bool}
use Rattle.rtsp_uri.specs.declared.base.Bases.{Bases}
use Rattle.head_two.specs.declared.reply.Reply2.{Reply2}
use Rattle.session_one.specs.Table.{is_success}
use Rattle.client_machine.specs.Events.{Outgoing}
use Rattle.gateway_claim.specs.Books.{teardown_kind, RequestKind, sets_up, tears_down, closes, plain, kind_of, Opened, HeldPair, Books, pair_asked, is_pair, lends, Final, final_of, granted_to, held_left, torn_by, is_torn_with, settles, id_said, free_in}
use Rattle.gateway_claim.specs.Follows.{IsHistory, grant_breach, effect_of_turn, is_session_for, kind_breach, message_due, reply_breach, said_breach, session_of_private, private_in, heard_breach}
use Rattle.gateway_claim.specs.Happenings.{Happening, enters, takes, ends, lags, hears, up_ends, HistoryEntry, entered, fault_in}
use Rattle.gateway_claim.specs.OnePlayer.{IsOnlyPlayer}
use Rattle.gateway_claim.specs.OwnEvents.{books_of, final_in, has_shut, heard_final, lends_where, settled_by, turn}
use Rattle.gateway_claim.specs.ServerItems.{Heard, replies, requests, frames, faults, heard}
use Rattle.gateway_claim.proofs.AgreeLemmas.{books_with, books_next, effect_absent, joined, said_right}
use Rattle.gateway_claim.proofs.AnswerLemmas.{right_grant}
use Rattle.gateway_claim.proofs.AskLemmas.{never_part, only_before}
use Rattle.gateway_claim.proofs.CaseLemmas.{both_none}
use Rattle.gateway_claim.proofs.NextLemmas.{same_number}
use Rattle.gateway_claim.proofs.OtherLemmas.{WasHeld, was_held, was_open, differs}

abbrev pub IsAwaited : Books → Type 0
IsAwaited books = (p c : ℕ) → books.held p ≡ Some (record { conn = c; session = None }) → (g : ℕ) × (books.opened g ≡ Some (record { conn = c; kind = sets_up p }))

-- a TEARDOWN asks for no pair
pub torn_asks : (shut : Bool) (id : Option (List ℕ)) → pair_asked (teardown_kind shut id) ≡ None
torn_asks shut None = refl
torn_asks true (Some id) = refl
torn_asks false (Some id) = refl

-- What is known of a final reply: its request is open, and a SETUP that succeeds has a session.
pub record IsRightFinal (books : Books) (final : Final) : Type 0 where
  pub opened : books.opened final.number ≡ Some (record { conn = final.conn; kind = final.kind })
  pub named : final.success ≡ true → (p : ℕ) → pair_asked final.kind ≡ Some p → IsSome final.id

pub none_is_some : {A : Type 0} → (o : Option A) → o ≡ None → IsSome o → ⊥
none_is_some None e some = cc
none_is_some (Some a) e some = cc

pub true_false : true ≡ false → ⊥
true_false e = cc

pair_is : (o : Option ℕ) (p : ℕ) → is_pair o p ≡ true → o ≡ Some p
pair_is None p e = cc
pair_is (Some q) p e = ap (λ n. Some n) (eqb-true q p e)

same_pair : (p : ℕ) → is_pair (Some p) p ≡ true
same_pair p = same_number p

kind_is : (kind : RequestKind) (p : ℕ) → pair_asked kind ≡ Some p → kind ≡ sets_up p
kind_is kind p e = grind arith

same_held : (one other : HeldPair) → Some one ≡ Some other → one ≡ other
same_held one other e = cc

-- The pair of the reply's own SETUP is granted with a session, or freed.
granted_apart : (success : Bool) (id : Option (List ℕ)) (before : Option HeldPair) (c : ℕ) → (success ≡ true → IsSome id) → granted_to success id before ≡ Some (record { conn = c; session = None }) → ⊥
granted_apart true id None c some e = cc
granted_apart true id (Some one) c some e = none_is_some id (ap (λ (held : HeldPair). held.session) (same_held _ _ e)) (some refl)
granted_apart false id before c some e = cc

pub awaited_settled : (books : Books) (final : Final) → IsRightFinal books final → IsAwaited books → IsAwaited (settles (Some final) books)
awaited_settled books final right awaited p c h = by (is_pair (pair_asked final.kind) p) refl
  where
    was : WasHeld books final p (record { conn = c; session = None })
    was = was_held books final p (record { conn = c; session = None }) h

    old : (books : Books) (before : HeldPair) (p c : ℕ) → IsAwaited books → books.held p ≡ Some before → before ≡ record { conn = c; session = None } → (g : ℕ) × (books.opened g ≡ Some (record { conn = c; kind = sets_up p }))
    old books before p c awaited is same = awaited p c (is ∙ ap (λ (one : HeldPair). Some one) same)

    same_opened : (one other : Opened) → Some one ≡ Some other → one ≡ other
    same_opened one other e = cc

    apart : (g : ℕ) → books.opened g ≡ Some (record { conn = c; kind = sets_up p }) → is_pair (pair_asked final.kind) p ≡ false → (g == final.number) ≡ false
    apart g is other = elim (cases_Bool (g == final.number)) [
      | inl same ↦ absurd (true_false (sym (ap (λ (one : Opened). is_pair (pair_asked one.kind) p) (same_opened _ _ (sym right.opened ∙ ap books.opened (sym (eqb-true g final.number same)) ∙ is)) ∙ same_pair p) ∙ other))
      | inr differ ↦ differ
    ]

    split : (before : HeldPair) → books.held p ≡ Some before → is_pair (pair_asked final.kind) p ≡ false
        → ((is_pair (pair_asked final.kind) p ≡ true) × (final.success ≡ true) × (◌≡◌ {A = Option (List ℕ)} None final.id)) ⊎ ((before ≡ record { conn = c; session = None }) × (is_torn_with (torn_by final.kind final.success) None ≡ false))
        → (g : ℕ) × ((settles (Some final) books).opened g ≡ Some (record { conn = c; kind = sets_up p }))
    split before is other (inl here) = absurd (true_false (sym here.0 ∙ other))
    split before is other (inr here) =
        let earlier = old books before p c awaited is here.0 in
        (earlier.0, ap (λ (t : Bool). cond {A = Option Opened} t None (books.opened earlier.0)) (apart earlier.0 earlier.1 other) ∙ earlier.1)

    by : (t : Bool) → is_pair (pair_asked final.kind) p ≡ t → (g : ℕ) × ((settles (Some final) books).opened g ≡ Some (record { conn = c; kind = sets_up p }))
    by true e = absurd (granted_apart final.success final.id (books.held p) c (λ success. right.named success p (pair_is (pair_asked final.kind) p e))
        (sym (ap (λ (t : Bool). cond t (granted_to final.success final.id (books.held p)) (held_left (torn_by final.kind final.success) (books.held p))) e) ∙ h))
    by false e = split was.before was.was e was.session

-- no number is open that was not given
abbrev IsLow : Books → Type 0
IsLow books = (g : ℕ) (opened : Opened) → books.opened g ≡ Some opened → g ≤ books.issued

pub awaited_lent : (books : Books) (i : ℕ) (kind : RequestKind) → IsLow books → IsAwaited books → IsAwaited (lends i kind books)
awaited_lent books i kind lows awaited p c h = by (is_pair (pair_asked kind) p) refl h
  where
    same_conn : ◌≡◌ {A = Option HeldPair} (Some (record { conn = i; session = None })) (Some (record { conn = c; session = None })) → i ≡ c
    same_conn e = ap (λ (held : HeldPair). held.conn) (same_held _ _ e)

    by : (t : Bool) → is_pair (pair_asked kind) p ≡ t → cond t (Some (record { conn = i; session = None })) (books.held p) ≡ Some (record { conn = c; session = None }) → (g : ℕ) × ((lends i kind books).opened g ≡ Some (record { conn = c; kind = sets_up p }))
    by true e here = (
      books.issued + 1,
      ap (λ (t : Bool). cond {A = Option Opened} t (Some (record { conn = i; kind = kind })) (books.opened (books.issued + 1))) (same_number (books.issued + 1))
          ∙ ap (λ (one : RequestKind). Some (record { conn = i; kind = one })) (kind_is kind p (pair_is (pair_asked kind) p e))
          ∙ ap (λ (n : ℕ). Some (record { conn = n; kind = sets_up p })) (same_conn here),
    )
    by false e here =
        let before = awaited p c here in
        let low : before.0 ≤ books.issued = lows before.0 _ before.1 in (
          before.0,
          ap (λ (t : Bool). cond {A = Option Opened} t (Some (record { conn = i; kind = kind })) (books.opened before.0)) (differs before.0 (books.issued + 1) (λ same. omega (arith, low, same))) ∙ before.1,
        )

-- What is right with a reply that ends nothing.
session_some : (session id : Option (List ℕ)) → is_session_for session id ≡ true → IsSome id
session_some session id e = grind arith

granted_some : (books : Books) (kind : RequestKind) (session : Option (List ℕ)) (reply : Reply2) → kind_breach books kind session reply ≡ None → is_success reply.code ≡ true → (p : ℕ) → pair_asked kind ≡ Some p → IsSome (id_said reply)
granted_some books (sets_up pair) session reply right success p asks =
    session_some session (id_said reply) (right_grant books pair session reply (sym (ap (λ t. cond t (grant_breach books pair session reply) None) success) ∙ right)).0
granted_some books (tears_down id) session reply right success p asks = let never : ⊥ = cc in absurd never
granted_some books (closes id) session reply right success p asks = let never : ⊥ = cc in absurd never
granted_some books plain session reply right success p asks = let never : ⊥ = cc in absurd never

abbrev told_final : Reply2 → Opened → Final
told_final reply opened = record { number = reply.cseq; conn = opened.conn; kind = opened.kind; success = is_success reply.code; id = id_said reply }

opened_right : (bases : Bases) (T : List HistoryEntry) (reply : Reply2) (opened : Option Opened) (early : Bool) → (books_of T).opened reply.cseq ≡ opened → nat_lt reply.code 200 ≡ early → reply_breach bases T reply opened ≡ None
    → IfSome (final_of reply opened) (IsRightFinal (books_of T))
opened_right bases T reply None early is late right = tt
opened_right bases T reply (Some opened) true is late right = subst (λ (t : Bool). IfSome (cond {A = Option Final} t None (Some (told_final reply opened))) (IsRightFinal (books_of T))) (sym late) tt
opened_right bases T reply (Some opened) false is late right =
    subst (λ (t : Bool). IfSome (cond {A = Option Final} t None (Some (told_final reply opened))) (IsRightFinal (books_of T))) (sym late)
    (record { opened = is; named = λ success p asks. granted_some (books_of T) opened.kind (session_of_private (private_in bases opened.conn T)) reply right success p asks })

heard_right : (bases : Bases) (T : List HistoryEntry) (said : Heard) → heard_breach bases T said ≡ None → IfSome (heard_final (books_of T) said) (IsRightFinal (books_of T))
heard_right bases T (replies reply) right = opened_right bases T reply ((books_of T).opened reply.cseq) (nat_lt reply.code 200) refl refl right
heard_right bases T (requests request) right = tt
heard_right bases T (frames channel rest) right = tt
heard_right bases T (faults fault) right = tt

final_right : (bases : Bases) (T : List HistoryEntry) (h : Happening) → said_breach bases T h ≡ None → IfSome (final_in (books_of T) h) (IsRightFinal (books_of T))
final_right bases T (enters conn) right = tt
final_right bases T (takes conn shape) right = tt
final_right bases T (ends conn) right = tt
final_right bases T (lags conn) right = tt
final_right bases T (hears shape) right = heard_right bases T (heard shape) right
final_right bases T (up_ends cause) right = tt

settled_awaited : (books : Books) (final : Option Final) → IfSome final (IsRightFinal books) → IsAwaited books → IsAwaited (settles final books)
settled_awaited books None right awaited = awaited
settled_awaited books (Some final) right awaited = awaited_settled books final right awaited

-- The numbers of the only player are those of the server's connection.
pub record HasNumbers (books : Books) (i : ℕ) : Type 0 where
  pub issued : books.issued ≡ books.counts i
  pub numbers : (k : ℕ) → 1 ≤ k → k ≤ books.counts i → books.number_of i k ≡ k

numbers_lent : (books : Books) (i : ℕ) (kind : RequestKind) → HasNumbers books i → HasNumbers (lends i kind books) i
numbers_lent books i kind has = record {
  issued = ap (λ n. n + 1) has.issued ∙ sym (counts_then (same_number i));
  numbers = λ k some most. by k (k == books.counts i + 1) refl some (subst (λ n. k ≤ n) (counts_then (same_number i)) most);
}
  where
    counts_then : (i == i) ≡ true → cond (i == i) (books.counts i + 1) (books.counts i) ≡ books.counts i + 1
    counts_then e = ap (λ t. cond t (books.counts i + 1) (books.counts i)) e

    less : (k n : ℕ) → (k == n + 1) ≡ false → k ≤ n + 1 → k ≤ n
    less k n other most = grind arith

    by : (k : ℕ) (t : Bool) → (k == books.counts i + 1) ≡ t → 1 ≤ k → k ≤ books.counts i + 1 → cond ((i == i) && (k == books.counts i + 1)) (books.issued + 1) (books.number_of i k) ≡ k
    by k true e some most =
        ap (λ t. cond (t && (k == books.counts i + 1)) (books.issued + 1) (books.number_of i k)) (same_number i)
        ∙ ap (λ t. cond t (books.issued + 1) (books.number_of i k)) e ∙ ap (λ n. n + 1) has.issued ∙ sym (eqb-true k (books.counts i + 1) e)
    by k false e some most =
        ap (λ t. cond (t && (k == books.counts i + 1)) (books.issued + 1) (books.number_of i k)) (same_number i)
        ∙ ap (λ t. cond t (books.issued + 1) (books.number_of i k)) e ∙ has.numbers k some (less k (books.counts i) e most)

abbrev pub IsOwnBooks : Books → ℕ → Type 0
IsOwnBooks books i = IsAwaited books × HasNumbers books i

settled_low : (books : Books) (final : Option Final) → IsLow books → IsLow (settles final books)
settled_low books None low g opened is = low g opened is
settled_low books (Some final) low g opened is = low g opened (was_open books final g opened is).1

own_lent : (books : Books) (i : ℕ) (kind : Option RequestKind) → IsLow books → IsOwnBooks books i → IsOwnBooks (lends_where (Some i) kind books) i
own_lent books i None low own = own
own_lent books i (Some kind) low own = (awaited_lent books i kind low own.0, numbers_lent books i kind own.1)

own_turn : (bases : Bases) (T : List HistoryEntry) (h : Happening) (i : ℕ) (who : Option ℕ) (shut : Bool) → IsOnlyPlayer i T → IsLow (settled_by (books_of T) h) → IsOwnBooks (settled_by (books_of T) h) i
    → IsOwnBooks (books_with (books_of T) h who (effect_of_turn bases T who h).message shut) i
own_turn bases T h i None shut only low own = own
own_turn bases T h i (Some j) shut only low own = by (j == i) refl
  where
    by : (t : Bool) → (j == i) ≡ t → IsOwnBooks (books_with (books_of T) h (Some j) (effect_of_turn bases T (Some j) h).message shut) i
    by true e =
        subst (λ (k : ℕ). IsOwnBooks (books_with (books_of T) h (Some k) (effect_of_turn bases T (Some k) h).message shut) i) (sym (eqb-true j i e))
        (own_lent (settled_by (books_of T) h) i (kind_of (message_due (books_of T) (settled_by (books_of T) h) (Some i) (effect_of_turn bases T (Some i) h).message) (free_in (settled_by (books_of T) h)) shut) low own)
    by false e =
        let absent : entered j T ≡ false = never_part T j (only j (λ same. true_false (sym (eq-eqb j i same) ∙ e))) in
        subst (λ (message : Option Outgoing). IsOwnBooks (books_with (books_of T) h (Some j) message shut) i) (sym (effect_absent bases T h j absent)) own

pub books_own : (bases : Bases) (T : List HistoryEntry) (i : ℕ) → IsHistory bases T → IsOnlyPlayer i T → fault_in T ≡ None → IsOwnBooks (books_of T) i
books_own bases [] i history only standing = (λ p c held. let never : ⊥ = cc in absurd never, record { issued = refl; numbers = λ k some most. absurd (omega (arith, some, most)) })
books_own bases (e ∷ T) i history only standing =
    let before = both_none (fault_in T) e.outcome.fault standing in
    let rest = only_before i T e only in
    let own = books_own bases T i history.0 rest before.0 in
    subst (λ (b : Books). IsOwnBooks b i) (sym (books_next bases T e history.1 standing))
    (own_turn bases T e.happening i (turn (books_of T) e.happening) (has_shut (turn (books_of T) e.happening) (e ∷ T)) rest
    (settled_low (books_of T) (final_in (books_of T) e.happening) (joined bases T history.0 before.0).0.low)
    (settled_awaited (books_of T) (final_in (books_of T) e.happening) (final_right bases T e.happening (said_right bases T e history.1 standing)) own.0, record { issued = own.1.issued; numbers = own.1.numbers }))
