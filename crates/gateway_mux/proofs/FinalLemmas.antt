-- The final reply of an event, by whose turn it is.
use Rattle.std.proofs.Common.{◌≡◌, ◌∙◌, ℕ, nat_lt, not, Bool, true, false, cond, List, Option, Some, None, IfSome, refl, sym, ap, subst}
use Rattle.std.specs.Prelude.{is_none, ◌&&◌}
use Rattle.std.specs.Option.{option_map}
use Rattle.head_two.specs.declared.reply.Reply2.{Reply2}
use Rattle.session_one.specs.Table.{is_success}
use Rattle.gateway_claim.specs.declared.event.UpCause.TheVariants.{BadGrant, SessionTaken}
use Rattle.gateway_claim.specs.Books.{RequestKind, sets_up, Opened, Books, Final, final_of, id_said}
use Rattle.gateway_claim.specs.ServerItems.{Heard, replies, requests, frames, faults, heard}
use Rattle.gateway_claim.specs.Happenings.{Happening, enters, takes, ends, lags, hears, up_ends}
use Rattle.gateway_claim.specs.OwnEvents.{heard_turn, turn, heard_final, final_in}
use Rattle.gateway_claim.specs.Follows.{is_session_for, is_granted, is_bound, grant_breach, kind_breach}
use Rattle.gateway_mux.specs.Moves.{wrong_reply, wrong_heard, wrong_in}
use Rattle.gateway_mux.specs.Pictures.{Picture, books_in}
use Rattle.gateway_mux.specs.Turn.{named_by_client}

-- the final reply is to a request of the connection whose turn it is
asked_here : (reply : Reply2) (opened : Option Opened) (i : ℕ) → option_map (λ (one : Opened). one.conn) opened ≡ Some i → IfSome (final_of reply opened) (λ final. final.conn ≡ i)
asked_here reply None i turns = cc
asked_here reply (Some opened) i turns = by (nat_lt reply.code 200)
  where
    conn_is : (a b : ℕ) → Some a ≡ Some b → a ≡ b
    conn_is a b e = cc

    by : (t : Bool) → IfSome (cond t None (Some (record { number = reply.cseq; conn = opened.conn; kind = opened.kind; success = is_success reply.code; id = id_said reply }))) (λ (final : Final). final.conn ≡ i)
    by true = tt
    by false = conn_is opened.conn i turns

heard_here : (books : Books) (said : Heard) (i : ℕ) → heard_turn books said ≡ Some i → IfSome (heard_final books said) (λ final. final.conn ≡ i)
heard_here books (replies reply) i turns = asked_here reply (books.opened reply.cseq) i turns
heard_here books (requests request) i turns = tt
heard_here books (frames channel rest) i turns = tt
heard_here books (faults fault) i turns = tt

pub final_here : (books : Books) (h : Happening) (i : ℕ) → turn books h ≡ Some i → IfSome (final_in books h) (λ final. final.conn ≡ i)
final_here books (enters conn) i turns = tt
final_here books (takes conn shape) i turns = tt
final_here books (ends conn) i turns = tt
final_here books (lags conn) i turns = tt
final_here books (hears shape) i turns = heard_here books (heard shape) i turns
final_here books (up_ends cause) i turns = tt

-- The success of a SETUP says the session that it named; and where it named none, one that nobody has.
abbrev pub IsRight : Books → Final → Option (List ℕ) → Type 0
IsRight books final session = (pair : ℕ) → final.kind ≡ sets_up pair → final.success ≡ true → (is_session_for session final.id ≡ true) × ((is_none session && is_bound books final.id) ≡ false)

both_true : (a b : Bool) → (a && b) ≡ true → b ≡ true
both_true true b e = e
both_true false b e = cc

granted_right : (books : Books) (pair : ℕ) (session : Option (List ℕ)) (reply : Reply2) → grant_breach books pair session reply ≡ None
    → (is_session_for session (id_said reply) ≡ true) × ((is_none session && is_bound books (id_said reply)) ≡ false)
granted_right books pair session reply right = by (is_granted pair session reply) (is_none session && is_bound books (id_said reply)) refl refl right
  where
    by : (g t : Bool) → is_granted pair session reply ≡ g → (is_none session && is_bound books (id_said reply)) ≡ t → cond (not g) (Some (BadGrant reply.cseq)) (cond t (Some (SessionTaken reply.cseq)) None) ≡ None
        → (is_session_for session (id_said reply) ≡ true) × ((is_none session && is_bound books (id_said reply)) ≡ false)
    by false t g e right = cc
    by true true g e right = cc
    by true false g e right = (both_true _ (is_session_for session (id_said reply)) g, e)

kind_right : (books : Books) (kind : RequestKind) (session : Option (List ℕ)) (reply : Reply2) → kind_breach books kind session reply ≡ None
    → (pair : ℕ) → kind ≡ sets_up pair → is_success reply.code ≡ true → (is_session_for session (id_said reply) ≡ true) × ((is_none session && is_bound books (id_said reply)) ≡ false)
kind_right books kind session reply right pair is success =
    granted_right books pair session reply
    (sym (ap (λ t. cond t (grant_breach books pair session reply) None) success) ∙ ap (λ one. kind_breach books one session reply) (sym is) ∙ right)

reply_right : (one : Picture) (reply : Reply2) (opened : Option Opened) (i : ℕ) → option_map (λ (two : Opened). two.conn) opened ≡ Some i → wrong_reply one reply opened ≡ None
    → IfSome (final_of reply opened) (λ final. IsRight (books_in one) final (named_by_client (one.clients i)))
reply_right one reply None i turns right = cc
reply_right one reply (Some opened) i turns right = by (nat_lt reply.code 200)
  where
    conn_is : (a b : ℕ) → Some a ≡ Some b → a ≡ b
    conn_is a b e = cc

    by : (t : Bool) → IfSome (cond t None (Some (record { number = reply.cseq; conn = opened.conn; kind = opened.kind; success = is_success reply.code; id = id_said reply }))) (λ (final : Final). IsRight (books_in one) final (named_by_client (one.clients i)))
    by true = tt
    by false = λ pair is success. subst (λ (who : ℕ). (is_session_for (named_by_client (one.clients who)) (id_said reply) ≡ true) × ((is_none (named_by_client (one.clients who)) && is_bound (books_in one) (id_said reply)) ≡ false)) (conn_is opened.conn i turns)
        (kind_right (books_in one) opened.kind (named_by_client (one.clients opened.conn)) reply right pair is success)

heard_right : (one : Picture) (said : Heard) (i : ℕ) → heard_turn (books_in one) said ≡ Some i → wrong_heard one said ≡ None → IfSome (heard_final (books_in one) said) (λ final. IsRight (books_in one) final (named_by_client (one.clients i)))
heard_right one (replies reply) i turns right = reply_right one reply ((books_in one).opened reply.cseq) i turns right
heard_right one (requests request) i turns right = tt
heard_right one (frames channel rest) i turns right = tt
heard_right one (faults fault) i turns right = tt

pub final_right : (one : Picture) (h : Happening) (i : ℕ) → turn (books_in one) h ≡ Some i → wrong_in one h ≡ None → IfSome (final_in (books_in one) h) (λ final. IsRight (books_in one) final (named_by_client (one.clients i)))
final_right one (enters conn) i turns right = tt
final_right one (takes conn shape) i turns right = tt
final_right one (ends conn) i turns right = tt
final_right one (lags conn) i turns right = tt
final_right one (hears shape) i turns right = heard_right one (heard shape) i turns right
final_right one (up_ends cause) i turns right = tt
