-- Books that have the same at each place tell the same of an event.
use Rattle.std.proofs.Common.{◌≡◌, ◌∙◌, ℕ, ◌+◌, ◌/◌, ◌==◌, cond, List, Option, Some, None, Result, Err, refl, ap}
use Rattle.std.specs.Prelude.{codes, is_none}
use Rattle.std.specs.Option.{option_map}
use Rattle.std.specs.Str.{bytes_eq}
use Rattle.head_two.specs.declared.ask.Ask2.{Ask2}
use Rattle.gateway_claim.specs.Books.{RequestKind, Opened, HeldPair, Books, lends, pair_asked, is_pair, Final, final_of, opened_then, held_then, holder_then, settles, free_in}
use Rattle.gateway_claim.specs.ServerItems.{Heard, replies, requests, frames, faults, heard, HeardNotice, session_named, held_session, named_session, notice_of, answer_to}
use Rattle.gateway_claim.specs.Happenings.{Happening, enters, takes, ends, lags, hears, up_ends}
use Rattle.gateway_claim.specs.OwnEvents.{owner_of, notice_turn, heard_turn, turn, heard_final, final_in, settled_by, lends_where}
use Rattle.gateway_claim.specs.Follows.{heard_answer, answer_due}
use Rattle.gateway_claim.specs.Turns.{notice_raw, heard_raw, raw_event}
use Rattle.gateway_mux.proofs.TurnLemmas.{lowest_free_same}

pub record AreSame (a b : Books) : Type 0 where
  pub opened : (number : ℕ) → a.opened number ≡ b.opened number
  pub held : (pair : ℕ) → a.held pair ≡ b.held pair
  pub holder : (id : List ℕ) → a.holder id ≡ b.holder id
  pub issued : a.issued ≡ b.issued

-- a request of the server
named_same : (f g : List ℕ → Option ℕ) (request : Ask2) (named : Option (List ℕ)) → ((id : List ℕ) → f id ≡ g id) → named_session f request named ≡ named_session g request named
named_same f g request None same = refl
named_same f g request (Some id) same = ap (held_session request id) (same id)

pub notice_same : (f g : List ℕ → Option ℕ) (request : Ask2) → ((id : List ℕ) → f id ≡ g id) → notice_of f request ≡ notice_of g request
notice_same f g request same = ap (λ (one : Result HeardNotice ℕ). cond (bytes_eq request.method (codes "PLAY_NOTIFY")) one (Err 501)) (named_same f g request (session_named request) same)

-- whose turn it is
heard_turn_same : (a b : Books) (said : Heard) → AreSame a b → heard_turn a said ≡ heard_turn b said
heard_turn_same a b (replies reply) same = ap (option_map (λ (opened : Opened). opened.conn)) (same.opened reply.cseq)
heard_turn_same a b (requests request) same = ap notice_turn (notice_same a.holder b.holder request same.holder)
heard_turn_same a b (frames channel rest) same = ap owner_of (same.held (channel / 2))
heard_turn_same a b (faults fault) same = refl

pub turn_same : (a b : Books) (h : Happening) → AreSame a b → turn a h ≡ turn b h
turn_same a b (enters conn) same = refl
turn_same a b (takes conn shape) same = refl
turn_same a b (ends conn) same = refl
turn_same a b (lags conn) same = refl
turn_same a b (hears shape) same = heard_turn_same a b (heard shape) same
turn_same a b (up_ends cause) same = refl

-- what comes
heard_raw_same : (a b : Books) (said : Heard) → AreSame a b → heard_raw a said ≡ heard_raw b said
heard_raw_same a b (replies reply) same = refl
heard_raw_same a b (requests request) same = ap notice_raw (notice_same a.holder b.holder request same.holder)
heard_raw_same a b (frames channel rest) same = refl
heard_raw_same a b (faults fault) same = refl

pub raw_same : (a b : Books) (h : Happening) → AreSame a b → raw_event a h ≡ raw_event b h
raw_same a b (enters conn) same = refl
raw_same a b (takes conn shape) same = refl
raw_same a b (ends conn) same = refl
raw_same a b (lags conn) same = refl
raw_same a b (hears shape) same = heard_raw_same a b (heard shape) same
raw_same a b (up_ends cause) same = refl

-- the final reply
heard_final_same : (a b : Books) (said : Heard) → AreSame a b → heard_final a said ≡ heard_final b said
heard_final_same a b (replies reply) same = ap (final_of reply) (same.opened reply.cseq)
heard_final_same a b (requests request) same = refl
heard_final_same a b (frames channel rest) same = refl
heard_final_same a b (faults fault) same = refl

pub final_same : (a b : Books) (h : Happening) → AreSame a b → final_in a h ≡ final_in b h
final_same a b (enters conn) same = refl
final_same a b (takes conn shape) same = refl
final_same a b (ends conn) same = refl
final_same a b (lags conn) same = refl
final_same a b (hears shape) same = heard_final_same a b (heard shape) same
final_same a b (up_ends cause) same = refl

-- the answer to the server
heard_answer_same : (a b : Books) (said : Heard) → AreSame a b → heard_answer a said ≡ heard_answer b said
heard_answer_same a b (replies reply) same = refl
heard_answer_same a b (requests request) same = ap (λ (notice : Result HeardNotice ℕ). Some (answer_to request notice)) (notice_same a.holder b.holder request same.holder)
heard_answer_same a b (frames channel rest) same = refl
heard_answer_same a b (faults fault) same = refl

pub answer_same : (a b : Books) (h : Happening) → AreSame a b → answer_due a h ≡ answer_due b h
answer_same a b (enters conn) same = refl
answer_same a b (takes conn shape) same = refl
answer_same a b (ends conn) same = refl
answer_same a b (lags conn) same = refl
answer_same a b (hears shape) same = heard_answer_same a b (heard shape) same
answer_same a b (up_ends cause) same = refl

-- the books after it
settles_same : (a b : Books) (one other : Option Final) → one ≡ other → AreSame a b → AreSame (settles one a) (settles other b)
settles_same a b one other e same = record {
  opened = λ number. ap (λ final. opened_then final number (a.opened number)) e ∙ ap (opened_then other number) (same.opened number);
  held = λ pair. ap (λ final. held_then final pair (a.held pair)) e ∙ ap (held_then other pair) (same.held pair);
  holder = λ id. ap (λ final. holder_then final id (a.holder id)) e ∙ ap (holder_then other id) (same.holder id);
  issued = same.issued;
}

pub settled_same : (a b : Books) (h : Happening) → AreSame a b → AreSame (settled_by a h) (settled_by b h)
settled_same a b h same = settles_same a b (final_in a h) (final_in b h) (final_same a b h same) same

pub free_same : (a b : Books) → AreSame a b → free_in a ≡ free_in b
free_same a b same = lowest_free_same (λ pair. is_none (a.held pair)) (λ pair. is_none (b.held pair)) (λ pair. ap is_none (same.held pair))

lent_same : (a b : Books) (i : ℕ) (kind : RequestKind) → AreSame a b → AreSame (lends i kind a) (lends i kind b)
lent_same a b i kind same = record {
  opened = λ number. ap (λ n. let none : Option Opened = Some (record { conn = i; kind = kind }) in cond (number == n + 1) none (a.opened number)) same.issued
      ∙ ap (λ (o : Option Opened). let none : Option Opened = Some (record { conn = i; kind = kind }) in cond (number == b.issued + 1) none o) (same.opened number);
  held = λ pair. ap (λ (held : Option HeldPair). cond (is_pair (pair_asked kind) pair) (Some (record { conn = i; session = None })) held) (same.held pair);
  holder = same.holder;
  issued = ap (λ n. n + 1) same.issued;
}

pub lends_same : (a b : Books) (i : ℕ) (kind : Option RequestKind) → AreSame a b → AreSame (lends_where (Some i) kind a) (lends_where (Some i) kind b)
lends_same a b i None same = same
lends_same a b i (Some kind) same = lent_same a b i kind same
