-- What the multiplexer keeps of its connections: a history, room, and pairs that are low.
use Rattle.std.proofs.Common.{◌≡◌, ◌∙◌, ◌<◌, ◌≤◌, ◌+◌, ◌==◌, ℕ, Bool, true, false, cond, List, [], ◌∷◌, Option, Some, None, IsSome, IfSome, refl, sym, ap, subst}
use Rattle.std.specs.Prelude.{is_some}
use Rattle.std.specs.Option.{option_and_then}
use Rattle.std.proofs.lemmas.Bool.{eqb-true}
use Rattle.std.proofs.Math.Logic.{∥∥₁_elim}
use Rattle.std.proofs.Props.{props}
use Rattle.rtsp_uri.specs.declared.base.Bases.{Bases}
use Rattle.channel_map.specs.declared.map.TheConstants.{PAIRS}
use Rattle.channel_map.specs.declared.map.Freed.{Freed}
use Rattle.channel_map.specs.declared.map.Held.{Held}
use Rattle.channel_map.specs.Pairs.{kept, granted_now, is_free, lowest_free}
use Rattle.channel_map.proofs.PairLemmas.{lowest_free_below}
use Rattle.client_slot.specs.Client.{Client}
use Rattle.client_machine.specs.declared.parts.Done.{Done}
use Rattle.client_machine.specs.Frames.{Half, half_for}
use Rattle.session_one.specs.declared.parts.TheConstants.{MOST_SESSIONS}
use Rattle.client_slot.specs.Places.{tracks_of}
use Rattle.gateway_claim.specs.Happenings.{standing, entering}
use Rattle.gateway_mux.specs.declared.settlement.Settlement.{Settlement}
use Rattle.gateway_mux.specs.declared.turn.PlannedTurn.{PlannedTurn}
use Rattle.gateway_mux.specs.Acts.{IsTurnOfSome}
use Rattle.gateway_mux.specs.Enter.{IsNewIn, IsEntered, IsAsBefore}
use Rattle.gateway_mux.specs.WrongGrants.{IsLowPurpose}
use Rattle.gateway_mux.specs.Moves.{handed_by}
use Rattle.gateway_mux.specs.Pictures.{Picture, IsPictureOf, IsKept}
use Rattle.gateway_claim.specs.Books.{Final}
use Rattle.gateway_mux.specs.Settlements.{CanSettle, AreSettled, held_by, held_settled, torn_of, binds, unbinds}
use Rattle.gateway_mux.specs.Turn.{free_once, asks_pair, one_if}
use Rattle.gateway_mux.specs.Upstream.{taken_by, reserved_by, held_lent}
use Rattle.gateway_mux.proofs.ActLemmas.{turn_committed}
use Rattle.gateway_mux.proofs.AskLemmas.{asked_open, low_pending, low_pending_prop, low_tracks}
use Rattle.gateway_mux.proofs.CommitLemmas.{IsTurned}
use Rattle.gateway_mux.proofs.EnterLemmas.{enter_follows}
use Rattle.gateway_mux.proofs.OverLemmas.{kept_along}
use Rattle.gateway_mux.proofs.KeepLemmas.{room_for, kept_after, kept_entering, room_more, room_same, room_none}
use Rattle.gateway_mux.proofs.SettleableLemmas.{can_settle, can_settle_where}

-- Pairs stay low.
kept_was : (freed : Freed) (held : Option Held) → IsSome (kept freed held) → IsSome held
kept_was freed None some = some
kept_was freed (Some held) some = refl

by_was : (granted : Option ℕ) (freed : Freed) (p : ℕ) (held : Option Held) → IsSome (held_by granted freed p held) → IsSome held
by_was None freed p held some = kept_was freed held some
by_was (Some pair) freed p None some = by (p == pair) none some
  where
    none : Option Held
    none = None

    by : (t : Bool) (held : Option Held) → IsSome (cond t (granted_now held) held) → IsSome held
    by true None some = some
    by true (Some held) some = refl
    by false held some = some
by_was (Some pair) freed p (Some held) some = refl

settled_was : (settled : Option Settlement) (p : ℕ) (held : Option Held) → IsSome (held_settled settled p held) → IsSome held
settled_was None p held some = some
settled_was (Some settled) p held some = by_was settled.granted settled.freed p held some

taken_low : (conn p : ℕ) (lowest : Option ℕ) (held : Option Held) → IfSome lowest (λ q. q < PAIRS) → (IsSome held → p < PAIRS) → IsSome (taken_by conn lowest p held) → p < PAIRS
taken_low conn p None held low was some = was some
taken_low conn p (Some q) held low was some = by (p == q) refl some
  where
    by : (t : Bool) → (p == q) ≡ t → IsSome (cond t (Some (record { conn = conn; pair = q; granted = false })) held) → p < PAIRS
    by true e some = subst (λ (n : ℕ). n < PAIRS) (sym (eqb-true p q e)) low
    by false e some = was some

reserved_low : (reserves : Bool) (conn p : ℕ) (lowest : Option ℕ) (held : Option Held) → IfSome lowest (λ q. q < PAIRS) → (IsSome held → p < PAIRS) → IsSome (reserved_by reserves conn lowest p held) → p < PAIRS
reserved_low true conn p lowest held low was some = taken_low conn p lowest held low was some
reserved_low false conn p lowest held low was some = was some

lent_low : (goes reserves : Bool) (conn p : ℕ) (lowest : Option ℕ) (held : Option Held) → IfSome lowest (λ q. q < PAIRS) → (IsSome held → p < PAIRS) → IsSome (held_lent goes reserves conn lowest p held) → p < PAIRS
lent_low true reserves conn p lowest held low was some = reserved_low reserves conn p lowest held low was some
lent_low false reserves conn p lowest held low was some = was some

lowest_low : (free : ℕ → Bool) (lowest : Option ℕ) → lowest ≡ lowest_free free → IfSome lowest (λ pair. pair < PAIRS)
lowest_low free None e = tt
lowest_low free (Some pair) e = lowest_free_below free pair (sym e)

low_after : (one after : Picture) (it : PlannedTurn) (done : Done) → IsTurned one after it done → ((p : ℕ) → IsSome (one.held p) → p < PAIRS) → (p : ℕ) → IsSome (after.held p) → p < PAIRS
low_after one after it done turned low p some =
    lent_low it.asks (asks_pair (after.clients it.conn)) it.conn p (free_once it.settled one.held) (held_settled it.settled p (one.held p))
    (lowest_low (λ pair. is_free (held_settled it.settled pair (one.held pair))) (free_once it.settled one.held) refl)
    (λ was. low p (settled_was it.settled p (one.held p) was))
    (subst (λ (held : Option Held). IsSome held) (turned.held p) some)

-- No connection.
pub keeps_none : (bases : Bases) (one : Picture) (requests sessions : ℕ) → IsPictureOf bases one [] → ((i : ℕ) → one.clients i ≡ None) → ((p : ℕ) → one.held p ≡ None) → IsKept bases one requests sessions
keeps_none bases one requests sessions is clients held = record {
  history = [];
  is_of = is;
  room = room_none one.clients requests sessions clients;
  low = λ p some. absurd (none_some (one.held p) (held p) some);
}
  where
    none_some : (h : Option Held) → h ≡ None → IsSome h → ⊥
    none_some None e some = cc
    none_some (Some h) e some = cc

-- After a turn.
pub keeps_turn : (bases : Bases) (one after : Picture) (answer : Option (List ℕ)) (it : PlannedTurn) (done : Done) (requests sessions requests_now sessions_now : ℕ) → (its : IsTurnOfSome bases one answer it) → IsTurned one after it done
    → requests_now + one_if it.asks ≡ requests + one_if (is_some it.settled) → sessions_now + one_if (binds it.settled) ≡ sessions + one_if (unbinds it.settled (torn_of it.settled (one.clients it.conn)))
    → IsKept bases one requests sessions → IsKept bases after requests_now sessions_now
keeps_turn bases one after answer it done requests sessions requests_now sessions_now its turned room spare keeps = record {
  history = standing (record { happening = its.happening; outcome = handed_by it.conn answer done } ∷ keeps.history);
  is_of = (turn_committed bases one after its.happening answer it done its.is_planned turned keeps.history keeps.is_of).is_after;
  room = kept_after bases one after keeps.history its.happening answer it done requests sessions requests_now sessions_now keeps.is_of keeps.room its.is_planned turned room
      (spare ∙ ap (λ (client : Option Client). sessions + one_if (unbinds it.settled (torn_of it.settled client))) its.is_planned.its_turn.here);
  low = low_after one after it done turned keeps.low;
}

-- After an entering, and where more room was made.
pub keeps_entering : (bases : Bases) (conn : ℕ) (one after : Picture) (requests sessions : ℕ) → one.clients conn ≡ None → IsEntered conn one after → IsNewIn bases one conn → IsKept bases one requests sessions
    → IsKept bases after (requests + 1) (sessions + MOST_SESSIONS)
keeps_entering bases conn one after requests sessions none entered new keeps = record {
  history = entering conn ∷ new.history;
  is_of = enter_follows bases one after new.history conn new.is_of new.never entered.clients entered.asker entered.held entered.holder entered.issued;
  room = kept_entering conn one after requests sessions none entered.clients keeps.room;
  low = λ p some. keeps.low p (subst (λ (held : Option Held). IsSome held) (entered.held p) some);
}

pub keeps_more : (bases : Bases) (one after : Picture) (a b c d : ℕ) → IsAsBefore one after → a ≤ c → b ≤ d → IsKept bases one a b → IsKept bases after c d
keeps_more bases one after a b c d same more_requests more_sessions keeps = record {
  history = keeps.history;
  is_of = record {
    is_history = keeps.is_of.is_history;
    standing = keeps.is_of.standing;
    clients = λ i. kept_along (same.clients i) (keeps.is_of.clients i) refl;
    asker = λ n. same.asker n ∙ keeps.is_of.asker n;
    held = λ p. same.held p ∙ keeps.is_of.held p;
    holder = λ id. same.holder id ∙ keeps.is_of.holder id;
    issued = same.issued ∙ keeps.is_of.issued;
  };
  room = room_more after.clients a b c d (room_same one.clients after.clients a b same.clients keeps.room) more_requests more_sessions;
  low = λ p some. keeps.low p (subst (λ (held : Option Held). IsSome held) (same.held p) some);
}

-- What is known where such a history merely is there.
pub low_half : (bases : Bases) (one : Picture) (requests sessions conn channel : ℕ) (client : Client) (half : Half) → one.clients conn ≡ Some client → half_for channel (tracks_of client.sessions) ≡ Some half
    → ∥ IsKept bases one requests sessions ∥₁ → (half.pair < PAIRS) × (half.half ≤ 1)
low_half bases one requests sessions conn channel client half here found merely =
    ∥∥₁_elim merely (Prim.hlevel props) (λ keeps. low_tracks bases one keeps.history keeps.is_of keeps.low conn client here half channel found)

pub low_open : (bases : Bases) (one : Picture) (requests sessions conn : ℕ) (client : Client) → one.clients conn ≡ Some client → ∥ IsKept bases one requests sessions ∥₁ → IfSome client.pending IsLowPurpose
low_open bases one requests sessions conn client here merely =
    ∥∥₁_elim merely (low_pending_prop client.pending) (λ keeps. low_pending bases one keeps.history keeps.is_of keeps.low conn client here)

pub open_asked : (bases : Bases) (one : Picture) (requests sessions number conn : ℕ) → one.asker number ≡ Some conn → ∥ IsKept bases one requests sessions ∥₁
    → IsSome (option_and_then (λ (client : Client). client.pending) (one.clients conn))
open_asked bases one requests sessions number conn asked merely = ∥∥₁_elim merely (Prim.hlevel props) (λ keeps. asked_open bases one keeps.history keeps.is_of number conn asked)

pub room_asked : (bases : Bases) (one : Picture) (answer : Option (List ℕ)) (it : PlannedTurn) (requests sessions : ℕ) → IsTurnOfSome bases one answer it → it.asks ≡ true → it.settled ≡ None → ∥ IsKept bases one requests sessions ∥₁ → 0 < requests
room_asked bases one answer it requests sessions its asks unsettled merely =
    ∥∥₁_elim merely (Prim.hlevel props) (λ keeps. room_for bases one keeps.history its.happening answer it requests sessions keeps.is_of keeps.room its.is_planned asks unsettled)

pub settles_now : (bases : Bases) (one : Picture) (answer : Option (List ℕ)) (it : PlannedTurn) (requests sessions : ℕ) → IsTurnOfSome bases one answer it → ∥ IsKept bases one requests sessions ∥₁
    → IfSome it.settled (CanSettle one.asker one.held one.holder sessions it.conn (torn_of it.settled (one.clients it.conn)))
settles_now bases one answer it requests sessions its merely =
    ∥∥₁_elim merely (can_settle_where one.asker one.held one.holder sessions it.conn (torn_of it.settled (one.clients it.conn)) it.settled)
    (λ keeps. subst (λ (client : Option Client). IfSome it.settled (CanSettle one.asker one.held one.holder sessions it.conn (torn_of it.settled client))) (sym its.is_planned.its_turn.here) (by keeps it.settled refl))
  where
    by : IsKept bases one requests sessions → (settled : Option Settlement) → it.settled ≡ settled → IfSome settled (CanSettle one.asker one.held one.holder sessions it.conn (torn_of settled (Some its.is_planned.client)))
    by keeps None e = tt
    by keeps (Some settled) e = can_settle bases one keeps.history its.happening answer it requests sessions settled keeps.is_of keeps.room its.is_planned e

-- The place of the session that ends is one of the four.
pub settled_within : (final : Option Final) (client : Client) (settled : Option Settlement) → AreSettled final client settled → IfSome settled (λ one. IfSome one.torn (λ place. place < MOST_SESSIONS))
settled_within None client None settles = tt
settled_within None client (Some settled) settles = absurd settles
settled_within (Some final) client None settles = tt
settled_within (Some final) client (Some settled) settles = settles.within
