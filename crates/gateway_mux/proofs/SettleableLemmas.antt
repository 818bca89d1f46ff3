-- What is planned to be settled can be settled: the books have the request, the pair and the room for it.
use Rattle.std.proofs.Common.{◌≡◌, ◌∙◌, ℕ, ◌≤◌, ◌<◌, Bool, true, false, List, Option, Some, None, IsSome, IfSome, refl, sym, ap, subst, arith}
use Rattle.std.specs.Prelude.{is_some}
use Rattle.std.specs.Option.{option_map}
use Rattle.std.proofs.Props.{props}
use Rattle.rtsp_uri.specs.declared.base.Bases.{Bases}
use Rattle.channel_map.specs.declared.map.Held.{Held}
use Rattle.client_slot.specs.Places.{session_at, session_where}
use Rattle.client_slot.specs.Client.{Client}
use Rattle.gateway_claim.specs.Books.{RequestKind, sets_up, tears_down, closes, plain, Opened, Books, Final, bound_by}
use Rattle.gateway_claim.specs.Happenings.{Happening, HistoryEntry}
use Rattle.gateway_claim.specs.OwnEvents.{final_in, books_of}
use Rattle.gateway_claim.specs.Follows.{is_bound, session_asked}
use Rattle.gateway_claim.specs.Turns.{shared}
use Rattle.gateway_claim.proofs.AgreeLemmas.{alone}
use Rattle.gateway_claim.proofs.OtherLemmas.{IsHeldKind}
use Rattle.gateway_mux.specs.declared.settlement.Settlement.{Settlement}
use Rattle.gateway_mux.specs.declared.turn.PlannedTurn.{PlannedTurn}
use Rattle.gateway_mux.specs.Acts.{IsPlannedTurn}
use Rattle.gateway_mux.specs.Pictures.{Picture, bare_held, books_in, IsPictureOf}
use Rattle.gateway_mux.specs.Room.{sum_of, empty_places, unbound_count, HasRoom}
use Rattle.gateway_mux.specs.Settlements.{granted_by, bound_new, IsSettled, AreSettled, CanSettle, torn_of}
use Rattle.gateway_mux.proofs.FinalLemmas.{IsRight}
use Rattle.gateway_mux.proofs.OwnLemmas.{setup_room}
use Rattle.gateway_mux.proofs.PictureLemmas.{entered_in}
use Rattle.gateway_mux.proofs.RoomLemmas.{sum_at_least}
use Rattle.gateway_mux.proofs.SettlementLemmas.{IsSettledTurn, IsDue, joined_in, own_in, due_in}

-- The sessions of a connection are bound to it, and it has every one that is.
pub session_bound : (bases : Bases) (one : Picture) (T : List HistoryEntry) → IsPictureOf bases one T → (i : ℕ) (client : Client) → one.clients i ≡ Some client → (place : ℕ) (id : List ℕ) → (session_at place client.sessions).id ≡ Some id → one.holder id ≡ Some i
session_bound bases one T is i client here place id has = is.holder id ∙ (own_in bases one T i client is here).holds place id has

pub session_has : (bases : Bases) (one : Picture) (T : List HistoryEntry) → IsPictureOf bases one T → (i : ℕ) (client : Client) → one.clients i ≡ Some client → (id : List ℕ) → one.holder id ≡ Some i → (place : ℕ) × ((session_at place client.sessions).id ≡ Some id)
session_has bases one T is i client here id bound = (own_in bases one T i client is here).session id (sym (is.holder id) ∙ bound)

-- The pair that is granted is held.
granted_held : (held : ℕ → Option Held) (books : Books) (conn : ℕ) (kind : RequestKind) (success : Bool) → ((p : ℕ) → held p ≡ option_map (bare_held p) (books.held p)) → IsHeldKind books conn kind → IfSome (granted_by kind success) (λ pair. IsSome (held pair))
granted_held held books conn (sets_up pair) true same is = ap is_some (same pair ∙ ap (option_map (bare_held pair)) is)
granted_held held books conn (sets_up pair) false same is = tt
granted_held held books conn (tears_down id) success same is = tt
granted_held held books conn (closes id) success same is = tt
granted_held held books conn plain success same is = tt

-- A session is bound only by the success of a SETUP that named none.
pub record IsNew (final : Final) (named : Option (List ℕ)) : Type 0 where
  pub pair : ℕ
  pub kind : final.kind ≡ sets_up pair
  pub success : final.success ≡ true
  pub none : named ≡ None

pub new_is : (final : Final) (named : Option (List ℕ)) → IsSome (bound_new final named) → IsNew final named
new_is final (Some id) some = cc
new_is final None some = by final.kind final.success refl refl some
  where
    by : (kind : RequestKind) (success : Bool) → final.kind ≡ kind → final.success ≡ success → IsSome (bound_by kind success final.id) → IsNew final None
    by (sets_up pair) true kind success some = record { pair = pair; kind = kind; success = success; none = refl }
    by (sets_up pair) false kind success some = cc
    by (tears_down id) success kind is some = cc
    by (closes id) success kind is some = cc
    by plain success kind is some = cc

-- Nobody has it.
free_holder : (holder : Option ℕ) → is_some holder ≡ false → holder ≡ None
free_holder None e = refl
free_holder (Some conn) e = cc

fresh_if : (holder : List ℕ → Option ℕ) (books : Books) (id : Option (List ℕ)) → ((one : List ℕ) → holder one ≡ books.holder one) → is_bound books id ≡ false → IfSome id (λ one. holder one ≡ None)
fresh_if holder books None same free = tt
fresh_if holder books (Some id) same free = same id ∙ free_holder (books.holder id) free

bound_fresh : (holder : List ℕ → Option ℕ) (books : Books) (final : Final) (named : Option (List ℕ)) → ((id : List ℕ) → holder id ≡ books.holder id) → IsRight books final named → IfSome (bound_new final named) (λ id. holder id ≡ None)
bound_fresh holder books final (Some own) same right = tt
bound_fresh holder books final None same right = by final.kind final.success refl refl
  where
    by : (kind : RequestKind) (success : Bool) → final.kind ≡ kind → final.success ≡ success → IfSome (bound_by kind success final.id) (λ id. holder id ≡ None)
    by (sets_up pair) true kind success = fresh_if holder books final.id same (right pair kind success).1
    by (sets_up pair) false kind success = tt
    by (tears_down id) success kind is = tt
    by (closes id) success kind is = tt
    by plain success kind is = tt

-- A connection whose SETUP named no session has an empty place, for which there is room.
unbound_counts : (clients : ℕ → Option Client) (requests sessions i : ℕ) (client : Client) → HasRoom clients requests sessions → clients i ≡ Some client → 1 ≤ empty_places client.sessions → 0 < sessions
unbound_counts clients requests sessions i client room here some =
    let counted : unbound_count (clients i) ≤ sum_of (λ j. unbound_count (clients j)) room.roster = sum_at_least (λ j. unbound_count (clients j)) i room.roster (room.all i ∙ ap is_some here) in
    let least : empty_places client.sessions ≤ sum_of (λ j. unbound_count (clients j)) room.roster = subst (λ (one : Option Client). unbound_count one ≤ sum_of (λ j. unbound_count (clients j)) room.roster) here counted in
    let low : sum_of (λ j. unbound_count (clients j)) room.roster ≤ sessions = room.for_sessions in
    omega (arith, some, least, low)

new_room : (bases : Bases) (one : Picture) (T : List HistoryEntry) (i : ℕ) (client : Client) (final : Final) → IsPictureOf bases one T → one.clients i ≡ Some client → IsDue (books_of T) i client final
    → IsNew final (session_asked client.sessions client.pending) → 1 ≤ empty_places client.sessions
new_room bases one T i client final is here due new =
    let there : client ≡ shared (books_of T) i (alone bases T i).client = (entered_in bases one T is i client here).1 in
    let opened : (books_of T).opened final.number ≡ Some (record { conn = i; kind = sets_up new.pair }) =
    due.is_final.opened ∙ ap (λ conn. Some (record { conn = conn; kind = final.kind })) due.conn ∙ ap (λ kind. Some (record { conn = i; kind = kind })) new.kind in
    subst (λ (c : Client). 1 ≤ empty_places c.sessions) (sym there)
    (setup_room (books_of T) i (alone bases T i).count final.number new.pair (alone bases T i).client ((joined_in bases one T is).1 i) opened
    (ap (λ (c : Client). session_asked c.sessions c.pending) (sym there) ∙ new.none))

can_be_settled : (bases : Bases) (one : Picture) (T : List HistoryEntry) (i : ℕ) (client : Client) (requests sessions : ℕ) (final : Final) (settled : Settlement) → IsPictureOf bases one T → HasRoom one.clients requests sessions
    → one.clients i ≡ Some client → IsDue (books_of T) i client final → IsSettled final client settled → CanSettle one.asker one.held one.holder sessions i (torn_of (Some settled) (Some client)) settled
can_be_settled bases one T i client requests sessions final settled is room here due is_settled = record {
  is_open = is.asker settled.number ∙ ap (λ number. option_map (λ (opened : Opened). opened.conn) ((books_of T).opened number)) is_settled.number
      ∙ ap (option_map (λ (opened : Opened). opened.conn)) due.is_final.opened ∙ ap (λ who. Some who) due.conn;
  is_held = subst (λ (granted : Option ℕ). IfSome granted (λ pair. IsSome (one.held pair))) (sym is_settled.granted) (granted_held one.held (books_of T) final.conn final.kind final.success is.held due.is_final.held);
  has_room = λ some. unbound_counts one.clients requests sessions i client room here
      (new_room bases one T i client final is here due (new_is final (session_asked client.sessions client.pending) (subst (λ (bound : Option (List ℕ)). IsSome bound) is_settled.bound some)));
  is_fresh = subst (λ (bound : Option (List ℕ)). IfSome bound (λ id. one.holder id ≡ None)) (sym is_settled.bound)
      (bound_fresh one.holder (books_of T) final (session_asked client.sessions client.pending) is.holder due.right);
  is_own = by settled.torn;
}
  where
    here_own : (place : ℕ) (id : Option (List ℕ)) → (session_at place client.sessions).id ≡ id → IfSome id (λ one_id. one.holder one_id ≡ Some i)
    here_own place None e = tt
    here_own place (Some id) e = is.holder id ∙ due.own.holds place id e

    by : (torn : Option ℕ) → IfSome (session_where torn client.sessions).id (λ id. one.holder id ≡ Some i)
    by None = tt
    by (Some place) = here_own place (session_at place client.sessions).id refl

settled_turn : (bases : Bases) (one : Picture) (h : Happening) (answer : Option (List ℕ)) (it : PlannedTurn) → (its : IsPlannedTurn bases one h answer it) → IsSettledTurn one h it.conn its.client it.settled
settled_turn bases one h answer it its = record { turns = its.its_turn.turns; here = its.its_turn.here; said = its.its_turn.said; settles = its.settles }

pub can_settle : (bases : Bases) (one : Picture) (T : List HistoryEntry) (h : Happening) (answer : Option (List ℕ)) (it : PlannedTurn) (requests sessions : ℕ) (settled : Settlement) → IsPictureOf bases one T → HasRoom one.clients requests sessions
    → (its : IsPlannedTurn bases one h answer it) → it.settled ≡ Some settled → CanSettle one.asker one.held one.holder sessions it.conn (torn_of (Some settled) (Some its.client)) settled
can_settle bases one T h answer it requests sessions settled is room its settles =
    by (final_in (books_in one) h) (due_in bases one T h it.conn its.client it.settled is (settled_turn bases one h answer it its)) (subst (λ (one_settled : Option Settlement). AreSettled (final_in (books_in one) h) its.client one_settled) settles its.settles)
  where
    by : (final : Option Final) → IfSome final (IsDue (books_of T) it.conn its.client) → AreSettled final its.client (Some settled) → CanSettle one.asker one.held one.holder sessions it.conn (torn_of (Some settled) (Some its.client)) settled
    by None due is_settled = absurd is_settled
    by (Some final) due is_settled = can_be_settled bases one T it.conn its.client requests sessions final settled is room its.its_turn.here due is_settled

-- That it can be settled has one proof at most.
pub can_settle_prop : (asker : ℕ → Option ℕ) (held : ℕ → Option Held) (holder : List ℕ → Option ℕ) (spare conn : ℕ) (torn : Option (List ℕ)) (settled : Settlement) → IsProp (CanSettle asker held holder spare conn torn settled)
can_settle_prop asker held holder spare conn torn settled = hlevel props

pub can_settle_where : (asker : ℕ → Option ℕ) (held : ℕ → Option Held) (holder : List ℕ → Option ℕ) (spare conn : ℕ) (torn : Option (List ℕ)) (settled : Option Settlement)
    → IsProp (IfSome settled (CanSettle asker held holder spare conn torn))
can_settle_where asker held holder spare conn torn settled = hlevel props
