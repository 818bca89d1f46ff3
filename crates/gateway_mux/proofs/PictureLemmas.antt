-- What the multiplexer has is what its history has.
use Rattle.std.proofs.Common.{◌≡◌, ◌∙◌, ℕ, zero, suc, ◌+◌, is_some, not, Bool, true, false, cond, List, [], ◌∷◌, map, Option, Some, None, IsSome, refl, sym, ap, subst}
use Rattle.std.specs.Prelude.{is_none, ◌&&◌}
use Rattle.std.specs.Option.{option_map}
use Rattle.std.proofs.Math.Logic.{∥∥₁_elim}
use Rattle.std.proofs.Props.{props}
use Rattle.rtsp_uri.specs.declared.base.Bases.{Bases}
use Rattle.channel_map.specs.declared.map.Held.{Held}
use Rattle.head_two.specs.declared.reply.Reply2.{Reply2}
use Rattle.session_one.specs.Table.{is_success}
use Rattle.client_slot.specs.declared.purpose.Purpose.{Purpose}
use Rattle.client_slot.specs.declared.purpose.Purpose.TheVariants as purposes
use Rattle.client_slot.specs.Session.{PlayerSession}
use Rattle.client_slot.specs.Places.{new_sessions, session_at, first_place, filled_place}
use Rattle.client_slot.specs.Client.{Client}
use Rattle.client_slot.specs.Renumber.{purpose_under, session_under}
use Rattle.client_machine.specs.Alone.{Private, private_after, new_private}
use Rattle.gateway_claim.specs.declared.event.UpCause.TheVariants.{BadGrant, SessionTaken}
use Rattle.gateway_claim.specs.Books.{RequestKind, sets_up, tears_down, closes, plain, Opened, HeldPair, Books, id_said}
use Rattle.gateway_claim.specs.ServerItems.{Heard, replies, requests, frames, faults, heard}
use Rattle.gateway_claim.specs.Happenings.{Happening, enters, takes, ends, lags, hears, up_ends, HistoryEntry, entered}
use Rattle.gateway_claim.specs.OwnEvents.{owner_of, books_of}
use Rattle.gateway_claim.specs.Follows.{private_in, is_granted, is_bound, session_asked, kind_breach, session_of_private, reply_breach, heard_breach, said_breach}
use Rattle.gateway_claim.specs.BooksAndSlots.{IsStreamPair, opened_for, IsOpenFor}
use Rattle.gateway_claim.specs.Turns.{shared, shared_in, kind_pending}
use Rattle.gateway_claim.proofs.AgreeLemmas.{joined, alone, AreJoined}
use Rattle.gateway_claim.proofs.CaseLemmas.{own_absent}
use Rattle.gateway_claim.proofs.TurnLawLemmas.{under_at, under_where, kind_same}
use Rattle.gateway_mux.specs.Pictures.{Picture, opened_in, session_on, held_for, held_in, bare_held, books_in, IsPictureOf, IsKept}
use Rattle.gateway_mux.specs.Moves.{wrong_reply, wrong_heard, wrong_in}
use Rattle.connection_table.specs.Over.{is_over}
use Rattle.gateway_mux.specs.Departure.{IsKeptUnlessGone}
use Rattle.gateway_mux.specs.Turn.{named_by_client, kind_open}
use Rattle.gateway_mux.proofs.OverLemmas.{over_idle, over_unbound, busy_stays, kept_along, kept_none, kept_whole, kept_told}
use Rattle.gateway_mux.proofs.BooksLemmas.{AreSame}
use Rattle.gateway_mux.proofs.HolderLemmas.{session_found}

-- a connection that entered
shared_by : (bases : Bases) (T : List HistoryEntry) (i : ℕ) (t : Bool) → entered i T ≡ t → shared_in bases i T ≡ option_map (λ (private : Private). shared (books_of T) i private.client) (cond t (Some (alone bases T i)) None)
shared_by bases T i t e = ap (λ one. option_map (λ (private : Private). shared (books_of T) i private.client) (cond one (Some (alone bases T i)) None)) e

-- A connection that never entered is none.
pub none_in : (bases : Bases) (one : Picture) (T : List HistoryEntry) → IsPictureOf bases one T → (i : ℕ) → entered i T ≡ false → one.clients i ≡ None
none_in bases one T is i out = kept_none (one.clients i) (kept_along refl (is.clients i) (shared_by bases T i false out))

-- One that entered is kept, where it isn't over.
pub kept_in : (bases : Bases) (one : Picture) (T : List HistoryEntry) → IsPictureOf bases one T → (i : ℕ) → entered i T ≡ true → IsKeptUnlessGone (one.clients i) (Some (shared (books_of T) i (alone bases T i).client))
kept_in bases one T is i en = kept_along refl (is.clients i) (shared_by bases T i true en)

pub client_in : (bases : Bases) (one : Picture) (T : List HistoryEntry) → IsPictureOf bases one T → (i : ℕ) → entered i T ≡ true → is_over (shared (books_of T) i (alone bases T i).client) ≡ false
    → one.clients i ≡ Some (shared (books_of T) i (alone bases T i).client)
client_in bases one T is i en stays = kept_whole (one.clients i) (shared (books_of T) i (alone bases T i).client) (kept_in bases one T is i en) stays

some_none : {A : Type 0} → (a : A) → None ≡ Some a → ⊥
some_none a e = cc

some_is : (a b : Client) → Some a ≡ Some b → b ≡ a
some_is a b e = cc

pub entered_in : (bases : Bases) (one : Picture) (T : List HistoryEntry) → IsPictureOf bases one T → (i : ℕ) (client : Client) → one.clients i ≡ Some client
    → (entered i T ≡ true) × (client ≡ shared (books_of T) i (alone bases T i).client)
entered_in bases one T is i client here = by (entered i T) refl
  where
    by : (t : Bool) → entered i T ≡ t → (t ≡ true) × (client ≡ shared (books_of T) i (alone bases T i).client)
    by true e = (refl, some_is (shared (books_of T) i (alone bases T i).client) client (kept_along (sym here) (kept_in bases one T is i e) refl))
    by false e = absurd (some_none client (sym (none_in bases one T is i e) ∙ here))

-- One that entered and is not kept is over.
pub over_in : (bases : Bases) (one : Picture) (T : List HistoryEntry) → IsPictureOf bases one T → (i : ℕ) → one.clients i ≡ None → entered i T ≡ true → is_over (shared (books_of T) i (alone bases T i).client) ≡ true
over_in bases one T is i none en = kept_along (sym none) (kept_in bases one T is i en) refl

-- The connection that asked an open request entered, and has one open.
pub opened_entered : (bases : Bases) (T : List HistoryEntry) → AreJoined bases T → (number : ℕ) (opened : Opened) → (books_of T).opened number ≡ Some opened → entered opened.conn T ≡ true
opened_entered bases T all number opened e = by (entered opened.conn T) refl
  where
    open_some : IsSome (alone bases T opened.conn).client.pending
    open_some = ((all.1 opened.conn).last number opened e refl).1

    absent : entered opened.conn T ≡ false → IsSome new_private.client.pending
    absent out = subst (λ (one : Private). IsSome one.client.pending) (ap (private_after bases) (own_absent bases T opened.conn out)) open_some

    by : (t : Bool) → entered opened.conn T ≡ t → t ≡ true
    by true e = refl
    by false out = let some : IsSome new_private.client.pending = absent out in cc

-- nor is it over
pub some_under : (pairs : ℕ → ℕ) (pending : Option Purpose) → IsSome pending → IsSome (option_map (purpose_under pairs) pending)
some_under pairs None some = cc
some_under pairs (Some purpose) some = refl

pub asker_stays : (bases : Bases) (T : List HistoryEntry) → AreJoined bases T → (number : ℕ) (opened : Opened) → (books_of T).opened number ≡ Some opened → is_over (shared (books_of T) opened.conn (alone bases T opened.conn).client) ≡ false
asker_stays bases T all number opened e =
    busy_stays (shared (books_of T) opened.conn (alone bases T opened.conn).client)
    (some_under ((books_of T).pair_of opened.conn) (alone bases T opened.conn).client.pending ((all.1 opened.conn).last number opened e refl).1)

opened_kind : (a b : Opened) → Some a ≡ Some b → a.kind ≡ b.kind
opened_kind a b e = cc

-- The kind of an open request is that of what its connection has open.
pub kind_is : (bases : Bases) (T : List HistoryEntry) → AreJoined bases T → (number : ℕ) (opened : Opened) → (books_of T).opened number ≡ Some opened
    → kind_open (Some (shared (books_of T) opened.conn (alone bases T opened.conn).client)) ≡ opened.kind
kind_is bases T all number opened e = by (alone bases T opened.conn).client.pending (all.1 opened.conn).pending ((all.1 opened.conn).last number opened e refl).1
  where
    same_number : number ≡ (books_of T).number_of opened.conn (alone bases T opened.conn).count
    same_number = ((all.1 opened.conn).last number opened e refl).0

    sessions : List PlayerSession
    sessions = (alone bases T opened.conn).client.sessions

    by : (pending : Option Purpose) → IsOpenFor (books_of T) opened.conn ((books_of T).number_of opened.conn (alone bases T opened.conn).count) sessions pending → IsSome pending
        → kind_pending (map (session_under ((books_of T).number_of opened.conn) ((books_of T).pair_of opened.conn)) sessions) (option_map (purpose_under ((books_of T).pair_of opened.conn)) pending) ≡ opened.kind
    by None now some = cc
    by (Some purpose) now some =
        sym (kind_same ((books_of T).number_of opened.conn) ((books_of T).pair_of opened.conn) sessions purpose)
        ∙ opened_kind (opened_for (books_of T) opened.conn sessions purpose) opened (sym now.0 ∙ ap (books_of T).opened (sym same_number) ∙ e)

opened_same : (bases : Bases) (one : Picture) (T : List HistoryEntry) → IsPictureOf bases one T → (number : ℕ) → opened_in one number ≡ (books_of T).opened number
opened_same bases one T is number = by ((books_of T).opened number) refl
  where
    all : AreJoined bases T
    all = joined bases T is.is_history is.standing

    by : (opened : Option Opened) → (books_of T).opened number ≡ opened → opened_in one number ≡ opened
    by None e = ap (option_map (λ conn. let entry : Opened = record { conn = conn; kind = kind_open (one.clients conn) } in entry)) (is.asker number ∙ ap (option_map (λ (o : Opened). o.conn)) e)
    by (Some opened) e =
        ap (option_map (λ conn. let entry : Opened = record { conn = conn; kind = kind_open (one.clients conn) } in entry)) (is.asker number ∙ ap (option_map (λ (o : Opened). o.conn)) e)
        ∙ ap (λ (client : Option Client). let entry : Opened = record { conn = opened.conn; kind = kind_open client } in Some entry)
        (client_in bases one T is opened.conn (opened_entered bases T all number opened e) (asker_stays bases T all number opened e))
        ∙ ap (λ kind. let entry : Opened = record { conn = opened.conn; kind = kind } in Some entry) (kind_is bases T all number opened e)

-- A connection that has a session entered, and is not over.
some_by : (t : Bool) (from : ℕ) (rest : Option ℕ) → is_some rest ≡ true → is_some (cond t (Some from) rest) ≡ true
some_by true from rest some = refl
some_by false from rest some = some

first_some : (place : ℕ) (id : List ℕ) (from : ℕ) (sessions : List PlayerSession) → (session_at place sessions).id ≡ Some id → is_some (first_place (λ session. is_some session.id) from sessions) ≡ true
first_some place id from [] named = cc
first_some zero id from (one ∷ more) named = ap (λ t. is_some (cond t (Some from) (first_place (λ session. is_some session.id) (from + 1) more))) (ap is_some named)
first_some (suc place) id from (one ∷ more) named = some_by (is_some one.id) from (first_place (λ session. is_some session.id) (from + 1) more) (first_some place id (from + 1) more named)

pub filled_under : (numbers pairs : ℕ → ℕ) (sessions : List PlayerSession) (place : ℕ) (id : List ℕ) → (session_at place sessions).id ≡ Some id → is_some (filled_place (map (session_under numbers pairs) sessions)) ≡ true
filled_under numbers pairs sessions place id named = first_some place id 0 (map (session_under numbers pairs) sessions) (under_at numbers pairs place sessions ∙ named)

not_over : (client : Client) → is_some (filled_place client.sessions) ≡ true → is_over client ≡ false
not_over client filled = by (is_over client) refl
  where
    none_some : (place : Option ℕ) → place ≡ None → is_some place ≡ true → ⊥
    none_some None e s = cc
    none_some (Some at) e s = cc

    by : (t : Bool) → is_over client ≡ t → t ≡ false
    by false e = refl
    by true e = absurd (none_some (filled_place client.sessions) (over_unbound client e) filled)

pub holder_there : (bases : Bases) (one : Picture) (T : List HistoryEntry) → IsPictureOf bases one T → (i place : ℕ) (id : List ℕ) → (session_at place (alone bases T i).client.sessions).id ≡ Some id
    → one.clients i ≡ Some (shared (books_of T) i (alone bases T i).client)
holder_there bases one T is i place id named = by (entered i T) refl
  where
    absent : entered i T ≡ false → (session_at place new_private.client.sessions).id ≡ Some id
    absent out = subst (λ (own_one : Private). (session_at place own_one.client.sessions).id ≡ Some id) (ap (private_after bases) (own_absent bases T i out)) named

    new_none : (place : ℕ) → (session_at place new_sessions).id ≡ None
    new_none zero = refl
    new_none (suc zero) = refl
    new_none (suc (suc zero)) = refl
    new_none (suc (suc (suc zero))) = refl
    new_none (suc (suc (suc (suc place)))) = refl

    by : (t : Bool) → entered i T ≡ t → one.clients i ≡ Some (shared (books_of T) i (alone bases T i).client)
    by true e = client_in bases one T is i e (not_over (shared (books_of T) i (alone bases T i).client)
        (filled_under ((books_of T).number_of i) ((books_of T).pair_of i) (alone bases T i).client.sessions place id named))
    by false e = absurd (some_none id (sym (new_none place) ∙ absent e))

-- Who holds a pair, and for which session.
held_same : (bases : Bases) (one : Picture) (T : List HistoryEntry) → IsPictureOf bases one T → (pair : ℕ) → held_in one pair ≡ (books_of T).held pair
held_same bases one T is pair = ap (option_map (held_for one)) (is.held pair) ∙ by ((books_of T).held pair) refl
  where
    all : AreJoined bases T
    all = joined bases T is.is_history is.standing

    for_it : (conn : ℕ) (session : Option (List ℕ)) → (books_of T).held pair ≡ Some (record { conn = conn; session = session }) → cond (is_some session) (session_on pair (one.clients conn)) None ≡ session
    for_it conn None e = refl
    for_it conn (Some id) e =
        let stream : IsStreamPair ((books_of T).pair_of conn) (alone bases T conn).client.sessions id pair = (all.1 conn).granted pair id e in
        ap (session_on pair) (holder_there bases one T is conn stream.place id stream.named)
        ∙ session_found (books_of T) conn (alone bases T conn).client.sessions pair id (all.1 conn).tracks e stream

    by : (held : Option HeldPair) → (books_of T).held pair ≡ held → option_map (held_for one) (option_map (bare_held pair) held) ≡ held
    by None e = refl
    by (Some held) e = ap (λ session. let there : HeldPair = record { conn = held.conn; session = session } in Some there) (for_it held.conn held.session e)

-- A pair that is granted has its connection for its owner.
owned_by : (held : Option HeldPair) (pair : ℕ) (bare : Held) → option_map (bare_held pair) held ≡ Some bare → bare.granted ≡ true → owner_of held ≡ Some bare.conn
owned_by None pair bare e granted = cc
owned_by (Some held) pair bare e granted =
    let same : bare_held pair held ≡ bare = cc in
    owner held.session (ap (λ (one : Held). one.granted) same ∙ granted) ∙ ap (λ (one : Held). Some one.conn) same
  where
    owner : (session : Option (List ℕ)) → is_some session ≡ true → cond (is_some session) (Some held.conn) None ≡ Some held.conn
    owner session some = ap (λ t. cond t (Some held.conn) None) some

pub owner_kept : (bases : Bases) (one : Picture) (a b pair : ℕ) (bare : Held) → ∥ IsKept bases one a b ∥₁ → one.held pair ≡ Some bare → bare.granted ≡ true → owner_of ((books_in one).held pair) ≡ Some bare.conn
owner_kept bases one a b pair bare merely here granted =
    ∥∥₁_elim merely (Prim.hlevel props)
    (λ keeps. ap owner_of (held_same bases one keeps.history keeps.is_of pair) ∙ owned_by ((books_of keeps.history).held pair) pair bare (sym (keeps.is_of.held pair) ∙ here) granted)

-- The books are the same.
pub same_books : (bases : Bases) (one : Picture) (T : List HistoryEntry) → IsPictureOf bases one T → AreSame (books_in one) (books_of T)
same_books bases one T is = record {
  opened = opened_same bases one T is;
  held = held_same bases one T is;
  holder = is.holder;
  issued = is.issued;
}

-- What is wrong is the same.
bound_same : (a b : Books) (id : Option (List ℕ)) → AreSame a b → is_bound a id ≡ is_bound b id
bound_same a b None same = refl
bound_same a b (Some id) same = ap is_some (same.holder id)

kind_breach_same : (a b : Books) (kind : RequestKind) (session : Option (List ℕ)) (reply : Reply2) → AreSame a b → kind_breach a kind session reply ≡ kind_breach b kind session reply
kind_breach_same a b (sets_up pair) session reply same =
    ap (λ t. cond (is_success reply.code) (cond (not (is_granted pair session reply)) (Some (BadGrant reply.cseq)) (cond (is_none session && t) (Some (SessionTaken reply.cseq)) None)) None)
    (bound_same a b (id_said reply) same)
kind_breach_same a b (tears_down id) session reply same = refl
kind_breach_same a b (closes id) session reply same = refl
kind_breach_same a b plain session reply same = refl

-- The session that an open request named is that of the connection alone.
asked_none : (client : Client) → client.pending ≡ None → session_asked client.sessions client.pending ≡ None
asked_none client none = ap (session_asked client.sessions) none

asked_under : (numbers pairs : ℕ → ℕ) (sessions : List PlayerSession) (pending : Option Purpose) → session_asked (map (session_under numbers pairs) sessions) (option_map (purpose_under pairs) pending) ≡ session_asked sessions pending
asked_under numbers pairs sessions None = refl
asked_under numbers pairs sessions (Some (purposes.Client asked track)) = under_where numbers pairs asked.place sessions
asked_under numbers pairs sessions (Some (purposes.Released play)) = refl
asked_under numbers pairs sessions (Some (purposes.Closing place)) = refl

session_same : (bases : Bases) (one : Picture) (T : List HistoryEntry) → IsPictureOf bases one T → (i : ℕ) → named_by_client (one.clients i) ≡ session_of_private (private_in bases i T)
session_same bases one T is i = kept_told (one.clients i) (shared_in bases i T) (is.clients i) named_by_client (λ client over. asked_none client (over_idle client over)) ∙ by (private_in bases i T)
  where
    by : (private : Option Private) → named_by_client (option_map (λ (one : Private). shared (books_of T) i one.client) private) ≡ session_of_private private
    by None = refl
    by (Some private) = asked_under ((books_of T).number_of i) ((books_of T).pair_of i) private.client.sessions private.client.pending

reply_same : (bases : Bases) (one : Picture) (T : List HistoryEntry) → IsPictureOf bases one T → (reply : Reply2) (opened : Option Opened) → wrong_reply one reply opened ≡ reply_breach bases T reply opened
reply_same bases one T is reply None = refl
reply_same bases one T is reply (Some opened) =
    kind_breach_same (books_in one) (books_of T) opened.kind (named_by_client (one.clients opened.conn)) reply (same_books bases one T is)
    ∙ ap (λ session. kind_breach (books_of T) opened.kind session reply) (session_same bases one T is opened.conn)

heard_wrong_same : (bases : Bases) (one : Picture) (T : List HistoryEntry) → IsPictureOf bases one T → (said : Heard) → wrong_heard one said ≡ heard_breach bases T said
heard_wrong_same bases one T is (replies reply) =
    ap (wrong_reply one reply) (opened_same bases one T is reply.cseq) ∙ reply_same bases one T is reply ((books_of T).opened reply.cseq)
heard_wrong_same bases one T is (requests request) = refl
heard_wrong_same bases one T is (frames channel rest) = refl
heard_wrong_same bases one T is (faults fault) = refl

pub wrong_same : (bases : Bases) (one : Picture) (T : List HistoryEntry) → IsPictureOf bases one T → (h : Happening) → wrong_in one h ≡ said_breach bases T h
wrong_same bases one T is (enters conn) = refl
wrong_same bases one T is (takes conn shape) = refl
wrong_same bases one T is (ends conn) = refl
wrong_same bases one T is (lags conn) = refl
wrong_same bases one T is (hears shape) = heard_wrong_same bases one T is (heard shape)
wrong_same bases one T is (up_ends cause) = refl
