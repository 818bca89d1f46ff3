-- The room that is kept for requests and for sessions, as connections enter and have their turns.
use Rattle.std.proofs.Common.{◌≡◌, ◌≢◌, ◌∙◌, ℕ, ◌+◌, ◌≤◌, ◌<◌, ◌==◌, ◌||◌, Bool, true, false, cond, List, [], ◌∷◌, map, Option, Some, None, IsSome, is_some, refl, sym, ap, subst, arith}
use Rattle.std.specs.Prelude.{is_none}
use Rattle.std.specs.Option.{option_map}
use Rattle.std.proofs.lemmas.Bool.{eq-eqb, eqb-true}
use Rattle.rtsp_uri.specs.declared.base.Bases.{Bases}
use Rattle.head_two.specs.declared.request.Request2.{Request2}
use Rattle.session_one.specs.declared.parts.TheConstants.{MOST_SESSIONS}
use Rattle.client_slot.specs.declared.purpose.Purpose.{Purpose}
use Rattle.client_slot.specs.declared.purpose.Purpose.TheVariants as purposes
use Rattle.client_slot.specs.Session.{PlayerSession}
use Rattle.client_slot.specs.Renumber.{purpose_under, session_under}
use Rattle.client_slot.specs.Client.{Client, new_client}
use Rattle.client_slot.proofs.PlaceLemmas.{first_mapped, at_mapped}
use Rattle.client_machine.specs.declared.parts.Done.{Done}
use Rattle.client_machine.specs.OpenRequests.{IsOpenAs, AsksBy}
use Rattle.client_machine.specs.Events.{Outgoing, asks, carries, Effect}
use Rattle.client_machine.specs.Step.{Hearing}
use Rattle.client_machine.specs.Plans.{heard_by}
use Rattle.client_machine.proofs.HoldLemmas.{going_steady}
use Rattle.gateway_claim.specs.Books.{Opened, Books, Final}
use Rattle.gateway_claim.specs.BooksAndSlots.{IsForSession, IsOpenFor, IsJoined}
use Rattle.gateway_claim.specs.Happenings.{Happening, HistoryEntry}
use Rattle.gateway_claim.specs.OwnEvents.{final_in, books_of}
use Rattle.gateway_claim.specs.Turns.{number_heard, kind_pending}
use Rattle.gateway_claim.proofs.AgreeLemmas.{joined, alone}
use Rattle.gateway_mux.specs.declared.settlement.Settlement.{Settlement}
use Rattle.gateway_mux.specs.declared.turn.PlannedTurn.{PlannedTurn}
use Rattle.gateway_mux.specs.Acts.{IsPlannedTurn}
use Rattle.gateway_mux.specs.Pictures.{Picture, books_in, IsPictureOf}
use Rattle.gateway_mux.specs.Room.{is_in, IsOnce, sum_of, idle_count, empty_places, unbound_count, HasRoom}
use Rattle.gateway_mux.specs.Settlements.{AreSettled, gives_back, torn_of, binds, unbinds}
use Rattle.gateway_mux.specs.Turn.{free_once, kind_open, one_if}
use Rattle.gateway_mux.proofs.AfterTurnLemmas.{effect_asks}
use Rattle.gateway_mux.proofs.CommitLemmas.{IsTurned, effect_of, goes, done_is}
use Rattle.gateway_mux.proofs.EmptyLemmas.{same_empty, Evens}
use Rattle.gateway_mux.proofs.OpenLemmas.{hearing_keeps, bound_in, torn_in, IsSetOpen, IsKindOpen, hearing_evens}
use Rattle.gateway_mux.proofs.PictureLemmas.{entered_in}
use Rattle.gateway_mux.proofs.RoomLemmas.{sum_same, sum_all, sum_changes, sum_at_least}

-- Where no final reply came, what is open is as before.
none_final : (final : Option Final) (client : Client) (settled : Option Settlement) → AreSettled final client settled → settled ≡ None → final ≡ None
none_final None client settled is none = refl
none_final (Some final) client settled is none = absurd (subst (λ (one : Option Settlement). AreSettled (Some final) client one) none is)

pending_kept : (bases : Bases) (one : Picture) (h : Happening) (answer : Option (List ℕ)) (it : PlannedTurn) → (its : IsPlannedTurn bases one h answer it) → it.settled ≡ None
    → (heard_by bases it.number its.client its.comes).effect.client.pending ≡ its.client.pending
pending_kept bases one h answer it its none =
    ap (λ said. said.effect.client.pending) its.says
    ∙ hearing_keeps bases (books_in one) (number_heard h) it.conn its.client h its.raw its.its_turn.turns its.its_turn.is_raw (none_final (final_in (books_in one) h) its.client it.settled its.settles none)

-- A request goes up where none was open, and one is open then.
open_some : (pending : Option Purpose) (request : Request2) (named : Option ℕ) → IsOpenAs pending request named → IsSome pending
open_some None request named is = absurd is
open_some (Some purpose) request named is = refl

asked_idle : (pair : Option ℕ) (old new : Option Purpose) (message : Option Outgoing) → AsksBy pair old message new → IsSome message → old ≡ None
asked_idle pair old new None is some = cc
asked_idle pair old new (Some (asks request named)) is some = is.before
asked_idle pair old new (Some (carries half_pair half rest)) is some = absurd is

-- A connection that has no request open is counted.
idle_counts : (clients : ℕ → Option Client) (requests sessions i : ℕ) (client : Client) → HasRoom clients requests sessions → clients i ≡ Some client → client.pending ≡ None → 0 < requests
idle_counts clients requests sessions i client room here none =
    let some : idle_count (clients i) ≤ sum_of (λ j. idle_count (clients j)) room.roster = sum_at_least (λ j. idle_count (clients j)) i room.roster (room.all i ∙ ap is_some here) in
    let one : idle_count (clients i) ≡ 1 = ap idle_count here ∙ ap (λ (pending : Option Purpose). cond (is_none pending) 1 0) none in
    let low : sum_of (λ j. idle_count (clients j)) room.roster ≤ requests = room.for_requests in
    omega (arith, some, one, low)

pub room_for : (bases : Bases) (one : Picture) (T : List HistoryEntry) (h : Happening) (answer : Option (List ℕ)) (it : PlannedTurn) (requests sessions : ℕ) → IsPictureOf bases one T → HasRoom one.clients requests sessions → IsPlannedTurn bases one h answer it
    → it.asks ≡ true → it.settled ≡ None → 0 < requests
room_for bases one T h answer it requests sessions is room its up none =
    idle_counts one.clients requests sessions it.conn its.client room its.its_turn.here
    (sym (pending_kept bases one h answer it its none)
    ∙ asked_idle (free_once it.settled one.held) (heard_by bases it.number its.client its.comes).effect.client.pending effect.client.pending effect.message (effect_asks bases it.number (free_once it.settled one.held) its.client its.comes its.is_sound)
    (sym (goes bases one h answer it its) ∙ up))
  where
    effect : Effect
    effect = effect_of bases one it its.client its.comes

-- A turn leaves no more connections idle than what was settled and did not go up.
one_at_most : (t : Bool) → one_if t ≤ 1
one_at_most true = omega arith
one_at_most false = omega arith

fewer_idle : (pair : Option ℕ) (before old new : Option Purpose) (message : Option Outgoing) (going settles : Bool) → going ≡ is_some message → AsksBy pair old message new → (settles ≡ false → old ≡ before)
    → one_if (is_none new) + one_if going ≤ one_if (is_none before) + one_if settles
fewer_idle pair before old new None going settles is asked kept =
    subst (λ (t : Bool). one_if (is_none new) + one_if t ≤ one_if (is_none before) + one_if settles) (sym is) (by settles kept)
  where
    by : (t : Bool) → (t ≡ false → old ≡ before) → one_if (is_none new) + 0 ≤ one_if (is_none before) + one_if t
    by true kept = let low : one_if (is_none new) ≤ 1 = one_at_most (is_none new) in omega arith
    by false kept = subst (λ (pending : Option Purpose). one_if (is_none new) + 0 ≤ one_if (is_none pending) + 0) (asked ∙ kept refl) (omega arith)
fewer_idle pair before old new (Some (asks request named)) going settles is asked kept =
    subst (λ (t : Bool). one_if (is_none new) + one_if t ≤ one_if (is_none before) + one_if settles) (sym is) (by_new new (open_some new request named asked.after))
  where
    by_settles : (t : Bool) → (t ≡ false → old ≡ before) → 1 ≤ one_if (is_none before) + one_if t
    by_settles true kept = omega arith
    by_settles false kept = subst (λ (pending : Option Purpose). 1 ≤ one_if (is_none pending) + 0) (sym asked.before ∙ kept refl) (omega arith)

    by_new : (pending : Option Purpose) → IsSome pending → one_if (is_none pending) + 1 ≤ one_if (is_none before) + one_if settles
    by_new None some = cc
    by_new (Some purpose) some = let low : 1 ≤ one_if (is_none before) + one_if settles = by_settles settles kept in omega arith
fewer_idle pair before old new (Some (carries half_pair half rest)) going settles is asked kept = absurd asked

-- Nor more places empty than what was freed and not bound.
settled_even : (now was : ℕ) (final : Option Final) (client : Client) (settled : Option Settlement) → AreSettled final client settled → Evens now was (bound_in client final) (torn_in final)
    → now + one_if (binds settled) ≤ was + one_if (unbinds settled (torn_of settled (Some client)))
settled_even now was None client None settles even = even
settled_even now was None client (Some settled) settles even = absurd settles
settled_even now was (Some final) client None settles even = absurd settles
settled_even now was (Some final) client (Some settled) settles even =
    subst (λ (bound : Option (List ℕ)). now + one_if (is_some bound) ≤ was + one_if (gives_back bound (torn_of (Some settled) (Some client)))) (sym settles.bound)
    (subst (λ (torn : Option (List ℕ)). Evens now was (bound_in client (Some final)) torn) (sym settles.torn) even)

-- What is open, as the books have it.
set_under : (numbers pairs : ℕ → ℕ) (books : Books) (i number : ℕ) (sessions : List PlayerSession) (pending : Option Purpose) → IsOpenFor books i number sessions pending
    → IsSetOpen (map (session_under numbers pairs) sessions) (option_map (purpose_under pairs) pending)
set_under numbers pairs books i number sessions None is = tt
set_under numbers pairs books i number sessions (Some (purposes.Client asked None)) is = tt
set_under numbers pairs books i number sessions (Some (purposes.Client asked (Some track))) is = (is.1.1, by asked.place is.1.2)
  where
    by : (place : Option ℕ) → IsForSession place sessions → IsForSession place (map (session_under numbers pairs) sessions)
    by None some = subst (λ (place : Option ℕ). IsSome place) (sym (first_mapped (λ session. is_none session.id) (session_under numbers pairs) 0 sessions (λ session. refl))) some
    by (Some place) some = subst (λ (id : Option (List ℕ)). IsSome id) (sym (at_mapped (λ session. session.id) (session_under numbers pairs) place sessions (λ session. refl))) some
set_under numbers pairs books i number sessions (Some (purposes.Released play)) is = tt
set_under numbers pairs books i number sessions (Some (purposes.Closing place)) is = tt

pub set_open : (bases : Bases) (one : Picture) (T : List HistoryEntry) → IsPictureOf bases one T → (i : ℕ) (client : Client) → one.clients i ≡ Some client → IsSetOpen client.sessions client.pending
set_open bases one T is i client here =
    let books : Books = books_of T in
    let own : Client = (alone bases T i).client in
    let its : IsJoined books i own (alone bases T i).count = (joined bases T is.is_history is.standing).1 i in
    subst (λ (c : Client). IsSetOpen c.sessions c.pending) (sym (entered_in bases one T is i client here).1)
    (set_under (books.number_of i) (books.pair_of i) books i (books.number_of i (alone bases T i).count) own.sessions own.pending its.pending)

pub kind_opened : (one : Picture) (i : ℕ) (client : Client) → one.clients i ≡ Some client → IsKindOpen (books_in one) i client
kind_opened one i client here number opened is conn = by (one.asker number) is
  where
    some_is : (a b : Opened) → Some a ≡ Some b → a ≡ b
    some_is a b e = cc

    by : (asker : Option ℕ) → option_map (λ j. let entry : Opened = record { conn = j; kind = kind_open (one.clients j) } in entry) asker ≡ Some opened → opened.kind ≡ kind_pending client.sessions client.pending
    by None e = cc
    by (Some j) e =
        let same : record { conn = j; kind = kind_open (one.clients j) } ≡ opened = some_is (record { conn = j; kind = kind_open (one.clients j) }) opened e in
        let its : j ≡ i = ap (λ (o : Opened). o.conn) same ∙ conn in
        sym (ap (λ (o : Opened). o.kind) same) ∙ ap (λ k. kind_open (one.clients k)) its ∙ ap kind_open here

fewer_unbound : (bases : Bases) (one : Picture) (T : List HistoryEntry) (h : Happening) (answer : Option (List ℕ)) (it : PlannedTurn) → IsPictureOf bases one T → (its : IsPlannedTurn bases one h answer it)
    → empty_places (effect_of bases one it its.client its.comes).client.sessions + one_if (binds it.settled) ≤ empty_places its.client.sessions + one_if (unbinds it.settled (torn_of it.settled (Some its.client)))
fewer_unbound bases one T h answer it is its =
    settled_even (empty_places (effect_of bases one it its.client its.comes).client.sessions) (empty_places its.client.sessions) (final_in (books_in one) h) its.client it.settled its.settles
    (subst (λ (n : ℕ). Evens n (empty_places its.client.sessions) (bound_in its.client (final_in (books_in one) h)) (torn_in (final_in (books_in one) h)))
    (sym (same_empty heard.effect.client.sessions (effect_of bases one it its.client its.comes).client.sessions (going_steady bases (free_once it.settled one.held) heard.next heard.effect.client).sessions))
    (subst (λ (one_heard : Hearing). Evens (empty_places one_heard.effect.client.sessions) (empty_places its.client.sessions) (bound_in its.client (final_in (books_in one) h)) (torn_in (final_in (books_in one) h))) (sym its.says)
    (hearing_evens bases (books_in one) (number_heard h) it.conn its.client h its.raw (kind_opened one it.conn its.client its.its_turn.here) (set_open bases one T is it.conn its.client its.its_turn.here) its.its_turn.turns its.its_turn.is_raw)))
  where
    heard : Hearing
    heard = heard_by bases it.number its.client its.comes

-- So the room is enough for them.
one_is : (t : Bool) → cond t 1 0 ≡ one_if t
one_is true = refl
one_is false = refl

balance : (a b x y up down room now : ℕ) → a + y ≡ b + x → a ≤ room → now + up ≡ room + down → y + up ≤ x + down → b ≤ now
balance a b x y up down room now counts low even fewer = omega arith

still_enough : (f g : ℕ → ℕ) (i room now : ℕ) (up down : Bool) (roster : List ℕ) → IsOnce roster → is_in i roster ≡ true → ((j : ℕ) → j ≢ i → f j ≡ g j) → sum_of f roster ≤ room → now + one_if up ≡ room + one_if down
    → g i + one_if up ≤ f i + one_if down → sum_of g roster ≤ now
still_enough f g i room now up down roster once here same low even fewer =
    balance (sum_of f roster) (sum_of g roster) (f i) (g i) (one_if up) (one_if down) room now (sum_changes f g i roster once same here) low even fewer

pub kept_after : (bases : Bases) (one after : Picture) (T : List HistoryEntry) (h : Happening) (answer : Option (List ℕ)) (it : PlannedTurn) (done : Done) (requests sessions requests_now sessions_now : ℕ) → IsPictureOf bases one T
    → HasRoom one.clients requests sessions → (its : IsPlannedTurn bases one h answer it) → IsTurned one after it done → requests_now + one_if it.asks ≡ requests + one_if (is_some it.settled)
    → sessions_now + one_if (binds it.settled) ≡ sessions + one_if (unbinds it.settled (torn_of it.settled (Some its.client))) → HasRoom after.clients requests_now sessions_now
kept_after bases one after T h answer it done requests sessions requests_now sessions_now is room its turned even even_sessions = record {
  roster = room.roster;
  once = room.once;
  all = λ j. room.all j ∙ all j (j == it.conn) refl;
  for_requests = still_enough (λ j. idle_count (one.clients j)) (λ j. idle_count (after.clients j)) it.conn requests requests_now it.asks (is_some it.settled) room.roster room.once here (λ j ne. ap idle_count (sym (others j ne))) room.for_requests even idle;
  for_sessions = still_enough (λ j. unbound_count (one.clients j)) (λ j. unbound_count (after.clients j)) it.conn sessions sessions_now (binds it.settled) (unbinds it.settled (torn_of it.settled (Some its.client))) room.roster room.once here
      (λ j ne. ap unbound_count (sym (others j ne))) room.for_sessions even_sessions unbound;
}
  where
    effect : Effect
    effect = effect_of bases one it its.client its.comes

    was : one.clients it.conn ≡ Some its.client
    was = its.its_turn.here

    now : after.clients it.conn ≡ Some effect.client
    now = let (then, there, does) = done_is bases one after h answer it done its turned in there ∙ ap (λ (c : Client). Some c) does.client

    others : (j : ℕ) → j ≢ it.conn → after.clients j ≡ one.clients j
    others j ne = turned.others j (λ same. ne (sym same))

    here : is_in it.conn room.roster ≡ true
    here = room.all it.conn ∙ ap is_some was

    all : (j : ℕ) (t : Bool) → (j == it.conn) ≡ t → is_some (one.clients j) ≡ is_some (after.clients j)
    all j true e = ap (λ k. is_some (one.clients k)) (eqb-true j it.conn e) ∙ ap is_some was ∙ sym (ap is_some now) ∙ ap (λ k. is_some (after.clients k)) (sym (eqb-true j it.conn e))
    all j false e = ap is_some (sym (others j (λ same. true_false (sym (eq-eqb j it.conn same) ∙ e))))
      where
        true_false : true ≡ false → ⊥
        true_false e = cc

    none_settled : (settled : Option Settlement) → is_some settled ≡ false → settled ≡ None
    none_settled None e = refl
    none_settled (Some settled) e = cc

    fewer : one_if (is_none effect.client.pending) + one_if it.asks ≤ one_if (is_none its.client.pending) + one_if (is_some it.settled)
    fewer = fewer_idle (free_once it.settled one.held) its.client.pending (heard_by bases it.number its.client its.comes).effect.client.pending effect.client.pending effect.message it.asks (is_some it.settled) (goes bases one h answer it its)
        (effect_asks bases it.number (free_once it.settled one.held) its.client its.comes its.is_sound) (λ e. pending_kept bases one h answer it its (none_settled it.settled e))

    idle : idle_count (after.clients it.conn) + one_if it.asks ≤ idle_count (one.clients it.conn) + one_if (is_some it.settled)
    idle =
        let is_now : idle_count (after.clients it.conn) ≡ one_if (is_none effect.client.pending) = ap idle_count now ∙ one_is (is_none effect.client.pending) in
        let is_was : idle_count (one.clients it.conn) ≡ one_if (is_none its.client.pending) = ap idle_count was ∙ one_is (is_none its.client.pending) in
        omega (arith, is_now, is_was, fewer)

    unbound : unbound_count (after.clients it.conn) + one_if (binds it.settled) ≤ unbound_count (one.clients it.conn) + one_if (unbinds it.settled (torn_of it.settled (Some its.client)))
    unbound =
        let is_now : unbound_count (after.clients it.conn) ≡ empty_places effect.client.sessions = ap unbound_count now in
        let is_was : unbound_count (one.clients it.conn) ≡ empty_places its.client.sessions = ap unbound_count was in
        let even = fewer_unbound bases one T h answer it is its in
        omega (arith, is_now, is_was, even)

-- A connection enters: it has no request open, and all its places are empty.
pub kept_entering : (conn : ℕ) (one after : Picture) (requests sessions : ℕ) → one.clients conn ≡ None → ((i : ℕ) → after.clients i ≡ cond (conn == i) (Some new_client) (one.clients i)) → HasRoom one.clients requests sessions
    → HasRoom after.clients (requests + 1) (sessions + MOST_SESSIONS)
kept_entering conn one after requests sessions fresh is room = record {
  roster = conn ∷ room.roster;
  once = (out, room.once);
  all = λ i. all i (conn == i) refl;
  for_requests = more (λ i. idle_count (one.clients i)) (λ i. idle_count (after.clients i)) requests 1 (λ i ne. ap idle_count (other i ne)) (ap idle_count now) room.for_requests;
  for_sessions = more (λ i. unbound_count (one.clients i)) (λ i. unbound_count (after.clients i)) sessions MOST_SESSIONS (λ i ne. ap unbound_count (other i ne)) (ap unbound_count now) room.for_sessions;
}
  where
    out : is_in conn room.roster ≡ false
    out = room.all conn ∙ ap is_some fresh

    all : (i : ℕ) (t : Bool) → (conn == i) ≡ t → ((conn == i) || is_in i room.roster) ≡ is_some (after.clients i)
    all i true e = ap (λ t. t || is_in i room.roster) e ∙ sym (ap is_some (is i) ∙ ap (λ t. is_some (cond t (Some new_client) (one.clients i))) e)
    all i false e = ap (λ t. t || is_in i room.roster) e ∙ room.all i ∙ sym (ap is_some (is i) ∙ ap (λ t. is_some (cond t (Some new_client) (one.clients i))) e)

    apart : (i : ℕ) → i ≢ conn → (t : Bool) → (conn == i) ≡ t → t ≡ false
    apart i ne true e = absurd (ne (sym (eqb-true conn i e)))
    apart i ne false e = refl

    other : (i : ℕ) → i ≢ conn → one.clients i ≡ after.clients i
    other i ne = sym (is i ∙ ap (λ t. cond t (Some new_client) (one.clients i)) (apart i ne (conn == i) refl))

    now : after.clients conn ≡ Some new_client
    now = is conn ∙ ap (λ t. cond t (Some new_client) (one.clients conn)) (eq-eqb conn conn refl)

    more : (f g : ℕ → ℕ) (most each : ℕ) → ((i : ℕ) → i ≢ conn → f i ≡ g i) → g conn ≡ each → sum_of f room.roster ≤ most → g conn + sum_of g room.roster ≤ most + each
    more f g most each same first low =
        let rest : sum_of g room.roster ≤ most = subst (λ (n : ℕ). n ≤ most) (sum_same f g conn room.roster same out) low in
        omega (arith, first, rest)

-- More room is enough too; so is the same for the same connections, and any for none.
pub room_more : (clients : ℕ → Option Client) (a b c d : ℕ) → HasRoom clients a b → a ≤ c → b ≤ d → HasRoom clients c d
room_more clients a b c d room more_requests more_sessions = record {
  roster = room.roster;
  once = room.once;
  all = room.all;
  for_requests = more (sum_of (λ i. idle_count (clients i)) room.roster) a c room.for_requests more_requests;
  for_sessions = more (sum_of (λ i. unbound_count (clients i)) room.roster) b d room.for_sessions more_sessions;
}
  where
    more : (n low high : ℕ) → n ≤ low → low ≤ high → n ≤ high
    more n low high first second = omega arith

pub room_same : (before after : ℕ → Option Client) (a b : ℕ) → ((i : ℕ) → after i ≡ before i) → HasRoom before a b → HasRoom after a b
room_same before after a b same room = record {
  roster = room.roster;
  once = room.once;
  all = λ i. room.all i ∙ ap is_some (sym (same i));
  for_requests = subst (λ (n : ℕ). n ≤ a) (sum_all (λ i. idle_count (before i)) (λ i. idle_count (after i)) room.roster (λ i. ap idle_count (sym (same i)))) room.for_requests;
  for_sessions = subst (λ (n : ℕ). n ≤ b) (sum_all (λ i. unbound_count (before i)) (λ i. unbound_count (after i)) room.roster (λ i. ap unbound_count (sym (same i)))) room.for_sessions;
}

pub room_none : (clients : ℕ → Option Client) (a b : ℕ) → ((i : ℕ) → clients i ≡ None) → HasRoom clients a b
room_none clients a b none = record {
  roster = [];
  once = tt;
  all = λ i. sym (ap is_some (none i));
  for_requests = omega arith;
  for_sessions = omega arith;
}
