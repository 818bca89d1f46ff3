-- What a final reply settles in the multiplexer is what it settles in the books of a history.
use Rattle.std.proofs.Common.{◌≡◌, ◌∙◌, ℕ, ◌==◌, ◌<◌, ◌&&◌, Bool, true, false, cond, List, Option, Some, None, IfSome, refl, sym, ap, subst}
use Rattle.std.specs.Prelude.{is_none, is_some}
use Rattle.std.specs.Option.{option_map}
use Rattle.std.specs.Str.{bytes_eq}
use Rattle.std.proofs.lemmas.Bool.{eq-eqb, eqb-true}
use Rattle.std.proofs.lemmas.Slice.Eq.{bytes_eq-Decides}
use Rattle.rtsp_uri.specs.declared.base.Bases.{Bases}
use Rattle.channel_map.specs.declared.map.TheConstants.{PAIRS}
use Rattle.channel_map.specs.declared.map.Held.{Held}
use Rattle.channel_map.specs.declared.map.Freed.{Freed}
use Rattle.channel_map.specs.declared.map.Freed.TheVariants.{Nothing, Pair, Granted}
use Rattle.channel_map.specs.declared.pair_set.PairSet.{PairSet}
use Rattle.channel_map.specs.Pairs.{kept, granted_now, is_free}
use Rattle.session_one.specs.declared.parts.Track.{Track}
use Rattle.client_slot.specs.declared.purpose.Purpose.{Purpose}
use Rattle.client_slot.specs.declared.purpose.Purpose.TheVariants as purposes
use Rattle.client_slot.specs.Places.{session_at, session_where}
use Rattle.client_slot.specs.Client.{Client}
use Rattle.client_machine.specs.Events.{PrivateEvent}
use Rattle.gateway_claim.specs.Books.{RequestKind, sets_up, tears_down, closes, plain, Opened, HeldPair, Books, pair_asked, is_pair, Final, torn_by, bound_by, is_id, is_torn_with, held_left, granted_to, held_then, holder_then, opened_then, free_in}
use Rattle.gateway_claim.specs.Happenings.{Happening, HistoryEntry}
use Rattle.gateway_claim.specs.BooksAndSlots.{AreSound}
use Rattle.gateway_claim.specs.OwnEvents.{turn, final_in, settled_by, books_of}
use Rattle.gateway_claim.specs.Follows.{is_session_for, is_bound, session_asked}
use Rattle.gateway_claim.proofs.AgreeLemmas.{joined, alone, AreJoined, AreFinal, IsTurnStep, turn_step}
use Rattle.gateway_claim.proofs.OtherLemmas.{IsFinal}
use Rattle.gateway_claim.proofs.CaseLemmas.{own_event}
use Rattle.gateway_mux.specs.declared.settlement.Settlement.{Settlement}
use Rattle.gateway_mux.specs.Moves.{wrong_in}
use Rattle.gateway_mux.specs.Pictures.{Picture, bare_held, books_in, IsPictureOf}
use Rattle.gateway_mux.specs.Turn.{named_by_client, free_once}
use Rattle.gateway_mux.specs.Settlements.{has_pair, granted_by, bound_new, IsFreedSet, IsFreedWith, IsFreedAs, AreSettled, torn_of, held_by, holder_by, asker_settled, held_settled, holder_settled}
use Rattle.gateway_mux.proofs.BooksLemmas.{AreSame, turn_same, final_same}
use Rattle.gateway_mux.proofs.PictureLemmas.{entered_in, same_books, wrong_same}
use Rattle.gateway_mux.proofs.FinalLemmas.{IsRight, final_right}
use Rattle.gateway_mux.proofs.LowLemmas.{IsLow, books_low}
use Rattle.gateway_mux.proofs.OwnLemmas.{HasStream, IsOwn, own_shared}
use Rattle.gateway_mux.proofs.TurnLemmas.{lowest_free_same}

-- A final reply is one to the connection's open request, and nothing is wrong with it; and the books have the connection's
-- sessions.
pub record IsDue (books : Books) (i : ℕ) (client : Client) (final : Final) : Type 0 where
  pub own : IsOwn books i client
  pub sound : AreSound books
  pub is_final : IsFinal books final
  pub conn : final.conn ≡ i
  pub right : IsRight books final (session_asked client.sessions client.pending)

-- The turn of a connection that entered, with nothing wrong, and what is settled then.
pub record IsSettledTurn (one : Picture) (h : Happening) (i : ℕ) (client : Client) (settled : Option Settlement) : Type 0 where
  pub turns : turn (books_in one) h ≡ Some i
  pub here : one.clients i ≡ Some client
  pub said : wrong_in one h ≡ None
  pub settles : AreSettled (final_in (books_in one) h) client settled

pub joined_in : (bases : Bases) (one : Picture) (T : List HistoryEntry) → IsPictureOf bases one T → AreJoined bases T
joined_in bases one T is = joined bases T is.is_history is.standing

-- The connection has its sessions.
pub own_in : (bases : Bases) (one : Picture) (T : List HistoryEntry) (i : ℕ) (client : Client) → IsPictureOf bases one T → one.clients i ≡ Some client → IsOwn (books_of T) i client
own_in bases one T i client is here =
    subst (λ (c : Client). IsOwn (books_of T) i c) (sym (entered_in bases one T is i client here).1)
    (own_shared (books_of T) i (alone bases T i).count (alone bases T i).client ((joined_in bases one T is).1 i))

-- A final reply is one to an open request of the connection whose turn it is.
pub final_is : (bases : Bases) (one : Picture) (T : List HistoryEntry) (h : Happening) (i : ℕ) (client : Client) (settled : Option Settlement) → IsPictureOf bases one T → IsSettledTurn one h i client settled
    → AreFinal (books_of T) i (final_in (books_in one) h)
final_is bases one T h i client settled is comes =
    let same : AreSame (books_in one) (books_of T) = same_books bases one T is in
    subst (λ (final : Option Final). AreFinal (books_of T) i final) (sym (final_same (books_in one) (books_of T) h same))
    (by (own_event bases T i h) (final_in (books_of T) h)
    (turn_step bases T i h ((joined_in bases one T is).1 i) (entered_in bases one T is i client comes.here).0 (sym (turn_same (books_in one) (books_of T) h same) ∙ comes.turns) (sym (wrong_same bases one T is h) ∙ comes.said)))
  where
    by : (event : Option PrivateEvent) (final : Option Final) → IsTurnStep bases (books_of T) i (alone bases T i) event final → AreFinal (books_of T) i final
    by None final none = subst (λ (f : Option Final). AreFinal (books_of T) i f) (sym none) tt
    by (Some event) final step = step.is_final

bound_same : (a b : Books) (id : Option (List ℕ)) → AreSame a b → is_bound a id ≡ is_bound b id
bound_same a b None same = refl
bound_same a b (Some id) same = ap is_some (same.holder id)

pub due_in : (bases : Bases) (one : Picture) (T : List HistoryEntry) (h : Happening) (i : ℕ) (client : Client) (settled : Option Settlement) → IsPictureOf bases one T → IsSettledTurn one h i client settled
    → IfSome (final_in (books_in one) h) (IsDue (books_of T) i client)
due_in bases one T h i client settled is comes = by (final_in (books_in one) h) (final_is bases one T h i client settled is comes) (final_right one h i comes.turns comes.said)
  where
    by : (final : Option Final) → AreFinal (books_of T) i final → IfSome final (λ f. IsRight (books_in one) f (named_by_client (one.clients i))) → IfSome final (IsDue (books_of T) i client)
    by None is_final right = tt
    by (Some final) is_final right = record {
      own = own_in bases one T i client is comes.here;
      sound = (joined_in bases one T is).0;
      is_final = is_final.0;
      conn = is_final.1;
      right = λ pair kind success.
          let session : named_by_client (one.clients i) ≡ session_asked client.sessions client.pending = ap named_by_client comes.here in
          let good : (is_session_for (session_asked client.sessions client.pending) final.id ≡ true) × ((is_none (session_asked client.sessions client.pending) && is_bound (books_in one) final.id) ≡ false) =
          subst (λ (s : Option (List ℕ)). (is_session_for s final.id ≡ true) × ((is_none s && is_bound (books_in one) final.id) ≡ false)) session (right pair kind success) in
          (good.0, ap (λ t. is_none (session_asked client.sessions client.pending) && t) (sym (bound_same (books_in one) (books_of T) final.id (same_books bases one T is))) ∙ good.1);
    }

pub turned_round : (a b : ℕ) → (a == b) ≡ (b == a)
turned_round a b = by (a == b) refl (b == a) refl
  where
    true_false : true ≡ false → ⊥
    true_false e = cc

    by : (s : Bool) → (a == b) ≡ s → (t : Bool) → (b == a) ≡ t → s ≡ t
    by true e true f = refl
    by false e false f = refl
    by true e false f = absurd (true_false (sym (eq-eqb b a (sym (eqb-true a b e))) ∙ f))
    by false e true f = absurd (true_false (sym (eq-eqb a b (sym (eqb-true b a f))) ∙ e))

-- The pairs of channels.
left_none : (held : Option HeldPair) → held_left None held ≡ held
left_none None = refl
left_none (Some one) = by one.session
  where
    by : (session : Option (List ℕ)) → cond {A = Option HeldPair} (is_torn_with None session) None (Some one) ≡ Some one
    by None = refl
    by (Some id) = refl

kept_all : (held : Option Held) → kept Nothing held ≡ held
kept_all None = refl
kept_all (Some held) = refl

-- What a pair is held for is a stream's session.
abbrev IsTold : Option (List ℕ) → List Track → ℕ → Option HeldPair → Type 0
IsTold torn tracks pair held = (conn : ℕ) (session id : List ℕ) → held ≡ Some (record { conn = conn; session = Some session }) → torn ≡ Some id → (pair < PAIRS) × (has_pair pair tracks ≡ bytes_eq session id)

set_held : (id : List ℕ) (tracks : List Track) (pairs : PairSet) (pair conn : ℕ) (session : Option (List ℕ)) → IsFreedSet tracks (Granted pairs) → IsTold (Some id) tracks pair (Some (record { conn = conn; session = session }))
    → kept (Granted pairs) (Some (record { conn = conn; pair = pair; granted = is_some session })) ≡ option_map (bare_held pair) (held_left (Some id) (Some (record { conn = conn; session = session })))
set_held id tracks pairs pair conn None is told = refl
set_held id tracks pairs pair conn (Some session) is told =
    let both = told conn session id refl refl in
    ap (λ t. cond t None (Some (record { conn = conn; pair = pair; granted = true }))) (is pair both.0 ∙ both.1) ∙ by (bytes_eq session id)
  where
    by : (t : Bool) → cond t None (Some (record { conn = conn; pair = pair; granted = true })) ≡ option_map (bare_held pair) (cond t None (Some (record { conn = conn; session = Some session })))
    by true = refl
    by false = refl

left_held : (torn : Option (List ℕ)) (tracks : List Track) (freed : Freed) (pair : ℕ) (held : Option HeldPair) → IsFreedWith torn tracks freed → IsTold torn tracks pair held
    → kept freed (option_map (bare_held pair) held) ≡ option_map (bare_held pair) (held_left torn held)
left_held torn tracks freed pair None is told = refl
left_held None tracks freed pair (Some one) is told =
    ap (λ f. kept f (Some (bare_held pair one))) is ∙ ap (option_map (bare_held pair)) (sym (left_none (Some one)))
left_held (Some id) tracks Nothing pair (Some one) is told = absurd is
left_held (Some id) tracks (Pair other) pair (Some one) is told = absurd is
left_held (Some id) tracks (Granted pairs) pair (Some one) is told = set_held id tracks pairs pair one.conn one.session is told

held_kind : (kind : RequestKind) (success : Bool) (id : Option (List ℕ)) (tracks : List Track) (freed : Freed) (pair : ℕ) (held : Option HeldPair) → IsFreedAs kind success tracks freed
    → ((asked : ℕ) → kind ≡ sets_up asked → success ≡ true → is_some id ≡ true) → IsTold (torn_by kind success) tracks pair held
    → held_by (granted_by kind success) freed pair (option_map (bare_held pair) held)
    ≡ option_map (bare_held pair) (cond (is_pair (pair_asked kind) pair) (granted_to success id held) (held_left (torn_by kind success) held))
held_kind (sets_up asked) true id tracks freed pair held is said told =
    ap (λ t. cond t (granted_now (option_map (bare_held pair) held)) (option_map (bare_held pair) held)) (turned_round pair asked) ∙ by (asked == pair)
  where
    granted : (one : Option HeldPair) → granted_now (option_map (bare_held pair) one) ≡ option_map (bare_held pair) (granted_to true id one)
    granted None = refl
    granted (Some one) = ap (λ t. Some (record { conn = one.conn; pair = pair; granted = t })) (sym (said asked refl refl))

    by : (t : Bool) → cond t (granted_now (option_map (bare_held pair) held)) (option_map (bare_held pair) held) ≡ option_map (bare_held pair) (cond t (granted_to true id held) (held_left None held))
    by true = granted held
    by false = ap (option_map (bare_held pair)) (sym (left_none held))
held_kind (sets_up asked) false id tracks freed pair held is said told = ap (λ f. kept f (option_map (bare_held pair) held)) is ∙ failed held
  where
    failed : (one : Option HeldPair) → kept (Pair asked) (option_map (bare_held pair) one) ≡ option_map (bare_held pair) (cond (asked == pair) None (held_left None one))
    failed None = by (asked == pair)
      where
        by : (t : Bool) → None ≡ option_map (bare_held pair) (cond t None None)
        by true = refl
        by false = refl
    failed (Some one) = ap (λ t. cond t None (Some (bare_held pair one))) (turned_round pair asked) ∙ by (asked == pair)
      where
        by : (t : Bool) → cond t None (Some (bare_held pair one)) ≡ option_map (bare_held pair) (cond t None (held_left None (Some one)))
        by true = refl
        by false = ap (option_map (bare_held pair)) (sym (left_none (Some one)))
held_kind (tears_down torn) success id tracks freed pair held is said told = left_held (torn_by (tears_down torn) success) tracks freed pair held is told
held_kind (closes torn) success id tracks freed pair held is said told = left_held (Some torn) tracks freed pair held is told
held_kind plain success id tracks freed pair held is said told = left_held None tracks freed pair held is told

same_bool : (a b : Bool) → (a ≡ true → b ≡ true) → (b ≡ true → a ≡ true) → a ≡ b
same_bool true b f g = sym (f refl)
same_bool false true f g = g refl
same_bool false false f g = refl

same_session : (one other : HeldPair) (session id : List ℕ) → Some one ≡ Some other → one.session ≡ Some session → other.session ≡ Some id → session ≡ id
same_session one other session id e at_one at_other = cc

-- The pairs of the session that ends are those that are held for it.
torn_has : (books : Books) (i : ℕ) (client : Client) (torn : Option ℕ) (id session : List ℕ) (conn pair : ℕ) → AreSound books → IsOwn books i client → (session_where torn client.sessions).id ≡ Some id → books.holder id ≡ Some i
    → books.held pair ≡ Some (record { conn = conn; session = Some session }) → has_pair pair (session_where torn client.sessions).tracks ≡ bytes_eq session id
torn_has books i client None id session conn pair sound own named holds held = cc
torn_has books i client (Some place) id session conn pair sound own named holds held = same_bool (has_pair pair (session_at place client.sessions).tracks) (bytes_eq session id) there back
  where
    there : has_pair pair (session_at place client.sessions).tracks ≡ true → bytes_eq session id ≡ true
    there has =
        (bytes_eq-Decides session id).1 (same_session (record { conn = conn; session = Some session }) (record { conn = i; session = Some id }) session id (sym held ∙ own.streams place pair id named has) refl refl)

    back : bytes_eq session id ≡ true → has_pair pair (session_at place client.sessions).tracks ≡ true
    back e =
        let same : session ≡ id = (bytes_eq-Decides session id).0 e in
        let bound : Some conn ≡ Some i = sym (sound.bound pair (record { conn = conn; session = Some session }) session held refl) ∙ ap books.holder same ∙ holds in
        let conns : conn ≡ i = cc in
        let stream : HasStream client.sessions id pair = own.found pair id (held ∙ ap (λ c. Some (record { conn = c; session = Some session })) conns ∙ ap (λ s. Some (record { conn = i; session = Some s })) same) in
        ap (λ at. has_pair pair (session_at at client.sessions).tracks) (own.once place stream.place id named stream.named) ∙ stream.has

own_id : (id : List ℕ) → is_id (Some id) id ≡ true
own_id id = (bytes_eq-Decides id id).1 refl

for_some : (session id : Option (List ℕ)) → is_session_for session id ≡ true → is_some id ≡ true
for_some session None e = cc
for_some session (Some id) e = refl

held_final : (books : Books) (i : ℕ) (client : Client) (final : Option Final) (settled : Option Settlement) (pair : ℕ) (held : Option HeldPair) → books.held pair ≡ held → IsLow books → IfSome final (IsDue books i client) → AreSettled final client settled
    → held_settled settled pair (option_map (bare_held pair) held) ≡ option_map (bare_held pair) (held_then final pair held)
held_final books i client None None pair held e low due is = refl
held_final books i client None (Some settled) pair held e low due is = absurd is
held_final books i client (Some final) None pair held e low due is = absurd is
held_final books i client (Some final) (Some settled) pair held e low due is =
    ap (λ (granted : Option ℕ). held_by granted settled.freed pair (option_map (bare_held pair) held)) is.granted
    ∙ held_kind final.kind final.success final.id (session_where settled.torn client.sessions).tracks settled.freed pair held is.freed
    (λ asked kind success. for_some (session_asked client.sessions client.pending) final.id (due.right asked kind success).0) told
  where
    told : IsTold (torn_by final.kind final.success) (session_where settled.torn client.sessions).tracks pair held
    told conn session id here torn = (
      low pair (ap is_some (e ∙ here)),
      torn_has books i client settled.torn id session conn pair due.sound due.own (is.torn ∙ torn)
          (due.is_final.torn id (ap (λ (t : Option (List ℕ)). is_id t id) torn ∙ own_id id) ∙ ap (λ n. Some n) due.conn) (e ∙ here),
    )

pub settled_held : (bases : Bases) (one : Picture) (T : List HistoryEntry) (h : Happening) (i : ℕ) (client : Client) (settled : Option Settlement) → IsPictureOf bases one T → IsSettledTurn one h i client settled → (pair : ℕ)
    → held_settled settled pair (one.held pair) ≡ option_map (bare_held pair) ((settled_by (books_in one) h).held pair)
settled_held bases one T h i client settled is at pair =
    ap (held_settled settled pair) (is.held pair)
    ∙ held_final (books_of T) i client (final_in (books_in one) h) settled pair ((books_of T).held pair) refl (books_low T) (due_in bases one T h i client settled is at) at.settles
    ∙ ap (λ (held : Option HeldPair). option_map (bare_held pair) (held_then (final_in (books_in one) h) pair held)) (sym ((same_books bases one T is).held pair))

-- The lowest pair that is free.
free_bare : (pair : ℕ) (held : Option HeldPair) → is_free (option_map (bare_held pair) held) ≡ is_none held
free_bare pair None = refl
free_bare pair (Some held) = refl

pub settled_free : (bases : Bases) (one : Picture) (T : List HistoryEntry) (h : Happening) (i : ℕ) (client : Client) (settled : Option Settlement) → IsPictureOf bases one T → IsSettledTurn one h i client settled
    → free_once settled one.held ≡ free_in (settled_by (books_in one) h)
settled_free bases one T h i client settled is at =
    lowest_free_same (λ pair. is_free (held_settled settled pair (one.held pair))) (λ pair. is_none ((settled_by (books_in one) h).held pair))
    (λ pair. ap is_free (settled_held bases one T h i client settled is at pair) ∙ free_bare pair ((settled_by (books_in one) h).held pair))

-- The open requests.
asker_final : (final : Option Final) (client : Client) (settled : Option Settlement) (number : ℕ) (opened : Option Opened) → AreSettled final client settled
    → asker_settled settled number (option_map (λ (one : Opened). one.conn) opened) ≡ option_map (λ (one : Opened). one.conn) (opened_then final number opened)
asker_final None client None number opened is = refl
asker_final None client (Some settled) number opened is = absurd is
asker_final (Some final) client None number opened is = absurd is
asker_final (Some final) client (Some settled) number opened is =
    ap (λ (n : ℕ). cond (number == n) None (option_map (λ (one : Opened). one.conn) opened)) is.number ∙ by (number == final.number)
  where
    by : (t : Bool) → cond t None (option_map (λ (one : Opened). one.conn) opened) ≡ option_map (λ (one : Opened). one.conn) (cond t None opened)
    by true = refl
    by false = refl

pub settled_asker : (bases : Bases) (one : Picture) (T : List HistoryEntry) (h : Happening) (i : ℕ) (client : Client) (settled : Option Settlement) → IsPictureOf bases one T → IsSettledTurn one h i client settled → (number : ℕ)
    → asker_settled settled number (one.asker number) ≡ option_map (λ (opened : Opened). opened.conn) ((settled_by (books_in one) h).opened number)
settled_asker bases one T h i client settled is at number =
    ap (asker_settled settled number) (is.asker number)
    ∙ asker_final (final_in (books_in one) h) client settled number ((books_of T).opened number) at.settles
    ∙ ap (λ (opened : Option Opened). option_map (λ (one_opened : Opened). one_opened.conn) (opened_then (final_in (books_in one) h) number opened)) (sym ((same_books bases one T is).opened number))

-- The sessions. A SETUP that named one brings no other.
false_is_true : false ≡ true → ⊥
false_is_true e = cc

bound_again : (session : List ℕ) (id : Option (List ℕ)) (conn : ℕ) (one : List ℕ) (holder : Option ℕ) → is_session_for (Some session) id ≡ true → (one ≡ session → holder ≡ Some conn)
    → holder ≡ cond (is_id id one) (Some conn) holder
bound_again session None conn one holder for_it held = absurd (false_is_true for_it)
bound_again session (Some said) conn one holder for_it held = by (bytes_eq one said) refl
  where
    by : (t : Bool) → bytes_eq one said ≡ t → holder ≡ cond t (Some conn) holder
    by true e = held ((bytes_eq-Decides one said).0 e ∙ sym ((bytes_eq-Decides session said).0 for_it))
    by false e = refl

bound_first : (id : Option (List ℕ)) (conn : ℕ) (one : List ℕ) (holder : Option ℕ) → holder_by id None conn one holder ≡ cond (is_id id one) (Some conn) holder
bound_first None conn one holder = refl
bound_first (Some said) conn one holder = refl

none_bound : (session : Option (List ℕ)) → cond {A = Option (List ℕ)} (is_none session) None None ≡ None
none_bound None = refl
none_bound (Some session) = refl

holder_kind : (conn : ℕ) (kind : RequestKind) (success : Bool) (said session : Option (List ℕ)) (one : List ℕ) (holder : Option ℕ)
    → ((pair : ℕ) → kind ≡ sets_up pair → success ≡ true → is_session_for session said ≡ true) → (session ≡ Some one → holder ≡ Some conn)
    → holder_by (cond (is_none session) (bound_by kind success said) None) (torn_by kind success) conn one holder
    ≡ cond (is_id (bound_by kind success said) one) (Some conn) (cond (is_id (torn_by kind success) one) None holder)
holder_kind conn (sets_up asked) true said None one holder named held = bound_first said conn one holder
holder_kind conn (sets_up asked) true said (Some session) one holder named held = bound_again session said conn one holder (named asked refl refl) (λ same. held (ap (λ id. Some id) (sym same)))
holder_kind conn (sets_up asked) false said session one holder named held = ap (λ (bound : Option (List ℕ)). holder_by bound None conn one holder) (none_bound session)
holder_kind conn (tears_down torn) success said session one holder named held = ap (λ (bound : Option (List ℕ)). holder_by bound (torn_by (tears_down torn) success) conn one holder) (none_bound session)
holder_kind conn (closes torn) success said session one holder named held = ap (λ (bound : Option (List ℕ)). holder_by bound (Some torn) conn one holder) (none_bound session)
holder_kind conn plain success said session one holder named held = ap (λ (bound : Option (List ℕ)). holder_by bound None conn one holder) (none_bound session)

-- The session that the open request of a connection named is the connection's.
pub asked_holds : (books : Books) (i : ℕ) (client : Client) (id : List ℕ) → IsOwn books i client → session_asked client.sessions client.pending ≡ Some id → books.holder id ≡ Some i
asked_holds books i client id own named = by client.pending named
  where
    at_place : (place : Option ℕ) → (session_where place client.sessions).id ≡ Some id → books.holder id ≡ Some i
    at_place None e = cc
    at_place (Some place) e = own.holds place id e

    by : (pending : Option Purpose) → session_asked client.sessions pending ≡ Some id → books.holder id ≡ Some i
    by None e = cc
    by (Some (purposes.Client asked track)) e = at_place asked.place e
    by (Some (purposes.Released play)) e = cc
    by (Some (purposes.Closing place)) e = cc

holder_final : (books : Books) (i : ℕ) (client : Client) (final : Option Final) (settled : Option Settlement) (id : List ℕ) → IfSome final (IsDue books i client) → AreSettled final client settled
    → holder_settled settled (torn_of settled (Some client)) i id (books.holder id) ≡ holder_then final id (books.holder id)
holder_final books i client None None id due is = refl
holder_final books i client None (Some settled) id due is = absurd is
holder_final books i client (Some final) None id due is = absurd is
holder_final books i client (Some final) (Some settled) id due is =
    ap (λ (bound : Option (List ℕ)). holder_by bound (session_where settled.torn client.sessions).id i id (books.holder id)) is.bound
    ∙ ap (λ (torn : Option (List ℕ)). holder_by (bound_new final (session_asked client.sessions client.pending)) torn i id (books.holder id)) is.torn
    ∙ ap (λ (who : ℕ). holder_by (bound_new final (session_asked client.sessions client.pending)) (torn_by final.kind final.success) who id (books.holder id)) (sym due.conn)
    ∙ holder_kind final.conn final.kind final.success final.id (session_asked client.sessions client.pending) id (books.holder id)
    (λ pair kind success. (due.right pair kind success).0) (λ named. asked_holds books i client id due.own named ∙ ap (λ n. Some n) (sym due.conn))

pub settled_holder : (bases : Bases) (one : Picture) (T : List HistoryEntry) (h : Happening) (i : ℕ) (client : Client) (settled : Option Settlement) → IsPictureOf bases one T → IsSettledTurn one h i client settled → (id : List ℕ)
    → holder_settled settled (torn_of settled (Some client)) i id (one.holder id) ≡ (settled_by (books_in one) h).holder id
settled_holder bases one T h i client settled is at id =
    ap (holder_settled settled (torn_of settled (Some client)) i id) (is.holder id)
    ∙ holder_final (books_of T) i client (final_in (books_in one) h) settled id (due_in bases one T h i client settled is at) at.settles
    ∙ ap (λ (holder : Option ℕ). holder_then (final_in (books_in one) h) id holder) (sym ((same_books bases one T is).holder id))
