-- The books of a history of one player tell of it what its own connection tells.
use Rattle.std.proofs.Common.{◌≡◌, ◌≢◌, ◌∙◌, ℕ, zero, suc, ◌≤◌, ◌==◌, ◌&&◌, Bool, true, false, cond, List, [], ◌∷◌, ◌++◌, Option, Some, None, IfSome, IsSome, inl, inr, refl, sym, ap, subst, arith}
use Rattle.std.specs.Prelude.{is_some, nat_le}
use Rattle.std.specs.Option.{option_map, option_map_or, option_or}
use Rattle.std.specs.List.{AllByRecursion}
use Rattle.std.proofs.lemmas.Bool.{eq-eqb, eqb-true, leb-true, le-leb, cases_Bool}
use Rattle.rtsp_uri.specs.declared.base.Bases.{Bases}
use Rattle.session_one.specs.declared.parts.Track.{Track}
use Rattle.session_two.specs.declared.names.Names.{Names}
use Rattle.session_two.specs.declared.names.Names.TheVariants.{Unsaid, This}
use Rattle.rtsp_small.specs.declared.method.Method.TheVariants as methods
use Rattle.session_one.specs.Table.{same_method}
use Rattle.client_slot.specs.declared.purpose.Purpose.{Purpose}
use Rattle.client_slot.specs.declared.purpose.Purpose.TheVariants as purposes
use Rattle.client_slot.specs.Session.{PlayerSession}
use Rattle.client_slot.specs.Places.{session_at, session_where, tracks_of, place_with}
use Rattle.client_slot.specs.Client.{new_client}
use Rattle.client_machine.specs.Alone.{Private, private_after}
use Rattle.client_machine.specs.Bounds.{stream_asked}
use Rattle.client_machine.specs.Events.{PrivateEvent}
use Rattle.client_machine.proofs.BelowLemmas.{alone_numbered}
use Rattle.client_machine.proofs.SeenTreatLemmas.{same_function}
use Rattle.gateway_claim.specs.Books.{sets_up, plain, teardown_kind, pair_asked, Opened, HeldPair, Books}
use Rattle.gateway_claim.specs.BooksAndSlots.{kind_for, IsHeldFor, IsHolding, HasPair, IsStreamPair, IsOpenFor, IsJoined, AreSound}
use Rattle.gateway_claim.specs.Follows.{IsHistory}
use Rattle.gateway_claim.specs.Happenings.{HistoryEntry, fault_in}
use Rattle.gateway_claim.specs.OnePlayer.{IsOnlyPlayer}
use Rattle.gateway_claim.specs.OwnEvents.{owner_of, is_turn, books_of, own, own_name}
use Rattle.gateway_claim.proofs.AgreeLemmas.{alone, AreJoined, joined}
use Rattle.gateway_claim.proofs.ApartLemmas.{all_are}
use Rattle.gateway_claim.proofs.AskLemmas.{never_part}
use Rattle.gateway_claim.proofs.CaseLemmas.{own_absent}
use Rattle.gateway_claim.proofs.NextLemmas.{same_number}
use Rattle.gateway_claim.proofs.SeenRunLemmas.{found_at, none_found}
use Rattle.lone_records.specs.LoneGateway.{stream_with, held_among, held_alone, opened_alone, books_alone}
use Rattle.lone_records.proofs.AlikeLemmas.{AreAlikeFor}
use Rattle.lone_records.proofs.OwnBookLemmas.{IsOwnBooks, books_own, none_is_some, true_false, torn_asks}

-- What is known of the books and of the connection, where no other one is in the books.
pub record IsLone (books : Books) (i : ℕ) (p : Private) : Type 0 where
  pub joins : IsJoined books i p.client p.count
  pub sound : AreSound books
  pub own : IsOwnBooks books i
  pub began : IfSome p.client.pending (λ purpose. 1 ≤ p.count)
  pub opened : (g : ℕ) (one : Opened) → books.opened g ≡ Some one → one.conn ≡ i
  pub held : (pair : ℕ) (id : List ℕ) (one : HeldPair) → books.held pair ≡ Some one → one.session ≡ Some id → one.conn ≡ i
  pub holder : (id : List ℕ) (j : ℕ) → books.holder id ≡ Some j → j ≡ i
  pub giver : (g j : ℕ) → books.giver g ≡ Some j → j ≡ i

-- a connection of which nothing is in the books
new_holds : (place : ℕ) → (session_at place new_client.sessions).id ≡ None
new_holds place = grind arith

pub lone_books : (bases : Bases) (T : List HistoryEntry) (i : ℕ) → IsHistory bases T → IsOnlyPlayer i T → fault_in T ≡ None → IsLone (books_of T) i (alone bases T i)
lone_books bases T i history only standing = record {
  joins = all.1 i;
  sound = all.0;
  own = books_own bases T i history only standing;
  began = (alone_numbered bases (own bases i T)).1;
  opened = λ g one is. among one.conn (λ other. none_is_some {A = Purpose} None refl ((new one.conn other).last g one is refl).1);
  held = λ pair id one is named. among one.conn (λ other.
      let granted : IsStreamPair ((books_of T).pair_of one.conn) new_client.sessions id pair = (new one.conn other).granted pair id (is ∙ ap (λ (session : Option (List ℕ)). Some (record { conn = one.conn; session = session })) named) in
      (let none : None ≡ Some id = sym (new_holds granted.place) ∙ granted.named in cc));
  holder = λ id j is. among j (λ other. let at = (new j other).session id is in (let none : None ≡ Some id = sym (new_holds at.0) ∙ at.1 in cc));
  giver = λ g j is. among j (λ other. let given = all.0.given g j is in omega (arith, given.2, given.3, (new j other).counted));
}
  where
    all : AreJoined bases T
    all = joined bases T history standing

    new : (j : ℕ) → j ≢ i → IsJoined (books_of T) j new_client 0
    new j other = subst (λ (events : List PrivateEvent). IsJoined (books_of T) j (private_after bases events).client (private_after bases events).count) (own_absent bases T j (never_part T j (only j other))) (all.1 j)

    among : (j : ℕ) → (j ≢ i → ⊥) → j ≡ i
    among j apart = elim (cases_Bool (j == i)) [
      | inl same ↦ eqb-true j i same
      | inr differ ↦ absurd (apart (λ same. true_false (sym (eq-eqb j i same) ∙ differ)))
    ]

-- Of streams: the one with a pair has it, and none has it where none is found.
stream_found : (P : Track → Type 0) (pairs : ℕ → ℕ) (pair : ℕ) (tracks : List Track) → AllByRecursion P tracks → IfSome (stream_with pairs pair tracks) (λ track. (pairs track.pair ≡ pair) × P track)
stream_found P pairs pair [] all = tt
stream_found P pairs pair (track ∷ tracks) all = by (pairs track.pair == pair) refl (stream_found P pairs pair tracks all.1)
  where
    by : (t : Bool) → (pairs track.pair == pair) ≡ t → IfSome (stream_with pairs pair tracks) (λ one. (pairs one.pair ≡ pair) × P one)
        → IfSome (cond t (Some track) (stream_with pairs pair tracks)) (λ one. (pairs one.pair ≡ pair) × P one)
    by true e later = (eqb-true (pairs track.pair) pair e, all.0)
    by false e later = later

none_has : (pairs : ℕ → ℕ) (pair : ℕ) (tracks : List Track) → stream_with pairs pair tracks ≡ None → HasPair pairs pair tracks → ⊥
none_has pairs pair [] none has = has
none_has pairs pair (track ∷ tracks) none has = by (pairs track.pair == pair) refl none has (none_has pairs pair tracks)
  where
    by : (t : Bool) → (pairs track.pair == pair) ≡ t → cond t (Some track) (stream_with pairs pair tracks) ≡ None → HasPair pairs pair (track ∷ tracks) → (stream_with pairs pair tracks ≡ None → HasPair pairs pair tracks → ⊥) → ⊥
    by true e none has later = cc
    by false e none (inl same) later = true_false (sym (eq-eqb (pairs track.pair) pair same) ∙ e)
    by false e none (inr more) later = later none more

has_more : (pairs : ℕ → ℕ) (pair : ℕ) (one other : List Track) → HasPair pairs pair one → HasPair pairs pair (one ++ other)
has_more pairs pair [] other has = absurd has
has_more pairs pair (track ∷ one) other (inl same) = inl same
has_more pairs pair (track ∷ one) other (inr has) = inr (has_more pairs pair one other has)

has_before : (pairs : ℕ → ℕ) (pair : ℕ) (one other : List Track) → HasPair pairs pair other → HasPair pairs pair (one ++ other)
has_before pairs pair [] other has = has
has_before pairs pair (track ∷ one) other has = inr (has_before pairs pair one other has)

has_among : (pairs : ℕ → ℕ) (pair place : ℕ) (sessions : List PlayerSession) → HasPair pairs pair (session_at place sessions).tracks → HasPair pairs pair (tracks_of sessions)
has_among pairs pair place [] has = absurd has
has_among pairs pair zero (one ∷ more) has = has_more pairs pair one.tracks (tracks_of more) has
has_among pairs pair (suc place) (one ∷ more) has = has_before pairs pair one.tracks (tracks_of more) (has_among pairs pair place more has)

-- Who holds a pair among sessions: what is held there is so, and where nobody does, none of them has it.
among_is : (P : HeldPair → Type 0) (i : ℕ) (pairs : ℕ → ℕ) (pair : ℕ) (sessions : List PlayerSession)
    → ((place : ℕ) → is_some (stream_with pairs pair (session_at place sessions).tracks) ≡ true → P (record { conn = i; session = (session_at place sessions).id })) → IfSome (held_among i pairs pair sessions) P
among_is P i pairs pair [] so = tt
among_is P i pairs pair (one ∷ more) so = by (is_some (stream_with pairs pair one.tracks)) refl (among_is P i pairs pair more (λ place. so (suc place)))
  where
    by : (t : Bool) → is_some (stream_with pairs pair one.tracks) ≡ t → IfSome (held_among i pairs pair more) P → IfSome (cond t (Some (record { conn = i; session = one.id })) (held_among i pairs pair more)) P
    by true e later = so zero e
    by false e later = later

no_stream : (o : Option Track) → is_some o ≡ false → o ≡ None
no_stream None e = refl
no_stream (Some track) e = cc

none_among : (i : ℕ) (pairs : ℕ → ℕ) (pair place : ℕ) (sessions : List PlayerSession) → held_among i pairs pair sessions ≡ None → HasPair pairs pair (session_at place sessions).tracks → ⊥
none_among i pairs pair place [] none has = has
none_among i pairs pair place (one ∷ more) none has = by (is_some (stream_with pairs pair one.tracks)) refl none place has (λ at. none_among i pairs pair at more)
  where
    by : (t : Bool) → is_some (stream_with pairs pair one.tracks) ≡ t → cond t (Some (record { conn = i; session = one.id })) (held_among i pairs pair more) ≡ None
        → (place : ℕ) → HasPair pairs pair (session_at place (one ∷ more)).tracks → ((at : ℕ) → held_among i pairs pair more ≡ None → HasPair pairs pair (session_at at more).tracks → ⊥) → ⊥
    by true e none place has later = cc
    by false e none zero has later = none_has pairs pair one.tracks (no_stream (stream_with pairs pair one.tracks) e) has
    by false e none (suc place) has later = later place none has

module _ (books : Books) (i : ℕ) (p : Private) (is : IsLone books i p) where
  -- the number of the open request
  number_is : 1 ≤ p.count → books.number_of i p.count ≡ p.count
  number_is some = is.own.1.numbers p.count some (omega (arith, is.joins.counted))

  opened_by : (pending : Option Purpose) (g : ℕ) (found : Option Opened) (t : Bool) → p.client.pending ≡ pending → IfSome pending (λ purpose. 1 ≤ p.count) → books.opened g ≡ found → (g == p.count) ≡ t
      → IsOpenFor books i (books.number_of i p.count) p.client.sessions pending → found ≡ cond t (option_map (opened_alone i (books.pair_of i) p.client.sessions) pending) None
  opened_by None g None true pending began here same open_now = refl
  opened_by None g None false pending began here same open_now = refl
  opened_by None g (Some one) t pending began here same open_now = absurd (none_is_some p.client.pending pending (is.joins.last g one here (is.opened g one here)).1)
  opened_by (Some purpose) g found true pending began here same open_now =
      sym here ∙ ap books.opened (eqb-true g p.count same ∙ sym (number_is began)) ∙ open_now.0
  opened_by (Some purpose) g None false pending began here same open_now = refl
  opened_by (Some purpose) g (Some one) false pending began here same open_now =
      absurd (true_false (sym (eq-eqb g p.count ((is.joins.last g one here (is.opened g one here)).0 ∙ number_is began)) ∙ same))

  opened_is : (g : ℕ) → books.opened g ≡ (books_alone i p (books.pair_of i)).opened g
  opened_is g = opened_by p.client.pending g (books.opened g) (g == p.count) refl is.began refl refl is.joins.pending

  -- a session holds the pairs of its streams
  session_holds : (pair : ℕ) (session : Option (List ℕ)) (tracks : List Track) → IsHolding books i session tracks → is_some (stream_with (books.pair_of i) pair tracks) ≡ true → books.held pair ≡ Some (record { conn = i; session = session })
  session_holds pair None tracks holding some = let none : is_some (stream_with (books.pair_of i) pair []) ≡ true = subst (λ (l : List Track). is_some (stream_with (books.pair_of i) pair l) ≡ true) holding some in absurd (true_false (sym none))
  session_holds pair (Some id) tracks holding some =
      by (stream_with (books.pair_of i) pair tracks) (stream_found (λ track. IsHeldFor books i (Some id) track.pair) (books.pair_of i) pair tracks holding) some
    where
      by : (found : Option Track) → IfSome found (λ track. (books.pair_of i track.pair ≡ pair) × IsHeldFor books i (Some id) track.pair) → is_some found ≡ true → books.held pair ≡ Some (record { conn = i; session = Some id })
      by None so some = cc
      by (Some track) so some = ap books.held (sym so.0) ∙ so.1.0

  -- the open SETUP holds its own
  asked_holds : (pair : ℕ) (pending : Option Purpose) → IsOpenFor books i (books.number_of i p.count) p.client.sessions pending → IfSome (stream_with (books.pair_of i) pair (stream_asked pending)) (λ track. books.held pair ≡ Some (record { conn = i; session = None }))
  asked_holds pair None open_now = tt
  asked_holds pair (Some (purposes.Client asked None)) open_now = tt
  asked_holds pair (Some (purposes.Released play)) open_now = tt
  asked_holds pair (Some (purposes.Closing place)) open_now = tt
  asked_holds pair (Some (purposes.Client asked (Some track))) open_now = by (books.pair_of i track.pair == pair) refl
    where
      by : (t : Bool) → (books.pair_of i track.pair == pair) ≡ t → IfSome (cond t (Some track) None) (λ one. books.held pair ≡ Some (record { conn = i; session = None }))
      by true e = ap books.held (sym (eqb-true (books.pair_of i track.pair) pair e)) ∙ open_now.1.0.0
      by false e = tt

  -- the pair of an open SETUP is that of its stream
  asked_has : (pair : ℕ) (pending : Option Purpose) → IfSome pending (λ purpose. kind_for (books.pair_of i) p.client.sessions purpose ≡ sets_up pair) → IsSome pending → HasPair (books.pair_of i) pair (stream_asked pending)
  asked_has pair None kind some = none_is_some {A = Purpose} None refl some
  asked_has pair (Some (purposes.Client asked (Some track))) kind some = let same : books.pair_of i track.pair ≡ pair = cc in inl same
  asked_has pair (Some (purposes.Client asked None)) kind some =
      let asks : None ≡ Some pair = sym (by (same_method asked.method methods.Teardown)) ∙ ap pair_asked kind in
      let never : ⊥ = cc in absurd never
    where
      by : (t : Bool) → pair_asked (cond t (teardown_kind false (session_where asked.place p.client.sessions).id) plain) ≡ None
      by true = torn_asks false (session_where asked.place p.client.sessions).id
      by false = refl
  asked_has pair (Some (purposes.Released play)) kind some = let never : ⊥ = cc in absurd never
  asked_has pair (Some (purposes.Closing place)) kind some =
      let asks : None ≡ Some pair = sym (torn_asks true (session_at place p.client.sessions).id) ∙ ap pair_asked kind in
      let never : ⊥ = cc in absurd never

  nothing_holds : (pair : ℕ) (found : Option HeldPair) → books.held pair ≡ found → held_among i (books.pair_of i) pair p.client.sessions ≡ None → stream_with (books.pair_of i) pair (stream_asked p.client.pending) ≡ None → found ≡ None
  nothing_holds pair None here none unasked = refl
  nothing_holds pair (Some one) here none unasked = absurd (by one.session refl)
    where
      same_opened : (one other : Opened) → Some one ≡ Some other → one ≡ other
      same_opened one other e = cc

      by : (session : Option (List ℕ)) → one.session ≡ session → ⊥
      by (Some id) named =
          let conn : one.conn ≡ i = is.held pair id one here named in
          let granted : IsStreamPair (books.pair_of i) p.client.sessions id pair = is.joins.granted pair id (here ∙ ap (λ (n : ℕ). Some (record { conn = n; session = one.session })) conn ∙ ap (λ (session : Option (List ℕ)). Some (record { conn = i; session = session })) named) in
          none_among i (books.pair_of i) pair granted.place p.client.sessions none granted.has
      by None named =
          let awaited = is.own.0 pair one.conn (here ∙ ap (λ (session : Option (List ℕ)). Some (record { conn = one.conn; session = session })) named) in
          let last = is.joins.last awaited.0 _ awaited.1 (is.opened awaited.0 _ awaited.1) in
          none_has (books.pair_of i) pair (stream_asked p.client.pending) unasked (asked_has pair p.client.pending (at p.client.pending awaited.0 one.conn awaited.1 last.0 is.joins.pending) last.1)
        where
          at : (pending : Option Purpose) (g c : ℕ) → books.opened g ≡ Some (record { conn = c; kind = sets_up pair }) → g ≡ books.number_of i p.count → IsOpenFor books i (books.number_of i p.count) p.client.sessions pending
              → IfSome pending (λ purpose. kind_for (books.pair_of i) p.client.sessions purpose ≡ sets_up pair)
          at None g c is_open same open_now = tt
          at (Some purpose) g c is_open same open_now = ap (λ (o : Opened). o.kind) (same_opened _ _ (sym open_now.0 ∙ ap books.opened (sym same) ∙ is_open))

  held_by : (pair : ℕ) (among : Option HeldPair) (asked : Option Track) → held_among i (books.pair_of i) pair p.client.sessions ≡ among → IfSome among (λ one. books.held pair ≡ Some one)
      → stream_with (books.pair_of i) pair (stream_asked p.client.pending) ≡ asked → IfSome asked (λ track. books.held pair ≡ Some (record { conn = i; session = None }))
      → books.held pair ≡ option_or among (option_map (λ (track : Track). let one : HeldPair = record { conn = i; session = None } in one) asked)
  held_by pair (Some one) asked here holds asks so = holds
  held_by pair None (Some track) here holds asks so = so
  held_by pair None None here holds asks so = nothing_holds pair (books.held pair) refl here asks

  held_is : (pair : ℕ) → books.held pair ≡ held_alone i (books.pair_of i) p.client pair
  held_is pair =
      held_by pair (held_among i (books.pair_of i) pair p.client.sessions) (stream_with (books.pair_of i) pair (stream_asked p.client.pending)) refl
      (among_is (λ one. books.held pair ≡ Some one) i (books.pair_of i) pair p.client.sessions (λ place. session_holds pair (session_at place p.client.sessions).id (session_at place p.client.sessions).tracks (is.joins.tracks place)))
      refl (asked_holds pair p.client.pending is.joins.pending)

  holder_by : (id : List ℕ) (place : Option ℕ) (found : Option ℕ) → place_with id p.client.sessions ≡ place → books.holder id ≡ found → found ≡ option_map (λ (one : ℕ). i) place
  holder_by id (Some place) found at here = sym here ∙ is.joins.holds place id (found_at place id p.client.sessions at)
  holder_by id None None at here = refl
  holder_by id None (Some j) at here =
      let has = is.joins.session id (here ∙ ap (λ n. Some n) (is.holder id j here)) in
      absurd (none_found id 0 p.client.sessions at has.0 has.1)

  holder_is : (id : List ℕ) → books.holder id ≡ (books_alone i p (books.pair_of i)).holder id
  holder_is id = holder_by id (place_with id p.client.sessions) (books.holder id) refl refl

  -- a number that was given is the player's own
  named_by : (number : ℕ) (found : Option ℕ) (low high : Bool) → books.giver number ≡ found → nat_le 1 number ≡ low → nat_le number p.count ≡ high
      → cond (is_turn i found) (books.own_number number) 0 ≡ cond (is_turn i (cond (low && high) (Some i) None)) number 0
  named_by number None true true here low high =
      let some : 1 ≤ number = leb-true 1 number low in
      let most : number ≤ books.counts i = omega (arith, leb-true number p.count high, is.joins.counted) in
      let given : Some i ≡ None = sym (is.sound.numbers i number some most).0 ∙ ap books.giver (is.own.1.numbers number some most) ∙ here in
      cc
  named_by number None true false here low high = refl
  named_by number None false true here low high = refl
  named_by number None false false here low high = refl
  named_by number (Some j) low high here is_low is_high =
      let given = is.sound.given number j here in
      let conn : j ≡ i = is.giver number j here in
      let some : 1 ≤ books.own_number number = given.2 in
      let most : books.own_number number ≤ books.counts i = subst (λ k. books.own_number number ≤ books.counts k) conn given.3 in
      let same : books.own_number number ≡ number = sym (is.own.1.numbers (books.own_number number) some most) ∙ subst (λ k. books.number_of k (books.own_number number) ≡ number) conn given.1 in
      let above : nat_le 1 number ≡ true = le-leb 1 number (subst (λ n. 1 ≤ n) same some) in
      let below : nat_le number p.count ≡ true = le-leb number p.count (omega (arith, same, most, is.joins.counted)) in
      ap (λ t. cond t (books.own_number number) 0) (eq-eqb j i conn) ∙ same
      ∙ sym (ap (λ t. cond t number 0) (same_number i))
      ∙ sym (ap (λ t. cond (is_turn i (cond (t && high) (Some i) None)) number 0) (sym is_low ∙ above) ∙ ap (λ t. cond (is_turn i (cond t (Some i) None)) number 0) (sym is_high ∙ below))

  named_is : (names : Names) → own_name books i names ≡ own_name (books_alone i p (books.pair_of i)) i names
  named_is Unsaid = refl
  named_is (This number) = ap (λ n. This n) (named_by number (books.giver number) (nat_le 1 number) (nat_le number p.count) refl refl refl)

  own_pair_is : (pair : ℕ) → owner_of (books.held pair) ≡ Some i → books.own_pair pair ≡ (books_alone i p (books.pair_of i)).own_pair pair
  own_pair_is pair owner = by (stream_with (books.pair_of i) pair (tracks_of p.client.sessions)) refl
      (stream_found (λ track. books.own_pair (books.pair_of i track.pair) ≡ track.pair) (books.pair_of i) pair (tracks_of p.client.sessions)
      (all_are (λ track. books.own_pair (books.pair_of i track.pair) ≡ track.pair) books i (λ id track held. held.1) p.client.sessions is.joins.tracks))
    where
      granted : (found : Option HeldPair) → books.held pair ≡ found → owner_of found ≡ Some i → (id : List ℕ) × (books.held pair ≡ Some (record { conn = i; session = Some id }))
      granted None here owner = let never : ⊥ = cc in absurd never
      granted (Some one) here owner = from one.session refl owner
        where
          from : (session : Option (List ℕ)) → one.session ≡ session → cond (is_some session) (Some one.conn) None ≡ Some i → (id : List ℕ) × (books.held pair ≡ Some (record { conn = i; session = Some id }))
          from None named e = let never : ⊥ = cc in absurd never
          from (Some id) named e =
              let conn : one.conn ≡ i = cc in
              (id, here ∙ ap (λ (n : ℕ). Some (record { conn = n; session = one.session })) conn ∙ ap (λ (session : Option (List ℕ)). Some (record { conn = i; session = session })) named)

      by : (found : Option Track) → stream_with (books.pair_of i) pair (tracks_of p.client.sessions) ≡ found → IfSome found (λ track. (books.pair_of i track.pair ≡ pair) × (books.own_pair (books.pair_of i track.pair) ≡ track.pair))
          → books.own_pair pair ≡ option_map_or (λ (track : Track). track.pair) found 0
      by (Some track) here so = ap books.own_pair (sym so.0) ∙ so.1
      by None here so =
          let owned = granted (books.held pair) refl owner in
          let stream : IsStreamPair (books.pair_of i) p.client.sessions owned.0 pair = is.joins.granted pair owned.0 owned.1 in
          absurd (none_has (books.pair_of i) pair (tracks_of p.client.sessions) here (has_among (books.pair_of i) pair stream.place p.client.sessions stream.has))

  pub alike_alone : AreAlikeFor i books (books_alone i p (books.pair_of i))
  alike_alone = record {
    opened = same_function books.opened (books_alone i p (books.pair_of i)).opened opened_is;
    held = same_function books.held (books_alone i p (books.pair_of i)).held held_is;
    holder = same_function books.holder (books_alone i p (books.pair_of i)).holder holder_is;
    named = named_is;
    own_pair = own_pair_is;
  }
