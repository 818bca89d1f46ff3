-- What a request that goes up changes in the books, for the connection that asks and for every other one; and what was given,
-- which can be found back in the books of every history.
use Rattle.std.proofs.Common.{◌≡◌, ◌≢◌, ℕ, zero, suc, ◌+◌, ◌≤◌, ◌==◌, ◌&&◌, true, false, cond, List, [], ◌∷◌, Option, None, Some, IsSome, ◌⊎◌, inl, inr, refl, sym, ◌∙◌, ap, subst, arith}
use Rattle.std.proofs.lemmas.Bool.{eq-eqb, eqb-true}
use Rattle.session_one.specs.declared.parts.Track.{Track}
use Rattle.session_one.specs.Table.{same_method}
use Rattle.translate_up.specs.Fields.{is_setup}
use Rattle.client_slot.specs.declared.purpose.Purpose.{Purpose}
use Rattle.client_slot.specs.Session.{PlayerSession}
use Rattle.client_slot.specs.Places.{session_at, session_where}
use Rattle.client_slot.specs.Client.{Client}
use Rattle.client_machine.specs.Bounds.{ArePairsBelow, IsSessionBelow, AreSessionsBelow}
use Rattle.gateway_claim.specs.Books.{RequestKind, sets_up, plain, teardown_kind, Opened, Books, pair_asked, lends, HeldPair, is_pair, Final, torn_by, bound_by, is_id, is_torn_with, settles}
use Rattle.gateway_claim.specs.BooksAndSlots.{IsHeldFor, AreHeld, HasPair, IsStreamPair, IsForSession, IsPurpose, IsOpenFor, IsJoined, AreSound}
use Rattle.gateway_claim.proofs.OtherLemmas.{differs, IsHeldKind, IsFinal, WasHeld, was_held, was_open}
use Rattle.gateway_claim.proofs.SettleLemmas.{AreAlike, alike_joined, is_own_id}
use Rattle.std.specs.Prelude.{unwrap_or}
use Rattle.client_machine.proofs.EachLemmas.{each_so}
use Rattle.std.proofs.lemmas.Bool.Decides.{eqb_tells}
use Rattle.rtsp_small.specs.declared.method.Method.TheVariants as methods
use Rattle.client_slot.specs.declared.purpose.Purpose.TheVariants as purposes

pub below_differs : (x n : ℕ) → x ≤ n → (x == n + 1) ≡ false
below_differs x n le = differs x (n + 1) (λ same. grind arith)

-- The pair that is asked for is free.
abbrev pub IsFree : Books → Option ℕ → Type 0
IsFree books None = Unit {0}
IsFree books (Some pair) = books.held pair ≡ None

-- for another connection
pub pair_same : (books : Books) (i : ℕ) (kind : RequestKind) (j own : ℕ) → (j == i) ≡ false → (lends i kind books).pair_of j own ≡ books.pair_of j own
pair_same books i kind j own e = ap (λ t. cond (t && own == books.counts i + 1) (unwrap_or (pair_asked kind) (books.pair_of j own)) (books.pair_of j own)) e

pub number_same : (books : Books) (i : ℕ) (kind : RequestKind) (j own : ℕ) → (j == i) ≡ false → (lends i kind books).number_of j own ≡ books.number_of j own
number_same books i kind j own e = ap (λ t. cond (t && own == books.counts i + 1) (books.issued + 1) (books.number_of j own)) e

-- what is held for a connection whose own pair is an old one stays held for it
held_on : (books : Books) (i : ℕ) (kind : RequestKind) (j : ℕ) (session : Option (List ℕ)) (own : ℕ) → IsFree books (pair_asked kind) → (lends i kind books).pair_of j own ≡ books.pair_of j own
    → IsHeldFor books j session own → IsHeldFor (lends i kind books) j session own
held_on books i kind j session own free same h = grind arith

-- what is held for a session then was held for it
pub granted_was : (books : Books) (i : ℕ) (kind : RequestKind) (j p : ℕ) (id : List ℕ) → (lends i kind books).held p ≡ Some (record { conn = j; session = Some id }) → books.held p ≡ Some (record { conn = j; session = Some id })
granted_was books i kind j p id here = grind arith

-- the pairs of a numbering that agrees on the streams
other_stream : (books : Books) (i : ℕ) (kind : RequestKind) (j : ℕ) (sessions : List PlayerSession) (id : List ℕ) (p : ℕ) → (j == i) ≡ false → IsStreamPair (books.pair_of j) sessions id p → IsStreamPair ((lends i kind books).pair_of j) sessions id p
other_stream books i kind j sessions id p e stream = grind arith

other_purpose : (books : Books) (i : ℕ) (kind : RequestKind) (j : ℕ) (sessions : List PlayerSession) (purpose : Purpose) → IsFree books (pair_asked kind) → (j == i) ≡ false → IsPurpose books j sessions purpose → IsPurpose (lends i kind books) j sessions purpose
other_purpose books i kind j sessions purpose free e h = grind arith

-- an open number is not the next one
open_on : (books : Books) (i : ℕ) (kind : RequestKind) (g : ℕ) (opened : Opened) → AreSound books → books.opened g ≡ Some opened → (lends i kind books).opened g ≡ Some opened
open_on books i kind g opened sound here = ap (λ t. cond t (Some (record { conn = i; kind = kind })) (books.opened g)) (below_differs g books.issued (sound.low g opened here)) ∙ here

-- Another connection is joined as before.
pub other_lent : (books : Books) (i : ℕ) (kind : RequestKind) (j : ℕ) (client : Client) (count : ℕ) → AreSound books → IsFree books (pair_asked kind) → j ≢ i → IsJoined books j client count → IsJoined (lends i kind books) j client count
other_lent books i kind j client count sound free ne joined = grind (arith, differs, each_so, held_on, pair_same, other_stream, granted_was, number_same, open_on, other_purpose)

-- For the connection itself, whose own numbers so far are at most its count.
pub old_pair : (books : Books) (i j own : ℕ) (kind : RequestKind) → own ≤ books.counts j → (lends i kind books).pair_of j own ≡ books.pair_of j own
old_pair books i j own kind le = grind arith

pub new_number : (books : Books) (i : ℕ) (kind : RequestKind) → (lends i kind books).number_of i (books.counts i + 1) ≡ books.issued + 1
new_number books i kind = grind arith

old_held : (books : Books) (i : ℕ) (kind : RequestKind) (count : ℕ) (session : Option (List ℕ)) (tracks : List Track) → IsFree books (pair_asked kind) → count ≡ books.counts i → ArePairsBelow count tracks → AreHeld books i session tracks → AreHeld (lends i kind books) i session tracks
old_held books i kind count session [] free counted below h = tt
old_held books i kind count session (track ∷ tracks) free counted below h = grind (arith, held_on, old_pair, old_held books i kind count session tracks free counted below.1 h.1)

old_has : (books : Books) (i : ℕ) (kind : RequestKind) (count p : ℕ) (tracks : List Track) → count ≡ books.counts i → ArePairsBelow count tracks → HasPair (books.pair_of i) p tracks → HasPair ((lends i kind books).pair_of i) p tracks
old_has books i kind count p [] counted below has = has
old_has books i kind count p (track ∷ tracks) counted below (inl here) = inl (old_pair books i i track.pair kind (subst (λ (n : ℕ). track.pair ≤ n) counted below.0.1) ∙ here)
old_has books i kind count p (track ∷ tracks) counted below (inr later) = inr (old_has books i kind count p tracks counted below.1 later)

-- the session at a place is an old one
pub below_at : (n place : ℕ) (sessions : List PlayerSession) → AreSessionsBelow n sessions → IsSessionBelow n (session_at place sessions)
below_at n place [] below = record { running = tt; tracks = tt }
below_at n zero (one ∷ more) below = below.0
below_at n (suc place) (one ∷ more) below = below_at n place more below.1

-- What the new request is for: a SETUP asks for a pair that is free, which the connection knows by its next own number.
abbrev pub IsLentFor : Books → ℕ → RequestKind → List PlayerSession → Purpose → Type 0
IsLentFor books count kind sessions (purposes.Client asked (Some track)) =
    (p : ℕ) × (kind ≡ sets_up p) × (books.held p ≡ None) × (track.pair ≡ count + 1) × (asked.method ≡ methods.Setup) × IsForSession asked.place sessions
IsLentFor books count kind sessions (purposes.Client asked None) = (kind ≡ cond (same_method asked.method methods.Teardown) (teardown_kind false (session_where asked.place sessions).id) plain) × (is_setup asked.method ≡ false)
IsLentFor books count kind sessions (purposes.Released play) = kind ≡ plain
IsLentFor books count kind sessions (purposes.Closing place) = kind ≡ teardown_kind true (session_at place sessions).id

pub lent_free : (books : Books) (count : ℕ) (kind : RequestKind) (sessions : List PlayerSession) (purpose : Purpose) → IsLentFor books count kind sessions purpose → IsFree books (pair_asked kind)
lent_free books count kind sessions purpose is = grind arith

next_number : (books : Books) (i count : ℕ) (kind : RequestKind) → count ≡ books.counts i → (lends i kind books).number_of i (count + 1) ≡ books.issued + 1
next_number books i count kind counted = ap (λ n. (lends i kind books).number_of i (n + 1)) counted ∙ new_number books i kind

-- The connection that asks is joined with the books that have its request.
pub own_lent : (books : Books) (i : ℕ) (kind : RequestKind) (purpose : Purpose) (client after : Client) (count : ℕ) → IsJoined books i client count → AreSessionsBelow count client.sessions
    → client.pending ≡ None → after.pending ≡ Some purpose → AreAlike client.sessions after.sessions → IsLentFor books count kind after.sessions purpose
    → IsJoined (lends i kind books) i after (count + 1)
own_lent books i kind purpose client after count joined below idle pending alike lent =
    let now : IsJoined books i (record after { pending = None }) count = alike_joined books i count client (record after { pending = None }) alike (sym idle) tt joined in
    let old : (place : ℕ) → ArePairsBelow count (session_at place after.sessions).tracks = λ place. subst (λ (tracks : List Track). ArePairsBelow count tracks) (sym (alike place).1) (below_at count place client.sessions below).tracks in
    record {
      counted = ap (λ n. n + 1) joined.counted ∙ sym (ap (λ t. cond t (books.counts i + 1) (books.counts i)) (eq-eqb i i refl));
      tracks = λ place. grind (arith, old_held, lent_free books count kind after.sessions purpose lent, joined.counted, old place, now.tracks place);
      granted = λ p id here.
          let was : IsStreamPair (books.pair_of i) after.sessions id p = now.granted p id (granted_was books i kind i p id here) in
          record { place = was.place; named = was.named; has = old_has books i kind count p (session_at was.place after.sessions).tracks joined.counted (old was.place) was.has };
      pending = subst (λ (one : Option Purpose). IsOpenFor (lends i kind books) i ((lends i kind books).number_of i (count + 1)) after.sessions one) (sym pending) (
        ap (lends i kind books).opened (next_number books i count kind joined.counted)
            ∙ ap (λ t. cond t (Some (record { conn = i; kind = kind })) (books.opened (books.issued + 1))) (eq-eqb (books.issued + 1) (books.issued + 1) refl)
            ∙ ap (λ one. Some (record { conn = i; kind = one })) (grind (arith, joined.counted)),
        grind (arith, joined.counted),
      );
      last = λ g opened here conn. last_by g opened conn (grind arith);
      holds = now.holds;
      session = now.session;
      once = now.once;
    }
  where
    last_by : (g : ℕ) (opened : Opened) → opened.conn ≡ i → ((g ≡ books.issued + 1) × (opened.conn ≡ i)) ⊎ (books.opened g ≡ Some opened) → (g ≡ (lends i kind books).number_of i (count + 1)) × IsSome after.pending
    last_by g opened conn h3 = grind (arith, next_number)

-- A reply keeps them.
pub sound_settled : (books : Books) (final : Final) → IsFinal books final → AreSound books → AreSound (settles (Some final) books)
sound_settled books final is_final sound = record {
  low = λ g opened here. sound.low g opened (was_open books final g opened here).1;
  given = sound.given;
  numbers = sound.numbers;
  pairs = λ p held here. pairs p held (was_held books final p held here);
  bound = λ p held id here named. bound_by_was p held id named (was_held books final p held here);
}
  where
    pairs : (p : ℕ) (held : HeldPair) → WasHeld books final p held → (books.pair_of held.conn (books.own_pair p) ≡ p) × (books.own_pair p ≤ books.counts held.conn)
    pairs p held was = let old = sound.pairs p was.before was.was in grind arith

    holder_now : (id : List ℕ) (i : ℕ) → books.holder id ≡ Some i → is_id (torn_by final.kind final.success) id ≡ false → (settles (Some final) books).holder id ≡ Some i
    holder_now id i here left = grind (arith, is_final.bound id i)

    granted_conn : (kind : RequestKind) (before : HeldPair) (p : ℕ) → IsHeldKind books final.conn kind → is_pair (pair_asked kind) p ≡ true → books.held p ≡ Some before → final.conn ≡ before.conn
    granted_conn kind before p is_held asks was = grind (arith, eqb-true)

    bound_by_was : (p : ℕ) (held : HeldPair) (id : List ℕ) → held.session ≡ Some id → WasHeld books final p held → (settles (Some final) books).holder id ≡ Some held.conn
    bound_by_was p held id named was = cases was.session
      where
        cases : ((is_pair (pair_asked final.kind) p ≡ true) × (final.success ≡ true) × (held.session ≡ final.id)) ⊎ ((was.before ≡ held) × (is_torn_with (torn_by final.kind final.success) held.session ≡ false))
            → (settles (Some final) books).holder id ≡ Some held.conn
        cases (inl granted) =
            let binds : is_id (bound_by final.kind final.success final.id) id ≡ true =
            ap (λ (one : Option (List ℕ)). is_id one id) ((grind (arith, granted.0, granted.1)) ∙ sym granted.2 ∙ named) ∙ is_own_id id in
            ap (λ t. cond t (Some final.conn) (cond (is_id (torn_by final.kind final.success) id) None (books.holder id))) binds
            ∙ ap (λ n. Some n) (granted_conn final.kind was.before p is_final.held granted.0 was.was ∙ was.conn)
        cases (inr same) =
            holder_now id held.conn (sound.bound p was.before id was.was (ap (λ (one : HeldPair). one.session) same.0 ∙ named) ∙ ap (λ n. Some n) was.conn)
            (subst (λ (session : Option (List ℕ)). is_torn_with (torn_by final.kind final.success) session ≡ false) named same.1)

abbrev IsGiven : Books → ℕ → ℕ → ℕ → Type 0
IsGiven books g j own = (g ≤ books.issued) × (books.number_of j own ≡ g) × (1 ≤ own) × (own ≤ books.counts j)

given_lent : (books : Books) (i : ℕ) (kind : RequestKind) → AreSound books → (g j : ℕ) → (lends i kind books).giver g ≡ Some j → IsGiven (lends i kind books) g j ((lends i kind books).own_number g)
given_lent books i kind sound g j here = let was = sound.given g j in grind (arith, eqb_tells g (books.issued + 1), eqb_tells j i)

abbrev IsPaired : Books → ℕ → HeldPair → ℕ → Type 0
IsPaired books p held own = (books.pair_of held.conn own ≡ p) × (own ≤ books.counts held.conn)

pairs_lent : (books : Books) (i : ℕ) (kind : RequestKind) → AreSound books → (p : ℕ) (held : HeldPair) → (lends i kind books).held p ≡ Some held → IsPaired (lends i kind books) p held ((lends i kind books).own_pair p)
pairs_lent books i kind sound p held here = let was = sound.pairs p held in grind (arith, eqb_tells held.conn i)

pub sound_lent : (books : Books) (i : ℕ) (kind : RequestKind) → AreSound books → AreSound (lends i kind books)
sound_lent books i kind sound = record {
  low = λ g opened p2. grind arith;
  given = given_lent books i kind sound;
  numbers = λ j own p2 p3. grind arith;
  pairs = pairs_lent books i kind sound;
  bound = λ p held id here named. grind (arith, granted_was, sound.bound p held id);
}
