-- What a final reply settles for the connection that asked.
use Rattle.std.proofs.Common.{IsSome, ◌≡◌, ◌≢◌, ℕ, zero, suc, ◌<◌, Bool, true, false, cond, List, [], ◌∷◌, ◌++◌, length, Option, None, Some, ◌⊎◌, inl, inr, refl, sym, ◌∙◌, ap, subst, arith}
use Rattle.std.specs.Str.{bytes_eq}
use Rattle.std.proofs.lemmas.Bool.{cases_eq, eqb-true}
use Rattle.std.proofs.lemmas.Slice.Eq.{bytes_eq-Decides}
use Rattle.session_one.specs.declared.parts.Track.{Track}
use Rattle.client_slot.specs.declared.purpose.Purpose.{Purpose}
use Rattle.client_slot.specs.Session.{PlayerSession, new_session}
use Rattle.client_slot.specs.Places.{session_at, changed_at}
use Rattle.client_slot.specs.Client.{Client}
use Rattle.gateway_claim.specs.Books.{sets_up, teardown_kind, HeldPair, Books, pair_asked, is_pair, Final, torn_by, bound_by, is_id, settles}
use Rattle.gateway_claim.specs.BooksAndSlots.{IsHeldFor, AreHeld, IsHolding, HasPair, IsStreamPair, IsOpenFor, IsOnlyOpen, IsJoined}
use Rattle.gateway_claim.proofs.OtherLemmas.{IsHeldKind, WasHeld, was_held}
use Rattle.client_machine.proofs.EachLemmas.{both_so}

pub same_id : (one id : List ℕ) → bytes_eq id one ≡ true → id ≡ one
same_id one id e = (bytes_eq-Decides id one).0 e

pub is_own_id : (id : List ℕ) → bytes_eq id id ≡ true
is_own_id id = (bytes_eq-Decides id id).1 refl

-- a place with a session is one of the places
pub filled_within : (place : ℕ) (id : List ℕ) (sessions : List PlayerSession) → (session_at place sessions).id ≡ Some id → place < length sessions
filled_within place id [] e = cc
filled_within zero id (one ∷ more) e = omega arith
filled_within (suc place) id (one ∷ more) e = omega (arith, filled_within place id more e)

-- A place once its session is changed, where there is one.
pub changed_or_new : (k : ℕ) (change : PlayerSession → PlayerSession) (sessions : List PlayerSession) → (session_at k (changed_at k change sessions) ≡ change (session_at k sessions)) ⊎ (session_at k (changed_at k change sessions) ≡ new_session)
changed_or_new k change [] = inr refl
changed_or_new zero change (one ∷ more) = inl refl
changed_or_new (suc k) change (one ∷ more) = changed_or_new k change more

-- The places have the same sessions and streams.
abbrev pub AreAlike : List PlayerSession → List PlayerSession → Type 0
AreAlike sessions others = (place : ℕ) → ((session_at place others).id ≡ (session_at place sessions).id) × ((session_at place others).tracks ≡ (session_at place sessions).tracks)

-- So what the books say of a connection they say of one that has these, and the same open request.
pub alike_joined : (books : Books) (i count : ℕ) (client after : Client) → AreAlike client.sessions after.sessions → after.pending ≡ client.pending → IsOpenFor books i (books.number_of i count) after.sessions after.pending
    → IsJoined books i client count → IsJoined books i after count
alike_joined books i count client after alike same is_open joined = record {
  counted = joined.counted;
  tracks = λ place. let here = alike place in let was = joined.tracks place in grind arith;
  granted = λ p id here.
      let was : IsStreamPair (books.pair_of i) client.sessions id p = joined.granted p id here in
      record { place = was.place; named = (alike was.place).0 ∙ was.named; has = subst (λ (tracks : List Track). HasPair (books.pair_of i) p tracks) (sym (alike was.place).1) was.has };
  pending = is_open;
  last = λ g opened here conn. let was = joined.last g opened here conn in (was.0, subst (λ (one : Option Purpose). IsSome one) (sym same) was.1);
  holds = λ place id here. joined.holds place id (sym (alike place).0 ∙ here);
  session = λ id here. let (place, is) = joined.session id here in (place, (alike place).0 ∙ is);
  once = λ a b id at_a at_b. joined.once a b id (sym (alike a).0 ∙ at_a) (sym (alike b).0 ∙ at_b);
}

-- A final reply to what is open.
pub record IsOwnFinal (books : Books) (i number : ℕ) (final : Final) : Type 0 where
  pub number_is : final.number ≡ number
  pub conn : final.conn ≡ i
  pub held : IsHeldKind books final.conn final.kind

-- What is held for a session that does not end stays held for it.
tracks_stay : (books : Books) (i : ℕ) (final : Final) (id : List ℕ) (tracks : List Track) → IsHeldKind books final.conn final.kind → is_id (torn_by final.kind final.success) id ≡ false
    → AreHeld books i (Some id) tracks → AreHeld (settles (Some final) books) i (Some id) tracks
tracks_stay books i final id [] held left h = tt
tracks_stay books i final id (track ∷ tracks) held left h = grind (arith, tracks_stay books i final id tracks held left h.1)

holding_stays : (books : Books) (i : ℕ) (final : Final) (session : Option (List ℕ)) (tracks : List Track) → IsHeldKind books final.conn final.kind
    → ((id : List ℕ) → session ≡ Some id → is_id (torn_by final.kind final.success) id ≡ false) → IsHolding books i session tracks → IsHolding (settles (Some final) books) i session tracks
holding_stays books i final session tracks held left h = grind (arith, tracks_stay)

unbound : (final : Final) (id : List ℕ) → bound_by final.kind final.success final.id ≡ None → is_id (bound_by final.kind final.success final.id) id ≡ false
unbound final id none = ap (λ (one : Option (List ℕ)). is_id one id) none

-- One stream more.
had_pair : (pairs : ℕ → ℕ) (p : ℕ) (tracks : List Track) (track : Track) → HasPair pairs p tracks → HasPair pairs p (tracks ++ track ∷ [])
had_pair pairs p [] track has = absurd has
had_pair pairs p (first ∷ tracks) track (inl here) = inl here
had_pair pairs p (first ∷ tracks) track (inr later) = inr (had_pair pairs p tracks track later)

last_pair : (pairs : ℕ → ℕ) (tracks : List Track) (track : Track) → HasPair pairs (pairs track.pair) (tracks ++ track ∷ [])
last_pair pairs [] track = inl refl
last_pair pairs (first ∷ tracks) track = inr (last_pair pairs tracks track)

-- The session of a SETUP that succeeds: the one that was named, or a new one at an empty place.
abbrev pub IsSessionSet : Books → Option (List ℕ) → List ℕ → Type 0
IsSessionSet books None id = books.holder id ≡ None
IsSessionSet books (Some session) id = session ≡ id

-- A session has its id and its streams as before.
abbrev pub IsAlike : PlayerSession → PlayerSession → Type 0
IsAlike one other = (other.id ≡ one.id) × (other.tracks ≡ one.tracks)

-- what is held for a session of the connection, once the final reply has come
abbrev HoldsThen : Books → ℕ → Final → ℕ → List ℕ → Type 0
HoldsThen books i final p id = (settles (Some final) books).held p ≡ Some (record { conn = i; session = Some id })

-- What a final reply makes of the session at the place that its request was for, and of the books, so that they agree again:
-- what they have of it is what it has then, or what they had and it does not lose.
pub record IsSettledAt (books : Books) (i : ℕ) (final : Final) (was now : PlayerSession) : Type 0 where
  holding : IsHolding (settles (Some final) books) i now.id now.tracks
  granted : (p : ℕ) (id : List ℕ) → HoldsThen books i final p id
      → (books.held p ≡ Some (record { conn = i; session = Some id })) ⊎ ((now.id ≡ Some id) × HasPair (books.pair_of i) p now.tracks)
  kept : (p : ℕ) (id : List ℕ) → was.id ≡ Some id → HoldsThen books i final p id → HasPair (books.pair_of i) p was.tracks
      → (now.id ≡ Some id) × HasPair (books.pair_of i) p now.tracks
  holds : (id : List ℕ) → now.id ≡ Some id → (settles (Some final) books).holder id ≡ Some i
  bound : (id : List ℕ) → (settles (Some final) books).holder id ≡ Some i → (books.holder id ≡ Some i) ⊎ (now.id ≡ Some id)
  stays : (id : List ℕ) → was.id ≡ Some id → (settles (Some final) books).holder id ≡ Some i → now.id ≡ Some id
  new : (id : List ℕ) → now.id ≡ Some id → (was.id ≡ Some id) ⊎ (books.holder id ≡ None)
  torn : (id : List ℕ) → is_id (torn_by final.kind final.success) id ≡ true → was.id ≡ Some id

-- So the connection is joined then, where each other place is as before.
pub place_settled : (books : Books) (i count k : ℕ) (client after : Client) (final : Final) → IsOwnFinal books i (books.number_of i count) final → IsJoined books i client count
    → ((place : ℕ) → place ≢ k → IsAlike (session_at place client.sessions) (session_at place after.sessions)) → IsSettledAt books i final (session_at k client.sessions) (session_at k after.sessions)
    → after.pending ≡ None → IsJoined (settles (Some final) books) i after count
place_settled books i count k client after final own joined alike here idle = record {
  counted = joined.counted;
  tracks = λ place. tracks_at place (cases_eq place k);
  granted = λ p id held. granted_by p id held (here.granted p id held);
  pending = subst (λ (pending : Option Purpose). IsOpenFor (settles (Some final) books) i (books.number_of i count) after.sessions pending) (sym idle) tt;
  last = subst (λ (pending : Option Purpose). IsOnlyOpen (settles (Some final) books) i (books.number_of i count) pending) (sym idle) (grind (arith, own.number_is, joined.last));
  holds = λ place id is. grind (arith, cases_eq place k, untorn, joined.holds place id);
  session = λ id is. session_by id (here.bound id is) is;
  once = λ a b id at_a at_b. grind (arith, cases_eq a k, cases_eq b k, other_place a id, other_place b id, alike a, alike b, joined.once a b id);
}
  where
    untorn : (place : ℕ) (id : List ℕ) → place ≢ k → (session_at place client.sessions).id ≡ Some id → is_id (torn_by final.kind final.success) id ≡ false
    untorn place id apart is = grind (arith, here.torn id, joined.once place k id)

    tracks_at : (place : ℕ) → (place ≡ k) ⊎ (place ≢ k) → IsHolding (settles (Some final) books) i (session_at place after.sessions).id (session_at place after.sessions).tracks
    tracks_at place (inl same) = subst (λ (at : ℕ). IsHolding (settles (Some final) books) i (session_at at after.sessions).id (session_at at after.sessions).tracks) (sym same) here.holding
    tracks_at place (inr apart) =
        let stay = holding_stays books i final (session_at place client.sessions).id (session_at place client.sessions).tracks own.held (λ id is. untorn place id apart is) (joined.tracks place) in
        grind (arith, alike place apart)

    stays_at : (place : ℕ) (id : List ℕ) → (session_at place client.sessions).id ≡ Some id → (settles (Some final) books).holder id ≡ Some i → (place ≡ k) ⊎ (place ≢ k) → (at : ℕ) × ((session_at at after.sessions).id ≡ Some id)
    stays_at place id there is (inl same) = (k, here.stays id (ap (λ at. (session_at at client.sessions).id) (sym same) ∙ there) is)
    stays_at place id there is (inr apart) = (place, (alike place apart).0 ∙ there)

    session_by : (id : List ℕ) → (books.holder id ≡ Some i) ⊎ ((session_at k after.sessions).id ≡ Some id) → (settles (Some final) books).holder id ≡ Some i → (place : ℕ) × ((session_at place after.sessions).id ≡ Some id)
    session_by id (inr now) is = (k, now)
    session_by id (inl was) is = let (place, there) = joined.session id was in stays_at place id there is (cases_eq place k)

    other_place : (place : ℕ) (id : List ℕ) → place ≢ k → (session_at place after.sessions).id ≡ Some id → (session_at k after.sessions).id ≡ Some id → ⊥
    other_place place id apart is now = let was = alike place apart in grind (arith, here.new id now, joined.once place k id, joined.holds place id)

    moved : (p place : ℕ) (id : List ℕ) → HoldsThen books i final p id → (session_at place client.sessions).id ≡ Some id → HasPair (books.pair_of i) p (session_at place client.sessions).tracks
        → (place ≡ k) ⊎ (place ≢ k) → IsStreamPair (books.pair_of i) after.sessions id p
    moved p place id held is has (inl same) =
        let now = here.kept p id (ap (λ at. (session_at at client.sessions).id) (sym same) ∙ is) held (subst (λ (at : ℕ). HasPair (books.pair_of i) p (session_at at client.sessions).tracks) same has) in
        record { place = k; named = now.0; has = now.1 }
    moved p place id held is has (inr apart) =
        record { place = place; named = (alike place apart).0 ∙ is; has = subst (λ (tracks : List Track). HasPair (books.pair_of i) p tracks) (sym (alike place apart).1) has }

    granted_by : (p : ℕ) (id : List ℕ) → HoldsThen books i final p id → (books.held p ≡ Some (record { conn = i; session = Some id })) ⊎ (((session_at k after.sessions).id ≡ Some id) × HasPair (books.pair_of i) p (session_at k after.sessions).tracks)
        → IsStreamPair (books.pair_of i) after.sessions id p
    granted_by p id held (inl was) = let stream : IsStreamPair (books.pair_of i) client.sessions id p = joined.granted p id was in moved p stream.place id held stream.named stream.has (cases_eq stream.place k)
    granted_by p id held (inr now) = record { place = k; named = now.0; has = now.1 }

-- A reply that binds and ends nothing leaves the session at its place as it was.
pub at_alike : (books : Books) (i count k : ℕ) (client : Client) (final : Final) (now : PlayerSession) → IsOwnFinal books i (books.number_of i count) final → IsJoined books i client count
    → bound_by final.kind final.success final.id ≡ None → torn_by final.kind final.success ≡ None → IsAlike (session_at k client.sessions) now → IsSettledAt books i final (session_at k client.sessions) now
at_alike books i count k client final now own joined none left alike = grind (arith, holding_stays)

-- A reply that ends the session there, where there is one, leaves nothing.
pub at_gone : (books : Books) (i count k : ℕ) (client : Client) (shut : Bool) (final : Final) (now : PlayerSession) → IsOwnFinal books i (books.number_of i count) final → IsJoined books i client count
    → final.kind ≡ teardown_kind shut (session_at k client.sessions).id → cond shut true final.success ≡ true → now.id ≡ None → now.tracks ≡ [] → IsSettledAt books i final (session_at k client.sessions) now
at_gone books i count k client shut final now own joined kind ends no_id no_tracks = grind (arith, unbound, is_own_id, bytes_eq-Decides)

-- The success of a SETUP brings one stream, to the session that it named or a new one.
pub at_granted : (books : Books) (i count k : ℕ) (client : Client) (track : Track) (id : List ℕ) (final : Final) (now : PlayerSession) → IsOwnFinal books i (books.number_of i count) final → IsJoined books i client count
    → IsHeldFor books i None track.pair → final.kind ≡ sets_up (books.pair_of i track.pair) → final.success ≡ true → final.id ≡ Some id → IsSessionSet books (session_at k client.sessions).id id
    → now.id ≡ Some id → now.tracks ≡ (session_at k client.sessions).tracks ++ track ∷ [] → IsSettledAt books i final (session_at k client.sessions) now
at_granted books i count k client track id final now own joined setup kind success said set new_id new_tracks = record {
  holding =
      subst (λ (session : Option (List ℕ)). IsHolding (settles (Some final) books) i session now.tracks) (sym new_id)
      (subst (λ (tracks : List Track). AreHeld (settles (Some final) books) i (Some id) tracks) (sym new_tracks)
      (both_so (λ one. IsHeldFor (settles (Some final) books) i (Some id) one.pair) (session_at k client.sessions).tracks (track ∷ [])
      (tracks_stay books i final id (session_at k client.sessions).tracks own.held (grind arith) (grind (arith, (joined.tracks k))))
      ((grind arith, setup.1), tt)));
  granted = λ p one here. granted_by p one (was_held books final p (record { conn = i; session = Some one }) here);
  kept = λ p one is here has. grind (arith, had_pair);
  holds = λ one is. grind (arith, is_own_id);
  bound = λ one here. grind (arith, bytes_eq-Decides);
  stays = λ one is here. grind arith;
  new = λ one is. grind arith;
  torn = λ one torn. grind arith;
}
  where
    granted_by : (p : ℕ) (one : List ℕ) → WasHeld books final p (record { conn = i; session = Some one })
        → (books.held p ≡ Some (record { conn = i; session = Some one })) ⊎ ((now.id ≡ Some one) × HasPair (books.pair_of i) p now.tracks)
    granted_by p one was = by was.session
      where
        by : ((is_pair (pair_asked final.kind) p ≡ true) × (final.success ≡ true) × (Some one ≡ final.id)) ⊎ ((was.before ≡ record { conn = i; session = Some one }) × (is_id (torn_by final.kind final.success) one ≡ false))
            → (books.held p ≡ Some (record { conn = i; session = Some one })) ⊎ ((now.id ≡ Some one) × HasPair (books.pair_of i) p now.tracks)
        by (inl granted) =
            let pair : books.pair_of i track.pair ≡ p = eqb-true (books.pair_of i track.pair) p (sym (ap (λ k. is_pair (pair_asked k) p) kind) ∙ granted.0) in
            let last = last_pair (books.pair_of i) (session_at k client.sessions).tracks track in
            inr (grind (arith, granted.2), subst (λ (tracks : List Track). HasPair (books.pair_of i) p tracks) (sym new_tracks) (subst (λ (q : ℕ). HasPair (books.pair_of i) q ((session_at k client.sessions).tracks ++ track ∷ [])) pair last))
        by (inr same) = inl (was.was ∙ ap (λ (held : HeldPair). Some held) same.0)
