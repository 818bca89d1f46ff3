-- Who holds a pair is what the books have: the session of a pair is the one whose streams have it.
use Rattle.std.proofs.Common.{◌≡◌, ◌∙◌, ℕ, zero, suc, ◌==◌, ◌||◌, Bool, true, false, cond, List, map, [], ◌∷◌, Option, Some, None, inl, inr, refl, sym, ap}
use Rattle.std.specs.Option.{option_and_then}
use Rattle.std.proofs.lemmas.Bool.{eq-eqb, eqb-true}
use Rattle.session_one.specs.declared.parts.Track.{Track}
use Rattle.client_slot.specs.Session.{PlayerSession}
use Rattle.client_slot.specs.Places.{session_at}
use Rattle.client_slot.specs.Renumber.{track_under, session_under}
use Rattle.gateway_claim.specs.Books.{HeldPair, Books}
use Rattle.gateway_claim.specs.BooksAndSlots.{AreHeld, IsHolding, HasPair, IsStreamPair}
use Rattle.gateway_mux.specs.Settlements.{has_pair}
use Rattle.gateway_mux.specs.Pictures.{session_holding}

-- whether a stream has a pair in the numbers of the one connection
later_true : (here rest : Bool) → rest ≡ true → (here || rest) ≡ true
later_true true rest e = refl
later_true false rest e = e

pub had_true : (pairs : ℕ → ℕ) (p : ℕ) (tracks : List Track) → HasPair pairs p tracks → has_pair p (map (track_under pairs) tracks) ≡ true
had_true pairs p [] has = absurd has
had_true pairs p (track ∷ more) (inl here) = ap (λ t. t || has_pair p (map (track_under pairs) more)) (eq-eqb (pairs track.pair) p here)
had_true pairs p (track ∷ more) (inr later) = later_true (pairs track.pair == p) (has_pair p (map (track_under pairs) more)) (had_true pairs p more later)

had_by : (pairs : ℕ → ℕ) (p : ℕ) (track : Track) (more : List Track) (here rest : Bool) → (pairs track.pair == p) ≡ here → (rest ≡ true → HasPair pairs p more) → (here || rest) ≡ true → HasPair pairs p (track ∷ more)
had_by pairs p track more true rest e later has = inl (eqb-true (pairs track.pair) p e)
had_by pairs p track more false rest e later has = inr (later has)

pub true_had : (pairs : ℕ → ℕ) (p : ℕ) (tracks : List Track) → has_pair p (map (track_under pairs) tracks) ≡ true → HasPair pairs p tracks
true_had pairs p [] has = cc
true_had pairs p (track ∷ more) has = had_by pairs p track more (pairs track.pair == p) (has_pair p (map (track_under pairs) more)) refl (true_had pairs p more) has

-- the pair of a stream is held for its session
held_of : (books : Books) (i : ℕ) (session : Option (List ℕ)) (p : ℕ) (tracks : List Track) → AreHeld books i session tracks → HasPair (books.pair_of i) p tracks → books.held p ≡ Some (record { conn = i; session = session })
held_of books i session p [] held has = absurd has
held_of books i session p (track ∷ more) held (inl here) = ap books.held (sym here) ∙ held.0.0
held_of books i session p (track ∷ more) held (inr later) = held_of books i session p more held.1 later

none_had : (pairs : ℕ → ℕ) (p : ℕ) (tracks : List Track) → tracks ≡ [] → HasPair pairs p tracks → ⊥
none_had pairs p [] none has = has
none_had pairs p (track ∷ more) none has = cc

pub stream_held : (books : Books) (i : ℕ) (p : ℕ) (session : Option (List ℕ)) (tracks : List Track) → IsHolding books i session tracks → HasPair (books.pair_of i) p tracks → books.held p ≡ Some (record { conn = i; session = session })
stream_held books i p None tracks holding has = absurd (none_had (books.pair_of i) p tracks holding has)
stream_held books i p (Some id) tracks holding has = held_of books i (Some id) p tracks holding has

same_session : (a b : HeldPair) → Some a ≡ Some b → a.session ≡ b.session
same_session a b e = ap (λ (one : Option HeldPair). option_and_then (λ (held : HeldPair). held.session) one) e

-- The first session that has it is the one that it is held for.
true_is_false : true ≡ false → ⊥
true_is_false e = cc

first_by : (here : Bool) (id : Option (List ℕ)) (rest named : Option (List ℕ)) → (here ≡ true → id ≡ named) → (here ≡ false → rest ≡ named) → cond here id rest ≡ named
first_by true id rest named at later = at refl
first_by false id rest named at later = later refl

first_with : (numbers pairs : ℕ → ℕ) (p : ℕ) (id : List ℕ) (place : ℕ) (sessions : List PlayerSession) → ((at : ℕ) → HasPair pairs p (session_at at sessions).tracks → (session_at at sessions).id ≡ Some id)
    → HasPair pairs p (session_at place sessions).tracks → session_holding p (map (session_under numbers pairs) sessions) ≡ Some id
first_with numbers pairs p id place [] only has = absurd has
first_with numbers pairs p id zero (one ∷ more) only has =
    first_by (has_pair p (map (track_under pairs) one.tracks)) one.id (session_holding p (map (session_under numbers pairs) more)) (Some id)
    (λ e. only zero has) (λ e. absurd (true_is_false (sym (had_true pairs p one.tracks has) ∙ e)))
first_with numbers pairs p id (suc place) (one ∷ more) only has =
    first_by (has_pair p (map (track_under pairs) one.tracks)) one.id (session_holding p (map (session_under numbers pairs) more)) (Some id)
    (λ e. only zero (true_had pairs p one.tracks e)) (λ e. first_with numbers pairs p id place more (λ at. only (suc at)) has)

pub session_found : (books : Books) (i : ℕ) (sessions : List PlayerSession) (p : ℕ) (id : List ℕ) → ((place : ℕ) → IsHolding books i (session_at place sessions).id (session_at place sessions).tracks)
    → books.held p ≡ Some (record { conn = i; session = Some id }) → IsStreamPair (books.pair_of i) sessions id p → session_holding p (map (session_under (books.number_of i) (books.pair_of i)) sessions) ≡ Some id
session_found books i sessions p id holding held stream =
    first_with (books.number_of i) (books.pair_of i) p id stream.place sessions
    (λ at has. same_session (record { conn = i; session = (session_at at sessions).id }) (record { conn = i; session = Some id }) (sym (stream_held books i p (session_at at sessions).id (session_at at sessions).tracks (holding at) has) ∙ held)) stream.has
