-- What the books have of a connection's sessions, as the multiplexer has them.
use Rattle.std.proofs.Common.{◌≡◌, ◌∙◌, ℕ, ◌+◌, ◌≤◌, ◌==◌, ◌||◌, Bool, true, false, cond, List, [], ◌∷◌, map, Option, Some, None, IsSome, inl, inr, refl, sym, ap, subst, arith}
use Rattle.std.specs.Prelude.{is_none}
use Rattle.std.specs.Option.{option_map}
use Rattle.std.proofs.lemmas.Bool.{eq-eqb, eqb-true}
use Rattle.rtsp_small.specs.declared.method.Method.TheVariants as methods
use Rattle.session_one.specs.declared.parts.Track.{Track}
use Rattle.session_one.specs.Table.{same_method}
use Rattle.client_slot.specs.declared.purpose.Purpose.{Purpose}
use Rattle.client_slot.specs.declared.purpose.Purpose.TheVariants as purposes
use Rattle.client_slot.specs.Session.{PlayerSession}
use Rattle.client_slot.specs.Places.{session_at, session_where, first_place, empty_place}
use Rattle.client_slot.specs.Client.{Client}
use Rattle.client_slot.specs.Renumber.{track_under, purpose_under, session_under}
use Rattle.client_slot.proofs.RenumberLemmas.{at_under, where_under}
use Rattle.gateway_claim.specs.Books.{RequestKind, sets_up, plain, teardown_kind, Opened, Books}
use Rattle.gateway_claim.specs.BooksAndSlots.{kind_for, AreHeld, IsHolding, HasPair, IsStreamPair, IsForSession, IsPurpose, IsOpenFor, IsJoined}
use Rattle.gateway_claim.specs.Follows.{session_asked}
use Rattle.gateway_claim.specs.Turns.{shared}
use Rattle.gateway_mux.specs.Room.{empty_places}
use Rattle.gateway_mux.specs.Settlements.{has_pair}

-- A stream of the session with an id has this pair of channels.
pub record HasStream (sessions : List PlayerSession) (id : List ℕ) (p : ℕ) : Type 0 where
  pub place : ℕ
  pub named : (session_at place sessions).id ≡ Some id
  pub has : has_pair p (session_at place sessions).tracks ≡ true

-- The pairs that are held for a connection's sessions are those of its streams; and its sessions are bound to it, each at one
-- place.
pub record IsOwn (books : Books) (i : ℕ) (client : Client) : Type 0 where
  pub streams : (place p : ℕ) (id : List ℕ) → (session_at place client.sessions).id ≡ Some id → has_pair p (session_at place client.sessions).tracks ≡ true → books.held p ≡ Some (record { conn = i; session = Some id })
  pub found : (p : ℕ) (id : List ℕ) → books.held p ≡ Some (record { conn = i; session = Some id }) → HasStream client.sessions id p
  pub holds : (place : ℕ) (id : List ℕ) → (session_at place client.sessions).id ≡ Some id → books.holder id ≡ Some i
  pub session : (id : List ℕ) → books.holder id ≡ Some i → (place : ℕ) × ((session_at place client.sessions).id ≡ Some id)
  pub once : (a b : ℕ) (id : List ℕ) → (session_at a client.sessions).id ≡ Some id → (session_at b client.sessions).id ≡ Some id → a ≡ b

-- a stream whose pair is held
are_held : (books : Books) (i : ℕ) (session : Option (List ℕ)) (tracks : List Track) (p : ℕ) → AreHeld books i session tracks → has_pair p (map (track_under (books.pair_of i)) tracks) ≡ true → books.held p ≡ Some (record { conn = i; session = session })
are_held books i session [] p held has = cc
are_held books i session (track ∷ tracks) p held has = by (books.pair_of i track.pair == p) refl has (are_held books i session tracks p held.1)
  where
    by : (t : Bool) → (books.pair_of i track.pair == p) ≡ t → (t || has_pair p (map (track_under (books.pair_of i)) tracks)) ≡ true
        → (has_pair p (map (track_under (books.pair_of i)) tracks) ≡ true → books.held p ≡ Some (record { conn = i; session = session })) → books.held p ≡ Some (record { conn = i; session = session })
    by true e has later = ap books.held (sym (eqb-true (books.pair_of i track.pair) p e)) ∙ held.0.0
    by false e has later = later has

has_under : (pairs : ℕ → ℕ) (p : ℕ) (tracks : List Track) → HasPair pairs p tracks → has_pair p (map (track_under pairs) tracks) ≡ true
has_under pairs p [] has = absurd has
has_under pairs p (track ∷ tracks) (inl same) = ap (λ t. t || has_pair p (map (track_under pairs) tracks)) (eq-eqb (pairs track.pair) p same)
has_under pairs p (track ∷ tracks) (inr more) = ap (λ t. (pairs track.pair == p) || t) (has_under pairs p tracks more) ∙ by (pairs track.pair == p)
  where
    by : (t : Bool) → (t || true) ≡ true
    by true = refl
    by false = refl

pub own_shared : (books : Books) (i count : ℕ) (client : Client) → IsJoined books i client count → IsOwn books i (shared books i client)
own_shared books i count client joined = record {
  streams = λ place p id named has. held_at place p id (sym (id_at place) ∙ named) (sym (ap (has_pair p) (tracks_at place)) ∙ has);
  found = λ p id held. let stream : IsStreamPair (books.pair_of i) client.sessions id p = joined.granted p id held in record {
    place = stream.place;
    named = id_at stream.place ∙ stream.named;
    has = ap (has_pair p) (tracks_at stream.place) ∙ has_under (books.pair_of i) p (session_at stream.place client.sessions).tracks stream.has;
  };
  holds = λ place id named. joined.holds place id (sym (id_at place) ∙ named);
  session = λ id held. let (place, named) = joined.session id held in (place, id_at place ∙ named);
  once = λ a b id at_a at_b. joined.once a b id (sym (id_at a) ∙ at_a) (sym (id_at b) ∙ at_b);
}
  where
    id_at : (place : ℕ) → (session_at place (shared books i client).sessions).id ≡ (session_at place client.sessions).id
    id_at place = ap (λ (one : PlayerSession). one.id) (at_under (books.number_of i) (books.pair_of i) place client.sessions)

    tracks_at : (place : ℕ) → (session_at place (shared books i client).sessions).tracks ≡ map (track_under (books.pair_of i)) (session_at place client.sessions).tracks
    tracks_at place = ap (λ (one : PlayerSession). one.tracks) (at_under (books.number_of i) (books.pair_of i) place client.sessions)

    held_at : (place p : ℕ) (id : List ℕ) → (session_at place client.sessions).id ≡ Some id → has_pair p (map (track_under (books.pair_of i)) (session_at place client.sessions).tracks) ≡ true → books.held p ≡ Some (record { conn = i; session = Some id })
    held_at place p id named has =
        are_held books i (Some id) (session_at place client.sessions).tracks p
        (subst (λ (session : Option (List ℕ)). IsHolding books i session (session_at place client.sessions).tracks) named (joined.tracks place)) has

-- A SETUP that names no session has an empty place.
kind_apart : (kind : RequestKind) (pair : ℕ) → kind ≡ plain → kind ≡ sets_up pair → ⊥
kind_apart kind pair is set = let no : plain ≡ sets_up pair = sym is ∙ set in cc

torn_apart : (shut : Bool) (id : Option (List ℕ)) (pair : ℕ) → teardown_kind shut id ≡ sets_up pair → ⊥
torn_apart shut None pair e = cc
torn_apart true (Some id) pair e = cc
torn_apart false (Some id) pair e = cc

some_none : (id : Option (List ℕ)) → IsSome id → id ≡ None → ⊥
some_none None some e = cc
some_none (Some id) some e = cc

setup_empty : (books : Books) (i pair : ℕ) (sessions : List PlayerSession) (purpose : Purpose) → kind_for (books.pair_of i) sessions purpose ≡ sets_up pair → IsPurpose books i sessions purpose → session_asked sessions (Some purpose) ≡ None → IsSome (empty_place sessions)
setup_empty books i pair sessions (purposes.Client asked (Some track)) kind is none = by asked.place is.2 none
  where
    by : (place : Option ℕ) → IsForSession place sessions → (session_where place sessions).id ≡ None → IsSome (empty_place sessions)
    by None empty none = empty
    by (Some place) there none = absurd (some_none (session_at place sessions).id there none)
setup_empty books i pair sessions (purposes.Client asked None) kind is none = absurd (by (same_method asked.method methods.Teardown) kind)
  where
    by : (t : Bool) → cond t (teardown_kind false (session_where asked.place sessions).id) plain ≡ sets_up pair → ⊥
    by true e = torn_apart false (session_where asked.place sessions).id pair e
    by false e = cc
setup_empty books i pair sessions (purposes.Released play) kind is none = cc
setup_empty books i pair sessions (purposes.Closing place) kind is none = absurd (torn_apart true (session_at place sessions).id pair kind)

same_opened : (a b : Opened) → Some a ≡ Some b → a.kind ≡ b.kind
same_opened a b e = cc

open_empty : (books : Books) (i count number pair : ℕ) (client : Client) → IsJoined books i client count → books.opened number ≡ Some (record { conn = i; kind = sets_up pair }) → session_asked client.sessions client.pending ≡ None → IsSome (empty_place client.sessions)
open_empty books i count number pair client joined here none = by client.pending joined.pending (joined.last number (record { conn = i; kind = sets_up pair }) here refl).1 none
  where
    same_number : number ≡ books.number_of i count
    same_number = (joined.last number (record { conn = i; kind = sets_up pair }) here refl).0

    by : (pending : Option Purpose) → IsOpenFor books i (books.number_of i count) client.sessions pending → IsSome pending → session_asked client.sessions pending ≡ None → IsSome (empty_place client.sessions)
    by None now some none = cc
    by (Some purpose) now some none =
        setup_empty books i pair client.sessions purpose (same_opened _ _ (sym now.0 ∙ ap books.opened (sym same_number) ∙ here)) now.1 none

asked_under : (numbers pairs : ℕ → ℕ) (sessions : List PlayerSession) (pending : Option Purpose) → session_asked (map (session_under numbers pairs) sessions) (option_map (purpose_under pairs) pending) ≡ session_asked sessions pending
asked_under numbers pairs sessions None = refl
asked_under numbers pairs sessions (Some (purposes.Client asked track)) = ap (λ (one : PlayerSession). one.id) (where_under numbers pairs asked.place sessions)
asked_under numbers pairs sessions (Some (purposes.Released play)) = refl
asked_under numbers pairs sessions (Some (purposes.Closing place)) = refl

count_empty : (numbers pairs : ℕ → ℕ) (from : ℕ) (sessions : List PlayerSession) → IsSome (first_place (λ session. is_none session.id) from sessions) → 1 ≤ empty_places (map (session_under numbers pairs) sessions)
count_empty numbers pairs from [] some = cc
count_empty numbers pairs from (one ∷ more) some = by (is_none one.id) some (count_empty numbers pairs (from + 1) more)
  where
    by : (t : Bool) → IsSome (cond t (Some from) (first_place (λ session. is_none session.id) (from + 1) more)) → (IsSome (first_place (λ session. is_none session.id) (from + 1) more) → 1 ≤ empty_places (map (session_under numbers pairs) more))
        → 1 ≤ cond t 1 0 + empty_places (map (session_under numbers pairs) more)
    by true some later = omega arith
    by false some later = omega (arith, later some)

-- So the multiplexer has room for its session.
pub setup_room : (books : Books) (i count number pair : ℕ) (client : Client) → IsJoined books i client count → books.opened number ≡ Some (record { conn = i; kind = sets_up pair })
    → session_asked (shared books i client).sessions (shared books i client).pending ≡ None → 1 ≤ empty_places (shared books i client).sessions
setup_room books i count number pair client joined here none =
    count_empty (books.number_of i) (books.pair_of i) 0 client.sessions
    (open_empty books i count number pair client joined here (sym (asked_under (books.number_of i) (books.pair_of i) client.sessions client.pending) ∙ none))
