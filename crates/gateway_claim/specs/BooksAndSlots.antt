-- What the books of a history and the record of a connection alone say of one another (this project's own).
use Rattle.std.specs.Prelude.{◌≡◌, ◌⊎◌, ℕ, ◌≤◌, List, [], ◌∷◌, Option, Some, None, IsSome, false, true, if◌then◌else◌, IfSome}
use Rattle.rtsp_small.specs.declared.method.Method.TheVariants as methods
use Rattle.session_one.specs.declared.parts.Track.{Track}
use Rattle.session_one.specs.Table.{same_method}
use Rattle.translate_up.specs.Fields.{is_setup}
use Rattle.client_slot.specs.declared.purpose.Purpose.{Purpose}
use Rattle.client_slot.specs.declared.purpose.Purpose.TheVariants as purposes
use Rattle.client_slot.specs.Session.{PlayerSession}
use Rattle.client_slot.specs.Places.{session_at, session_where, empty_place}
use Rattle.client_slot.specs.Client.{Client}
use Rattle.gateway_claim.specs.Books.{RequestKind, sets_up, plain, teardown_kind, Opened, HeldPair, Books}
use Rattle.std.specs.List.{AllByRecursion}

-- the kind of the request that is open for a purpose, by the pairs that the connection's own pairs stand for, and by its
-- sessions
abbrev pub kind_for : (ℕ → ℕ) → List PlayerSession → Purpose → RequestKind
kind_for pairs sessions (purposes.Client asked (Some track)) = sets_up (pairs track.pair)
kind_for pairs sessions (purposes.Client asked None) =
    if same_method asked.method methods.Teardown then teardown_kind false (session_where asked.place sessions).id else plain
kind_for pairs sessions (purposes.Released play) = plain
kind_for pairs sessions (purposes.Closing place) = teardown_kind true (session_at place sessions).id

-- The pair that a player's own one stands for is held for it and for this session, and its own one is found again.
abbrev pub IsHeldFor : Books → ℕ → Option (List ℕ) → ℕ → Type 0
IsHeldFor books i session own = (books.held (books.pair_of i own) ≡ Some (record { conn = i; session = session })) × (books.own_pair (books.pair_of i own) ≡ own)

-- so for each of the streams of a session
abbrev pub AreHeld : Books → ℕ → Option (List ℕ) → List Track → Type 0
AreHeld books i session tracks = AllByRecursion (λ track. IsHeldFor books i session track.pair) tracks

-- an empty place has no stream, and those of a session are held for it
abbrev pub IsHolding : Books → ℕ → Option (List ℕ) → List Track → Type 0
IsHolding books i None tracks = tracks ≡ []
IsHolding books i (Some id) tracks = AreHeld books i (Some id) tracks

-- one of these streams has a pair of channels, where the connection's own pairs stand for others
abbrev pub HasPair : (ℕ → ℕ) → ℕ → List Track → Type 0
HasPair pairs p [] = ⊥
HasPair pairs p (track ∷ tracks) = (pairs track.pair ≡ p) ⊎ HasPair pairs p tracks

-- A stream of the session with an id has this pair of channels.
pub record IsStreamPair (pairs : ℕ → ℕ) (sessions : List PlayerSession) (id : List ℕ) (p : ℕ) : Type 0 where
  pub place : ℕ
  pub named : (session_at place sessions).id ≡ Some id
  pub has : HasPair pairs p (session_at place sessions).tracks

-- a SETUP names a session that is there, or else has an empty place
abbrev pub IsForSession : Option ℕ → List PlayerSession → Type 0
IsForSession None sessions = IsSome (empty_place sessions)
IsForSession (Some place) sessions = IsSome (session_at place sessions).id

-- SETUP alone has a stream, whose pair is held.
abbrev pub IsPurpose : Books → ℕ → List PlayerSession → Purpose → Type 0
IsPurpose books i sessions (purposes.Client asked (Some track)) = IsHeldFor books i None track.pair × (asked.method ≡ methods.Setup) × IsForSession asked.place sessions
IsPurpose books i sessions (purposes.Client asked None) = is_setup asked.method ≡ false
IsPurpose books i sessions purpose = Unit {0}

-- what the book keeps of an open request of a connection
abbrev pub opened_for : Books → ℕ → List PlayerSession → Purpose → Opened
opened_for books i sessions purpose = record { conn = i; kind = kind_for (books.pair_of i) sessions purpose }

-- The request that is open is the last one that went up for the connection, and there is no other one.
abbrev pub IsOpenFor : Books → ℕ → ℕ → List PlayerSession → Option Purpose → Type 0
IsOpenFor books i number sessions pending = IfSome pending (λ purpose. (books.opened number ≡ Some (opened_for books i sessions purpose)) × IsPurpose books i sessions purpose)

-- no other request of the connection is open
abbrev pub IsOnlyOpen : Books → ℕ → ℕ → Option Purpose → Type 0
IsOnlyOpen books i number pending = (g : ℕ) (opened : Opened) → books.opened g ≡ Some opened → opened.conn ≡ i → (g ≡ number) × IsSome pending

-- What the books say of a connection is what its own record says: how many requests went up; which pairs its streams have,
-- and that no other pair is held for its sessions; which request is open; and which sessions it has, each at one place.
pub record IsJoined (books : Books) (i : ℕ) (client : Client) (count : ℕ) : Type 0 where
  pub counted : count ≡ books.counts i
  pub tracks : (place : ℕ) → IsHolding books i (session_at place client.sessions).id (session_at place client.sessions).tracks
  pub granted : (p : ℕ) (id : List ℕ) → books.held p ≡ Some (record { conn = i; session = Some id }) → IsStreamPair (books.pair_of i) client.sessions id p
  pub pending : IsOpenFor books i (books.number_of i count) client.sessions client.pending
  pub last : IsOnlyOpen books i (books.number_of i count) client.pending
  pub holds : (place : ℕ) (id : List ℕ) → (session_at place client.sessions).id ≡ Some id → books.holder id ≡ Some i
  pub session : (id : List ℕ) → books.holder id ≡ Some i → (place : ℕ) × ((session_at place client.sessions).id ≡ Some id)
  pub once : (a b : ℕ) (id : List ℕ) → (session_at a client.sessions).id ≡ Some id → (session_at b client.sessions).id ≡ Some id → a ≡ b

-- What was given can be found back, no number is open that was not given, and a pair is held for a session of its holder.
pub record AreSound (books : Books) : Type 0 where
  pub low : (g : ℕ) (opened : Opened) → books.opened g ≡ Some opened → g ≤ books.issued
  pub given : (g i : ℕ) → books.giver g ≡ Some i → (g ≤ books.issued) × (books.number_of i (books.own_number g) ≡ g) × (1 ≤ books.own_number g) × (books.own_number g ≤ books.counts i)
  pub numbers : (i own : ℕ) → 1 ≤ own → own ≤ books.counts i → (books.giver (books.number_of i own) ≡ Some i) × (books.own_number (books.number_of i own) ≡ own)
  pub pairs : (p : ℕ) (held : HeldPair) → books.held p ≡ Some held → (books.pair_of held.conn (books.own_pair p) ≡ p) × (books.own_pair p ≤ books.counts held.conn)
  pub bound : (p : ℕ) (held : HeldPair) (id : List ℕ) → books.held p ≡ Some held → held.session ≡ Some id → books.holder id ≡ Some held.conn
