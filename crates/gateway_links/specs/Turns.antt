-- What a turn of a writer takes and writes. This project's own.
use Rattle.std.specs.Prelude.{◌≡◌, ℕ, Bool, true, false, List, [], ◌++◌, Option, Result, Ok, Err}
use Rattle.client_ports.specs.declared.parcel.Parcel.{Parcel}
use Rattle.gate_outside.specs.Contents.{Grows, GrowsByFront}
use Rattle.gateway_links.specs.declared.turn.WriterTurn.{WriterTurn}
use Rattle.gateway_links.specs.declared.turn.WriterTurn.TheVariants.{Wrote, Stuck, Idle, Failed}
use Rattle.gateway_links.specs.WrittenParcels.{parcel_bytes, parcels_bytes}

-- Of the bytes that were held and those that came, the first were written, and the rest is held now.
pub record Carries (before now : Option (List ℕ)) (held left bytes : List ℕ) : Type 0 where
  pub put : List ℕ
  pub whole : put ++ left ≡ held ++ bytes
  pub grown : Grows before now put

-- The same, or, where the outlet failed, some of the first of these bytes were written.
abbrev pub Moves : {T E : Type 0} → Option (List ℕ) → Option (List ℕ) → List ℕ → List ℕ → List ℕ → Result T E → Type 0
Moves before now held left bytes (Ok u) = Carries before now held left bytes
Moves before now held left bytes (Err e) = GrowsByFront before now (held ++ bytes)

-- nothing is held any more, where nothing failed
abbrev pub Empties : {T E : Type 0} → Result T E → List ℕ → Type 0
Empties (Ok u) left = left ≡ []
Empties (Err e) left = Unit {0}

-- Parcels were taken, and their bytes came to those that were held.
pub record Gathers {T E : Type 0} (before now : Option (List ℕ)) (taken taken_now : List Parcel) (held left : List ℕ) (result : Result T E) : Type 0 where
  pub more : List Parcel
  pub taken_more : taken_now ≡ taken ++ more
  pub moves : Moves before now held left (parcels_bytes more) result

-- The same of one parcel, which was taken before, and of these behind it.
pub record GathersFrom {T E : Type 0} (first : Parcel) (before now : Option (List ℕ)) (taken taken_now : List Parcel) (held left : List ℕ) (result : Result T E) : Type 0 where
  pub more : List Parcel
  pub taken_more : taken_now ≡ taken ++ more
  pub moves : Moves before now held left (parcel_bytes first ++ parcels_bytes more) result

-- Parcels were taken, and of the bytes that were held and theirs the first were written, and the rest is held now.
pub record Forwards (before now : Option (List ℕ)) (taken taken_now : List Parcel) (held left : List ℕ) : Type 0 where
  pub more : List Parcel
  pub taken_more : taken_now ≡ taken ++ more
  pub carries : Carries before now held left (parcels_bytes more)

-- Parcels were taken, and a front of the bytes that were held and of theirs was written.
pub record Breaks (before now : Option (List ℕ)) (taken taken_now : List Parcel) (held : List ℕ) : Type 0 where
  pub more : List Parcel
  pub taken_more : taken_now ≡ taken ++ more
  pub front : GrowsByFront before now (held ++ parcels_bytes more)

-- What a turn did to what was written, to what was taken and to what is held.
abbrev pub DoesTurn : WriterTurn → Option (List ℕ) → Option (List ℕ) → List Parcel → List Parcel → List ℕ → List ℕ → Type 0
DoesTurn Wrote before now taken taken_now held left = Forwards before now taken taken_now held left
DoesTurn Stuck before now taken taken_now held left = Forwards before now taken taken_now held left
DoesTurn Idle before now taken taken_now held left = Forwards before now taken taken_now held left × (left ≡ [])
DoesTurn Failed before now taken taken_now held left = Breaks before now taken taken_now held

-- whether the outlet has failed
abbrev pub is_failure : WriterTurn → Bool
is_failure Wrote = false
is_failure Stuck = false
is_failure Idle = false
is_failure Failed = true

-- the turn in which an offer had this outcome: whether some bytes were written
abbrev pub turn_of : {E : Type 0} → Result Bool E → WriterTurn
turn_of (Ok true) = Wrote
turn_of (Ok false) = Stuck
turn_of (Err e) = Failed
