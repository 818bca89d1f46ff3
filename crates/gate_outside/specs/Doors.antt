-- What a door does when it is asked for a link. This project's own.
use Rattle.std.specs.Prelude.{◌≡◌, ℕ, List, [], ◌∷◌, Option, Result, Ok, Err}
use Rattle.std.specs.Option.{ForSome, option_map}
use Rattle.gate_outside.specs.declared.door.Arrived.{Arrived}
use Rattle.gate_outside.specs.declared.door.Arrived.TheVariants.{Link, NotYet, End}
use Rattle.gate_outside.specs.declared.streams.Failed.{Failed}

-- the links left after one came: that one stood before them
abbrev pub before_link : {I O : Type 0} → I → O → Option (List (I × O)) → Option (List (I × O))
before_link inward outward left = option_map (λ links. (inward, outward) ∷ links) left

-- No link is left, where they are told.
abbrev pub NoLinkLeft : {I O : Type 0} → Option (List (I × O)) → Type 0
NoLinkLeft left = ForSome left (λ links. links ≡ [])

-- What the door's answer did to the links left: a link is the first of them, and the end comes only where none is left.
-- Every other answer leaves them. Links that are not told stay so.
abbrev pub Admits : {I O : Type 0} → Option (List (I × O)) → Option (List (I × O)) → Result (Arrived I O) Failed → Type 0
Admits before now (Ok (Link inward outward)) = before ≡ before_link inward outward now
Admits before now (Ok NotYet) = now ≡ before
Admits before now (Ok End) = (now ≡ before) × NoLinkLeft before
Admits before now (Err failed) = now ≡ before

-- A link that was not used: its halves have not failed, what comes in has not ended, and nothing was written, where that
-- is told.
pub record IsNewLink {I O : Type 0} (in_faults in_ends : I → ℕ) (out_faults : O → ℕ) (written : O → Option (List ℕ)) (inward : I) (outward : O) : Type 0 where
  pub faults : in_faults inward ≡ 0
  pub ends : in_ends inward ≡ 0
  pub refusals : out_faults outward ≡ 0
  pub empty : ForSome (written outward) (λ bytes. bytes ≡ [])

-- The link that the door gave, where it gave one, was not used.
abbrev pub GivesNewLink : {I O : Type 0} → (I → ℕ) → (I → ℕ) → (O → ℕ) → (O → Option (List ℕ)) → Result (Arrived I O) Failed → Type 0
GivesNewLink in_faults in_ends out_faults written (Ok (Link inward outward)) = IsNewLink in_faults in_ends out_faults written inward outward
GivesNewLink in_faults in_ends out_faults written (Ok NotYet) = Unit {0}
GivesNewLink in_faults in_ends out_faults written (Ok End) = Unit {0}
GivesNewLink in_faults in_ends out_faults written (Err failed) = Unit {0}

-- The door answered that it has no link for now.
abbrev pub HadNone : {I O : Type 0} → Result (Arrived I O) Failed → Type 0
HadNone result = result ≡ Ok NotYet

-- The door answered that no link comes any more.
abbrev pub HasEnded : {I O : Type 0} → Result (Arrived I O) Failed → Type 0
HasEnded result = result ≡ Ok End
