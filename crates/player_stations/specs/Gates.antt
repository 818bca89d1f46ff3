-- What comes of waiting for a link (this project's own).
use Rattle.std.specs.Prelude.{◌≡◌, ℕ, List, length, Option}
use Rattle.std.specs.Option.{option_map}
use Rattle.gate_outside.specs.Doors.{IsNewLink}
use Rattle.player_stations.specs.declared.next.Next.{Next}
use Rattle.player_stations.specs.declared.next.Next.TheVariants.{Link, NotYet, Over, Failed}

-- No link is left, where the links left are told.
abbrev pub NoneLeft : {A : Type 0} → Option (List A) → Type 0
NoneLeft left = option_map length left ≡ option_map (λ links. 0) left

-- The link that came, where one did, was not used.
abbrev pub GivesNew : {I O : Type 0} → (I → ℕ) → (I → ℕ) → (O → ℕ) → (O → Option (List ℕ)) → Next I O → Type 0
GivesNew in_faults in_ends out_faults written (Link inward outward) = IsNewLink in_faults in_ends out_faults written inward outward
GivesNew in_faults in_ends out_faults written NotYet = Unit {0}
GivesNew in_faults in_ends out_faults written Over = Unit {0}
GivesNew in_faults in_ends out_faults written Failed = Unit {0}
