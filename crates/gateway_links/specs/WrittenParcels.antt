-- The bytes of parcels, and what is written of them. This project's own.
use Rattle.std.specs.Prelude.{◌≡◌, ℕ, Bool, true, false, List, length, take, ◌++◌, Option}
use Rattle.std.specs.List.{flat_map}
use Rattle.std.specs.Option.{option_map}
use Rattle.client_ports.specs.declared.parcel.Parcel.{Parcel}
use Rattle.client_ports.specs.declared.parcel.Parcel.TheVariants.{Item, Bytes}

-- the bytes of a parcel: an item's own, or the bytes themselves
abbrev pub parcel_bytes : Parcel → List ℕ
parcel_bytes (Item item) = item.bytes
parcel_bytes (Bytes text) = text

-- the bytes of parcels, one after another
abbrev pub parcels_bytes : List Parcel → List ℕ
parcels_bytes parcels = flat_map parcel_bytes parcels

-- the bytes of the parcels taken, or, where the outlet failed, so many of the first of them
abbrev pub due_bytes : Bool → List Parcel → ℕ → List ℕ
due_bytes false taken n = parcels_bytes taken
due_bytes true taken n = take n (parcels_bytes taken)

-- What was written, where it is told, is the bytes of the parcels taken, or, where the outlet failed, the first of them.
abbrev pub HasWritten : Option (List ℕ) → List Parcel → Bool → Type 0
HasWritten written taken failed = written ≡ option_map (λ bytes. due_bytes failed taken (length bytes)) written

-- the bytes written with those that are held, which are written next where the outlet has not failed
abbrev pub with_held : Bool → List ℕ → List ℕ → List ℕ
with_held false held bytes = bytes ++ held
with_held true held bytes = bytes

-- The same of what was written and what is held.
abbrev pub HasTaken : Option (List ℕ) → List Parcel → Bool → List ℕ → Type 0
HasTaken written taken failed held = option_map (λ bytes. with_held failed held bytes) written ≡ option_map (λ bytes. due_bytes failed taken (length bytes)) written
