-- What a read of an inlet gives and takes. This project's own.
use Rattle.std.specs.Prelude.{◌≡◌, ℕ, ◌<◌, ◌≤◌, List, [], Option, Result, Ok, Err}
use Rattle.std.specs.List.{flat_map}
use Rattle.std.specs.Option.{ForSome}
use Rattle.gate_outside.specs.declared.links.Got.{Got}
use Rattle.gate_outside.specs.declared.links.Got.TheVariants.{Bytes, End, NotYet}
use Rattle.gate_outside.specs.declared.parts.Part.{Part}
use Rattle.gate_outside.specs.Contents.{ReadsOk}

-- The bytes given are some, and the buffer has room for them.
abbrev pub FitsIn : Got → ℕ → Type 0
FitsIn (Bytes n) room = (0 < n) × (n ≤ room)
FitsIn End room = Unit {0}
FitsIn NotYet room = Unit {0}

-- What a read did to the bytes left: it gave the first of them, or took nothing.
abbrev pub Gets : {E : Type 0} → Option (List ℕ) → Option (List ℕ) → Result Got E → List ℕ → Type 0
Gets before now (Ok (Bytes n)) buffer = ReadsOk before now n buffer
Gets before now (Ok End) buffer = now ≡ before
Gets before now (Ok NotYet) buffer = now ≡ before
Gets before now (Err e) buffer = now ≡ before

-- No bytes are left, where they are told.
abbrev pub NoneComes : Option (List ℕ) → Type 0
NoneComes rest = ForSome rest (λ bytes. bytes ≡ [])

-- the bytes of parts, one after another
abbrev pub parts_joined : List Part → List ℕ
parts_joined parts = flat_map (λ part. part.bytes) parts
