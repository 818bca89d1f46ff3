-- What a read from a source adds to the bytes that are held. This project's own.
use Rattle.std.specs.Prelude.{◌≡◌, ℕ, ◌≤◌, List, ◌++◌, length, Option, Result, Ok, Err}
use Rattle.gate_outside.specs.Causes.{Rose}
use Rattle.gate_outside.specs.Contents.{ReadsOk}
use Rattle.gate_transcript.specs.declared.fault.ReadFault.{ReadFault}
use Rattle.gate_transcript.specs.declared.fault.ReadFault.TheVariants.{Source, Memory}

-- so many bytes of the source stand behind those that were held
pub record ReadsBehind (before now : Option (List ℕ)) (held holds : List ℕ) (count : ℕ) : Type 0 where
  pub piece : List ℕ
  pub size : length piece ≡ count
  pub joined : holds ≡ held ++ piece
  pub taken : ReadsOk before now count piece

-- what a read did: a failed one took nothing
abbrev pub ReadsOnto : Option (List ℕ) → Option (List ℕ) → List ℕ → List ℕ → Result ℕ ReadFault → Type 0
ReadsOnto before now held holds (Ok count) = ReadsBehind before now held holds count
ReadsOnto before now held holds (Err fault) = (now ≡ before) × (holds ≡ held)

-- where the source is said to have failed, its count of faults rose
abbrev pub RoseBy : ℕ → ℕ → Result ℕ ReadFault → Type 0
RoseBy before now (Ok count) = Unit {0}
RoseBy before now (Err Source) = Rose before now
RoseBy before now (Err Memory) = Unit {0}

-- the source's count doesn't fall, and a fault of it has its count
pub record RoseAtSource (before now : ℕ) (result : Result ℕ ReadFault) : Type 0 where
  pub later : before ≤ now
  pub rose : RoseBy before now result
