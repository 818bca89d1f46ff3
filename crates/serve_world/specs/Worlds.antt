-- What a world hands out, before it was used. This project's own.
use Rattle.std.specs.Prelude.{◌≡◌, ℕ, List, [], Option}
use Rattle.std.specs.Option.{ForSome}
use Rattle.gate_transcript.specs.declared.entry.Entry.{Entry}

-- A door that has not failed and has not told that no link comes any more.
pub record IsNewDoor (faults ends : ℕ) : Type 0 where
  pub sound : faults ≡ 0
  pub open_still : ends ≡ 0

-- A recorder that has not failed and has noted nothing, where its entries are told.
pub record IsNewRecorder (faults : ℕ) (entries : Option (List Entry)) : Type 0 where
  pub sound : faults ≡ 0
  pub empty : ForSome entries (λ noted. noted ≡ [])
