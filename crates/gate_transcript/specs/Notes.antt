-- What a note does to the entries that a recorder tells, the newest first, and when it may fail. This project's own.
use Rattle.std.specs.Prelude.{◌≡◌, ◌⊎◌, ◌≤◌, ℕ, List, ◌∷◌, Option, Some, None, Result, Ok, Err}
use Rattle.gate_outside.specs.Causes.{Rose}
use Rattle.gate_transcript.specs.declared.entry.Entry.{Entry}
use Rattle.gate_transcript.specs.declared.entry.EntryKind.{EntryKind}
use Rattle.gate_transcript.specs.declared.recorder.NoteFault.{NoteFault}
use Rattle.gate_transcript.specs.declared.recorder.NoteFault.TheVariants.{Failed, Memory}

-- the entry that a note is asked for
abbrev pub entry_noted : EntryKind → ℕ → List ℕ → Entry
entry_noted kind conn body = record { kind = kind; conn = conn; body = body }

-- What a note of an entry does: it comes before the entries so far; after a failure they may be told no more. Entries that
-- are not told stay so.
abbrev pub NotesSo : Option (List Entry) → Option (List Entry) → Entry → Result (Unit {0}) NoteFault → Type 0
NotesSo None now e result = now ≡ None
NotesSo (Some entries) now e (Ok u) = now ≡ Some (e ∷ entries)
NotesSo (Some entries) now e (Err Failed) = (now ≡ Some entries) ⊎ (now ≡ None)
NotesSo (Some entries) now e (Err Memory) = now ≡ Some entries

-- The count of faults has not fallen, and where the note failed otherwise than by want of memory it rose.
pub record HasNoteCause (before now : ℕ) (result : Result (Unit {0}) NoteFault) : Type 0 where
  pub later : before ≤ now
  pub failed : result ≡ Err Failed → Rose before now
