-- What the parts of a reader do to its fields. This project's own.
use Rattle.std.specs.Prelude.{◌≡◌, ℕ, ◌+◌, ◌-◌, ◌^◌, ◌<◌, ◌≤◌, ◌==◌, ◌&&◌, ◌||◌, min, nat_eq, true, false, length, drop, Option, Some, None, Result, Ok, Err}
use Rattle.std.specs.List.{starts_with}
use Rattle.gate_transcript.specs.declared.entry.Entry.{Entry}
use Rattle.gate_transcript.specs.declared.fault.BadEntryKind.{BadEntryKind}
use Rattle.gate_transcript.specs.declared.fault.BadEntryKind.TheVariants.{Magic, Cut}
use Rattle.gate_transcript.specs.declared.fault.EntryFault.{EntryFault}
use Rattle.gate_transcript.specs.declared.fault.EntryFault.TheVariants.{Bad, Memory}
use Rattle.gate_transcript.specs.declared.head.EntryHead.{EntryHead}
use Rattle.gate_transcript.specs.declared.head.TheConstants.{HEAD_LENGTH}
use Rattle.gate_transcript.specs.declared.reader.TheConstants.{MAGIC_LENGTH}
use Rattle.gate_transcript.specs.declared.fault.BadEntry.{BadEntry}
use Rattle.gate_transcript.specs.declared.reader.ReaderStage.TheVariants.{Entries, Stopped}
use Rattle.gate_transcript.specs.declared.reader.EntryReader.{EntryReader}
use Rattle.gate_transcript.specs.Connections.{has}
use Rattle.gate_transcript.specs.Transcript.{magic, is_enter, entry_with, bad_entry}

-- a reader with as many bytes as the magic or more goes on after it, or stops where other bytes stand; with fewer it waits
pub record PassesMagic (old new : EntryReader) : Type 0 where
  pub short : length old.left < MAGIC_LENGTH → new ≡ old
  pub right : MAGIC_LENGTH ≤ length old.left → starts_with nat_eq old.left magic ≡ true → new ≡ record old { stage = Entries; place = MAGIC_LENGTH; left = drop MAGIC_LENGTH old.left }
  pub wrong : MAGIC_LENGTH ≤ length old.left → starts_with nat_eq old.left magic ≡ false → new ≡ record old { stage = Stopped (bad_entry 0 Magic) }

-- the same stage, place and bytes, and the same connections
pub record IsSame (old new : EntryReader) : Type 0 where
  pub stage : new.stage ≡ old.stage
  pub place : new.place ≡ old.place
  pub left : new.left ≡ old.left
  pub who : (conn : ℕ) → has new.entered conn ≡ has old.entered conn

-- the entry with this head was taken off the front of the bytes
pub record RemovesEntry (head : EntryHead) (old new : EntryReader) (e : Entry) : Type 0 where
  pub entry : e ≡ entry_with head old.left
  pub stage : new.stage ≡ old.stage
  pub place : new.place ≡ min (old.place + (HEAD_LENGTH + head.size)) (2 ^ 64 - 1)
  pub left : new.left ≡ drop (HEAD_LENGTH + head.size) old.left
  pub who : (conn : ℕ) → has new.entered conn ≡ ((is_enter head.kind && head.conn == conn) || has old.entered conn)

-- the fault of an entry that is whole as far as its head says: the reader stops there
abbrev pub StopsBy : BadEntryKind → EntryReader → EntryReader → Result (Option Entry) EntryFault → Type 0
StopsBy Cut old new result = (result ≡ Ok None) × (new ≡ old)
StopsBy kind old new result = (result ≡ Err (Bad (record { place = old.place; kind = kind }))) × (new ≡ record old { stage = Stopped (record { place = old.place; kind = kind }) })

-- an answer of `next` after the magic, where this stands first in the bytes
abbrev pub ReadsNext : Result (Option EntryHead) BadEntryKind → EntryReader → EntryReader → Result (Option Entry) EntryFault → Type 0
ReadsNext (Ok None) old new result = (result ≡ Ok None) × (new ≡ old)
ReadsNext (Ok (Some head)) old new (Ok (Some e)) = RemovesEntry head old new e
ReadsNext (Ok (Some head)) old new (Ok None) = ⊥
ReadsNext (Ok (Some head)) old new (Err Memory) = IsSame old new
ReadsNext (Ok (Some head)) old new (Err (Bad bad)) = ⊥
ReadsNext (Err kind) old new result = StopsBy kind old new result

-- how a transcript ends before this, at the place where the given entries end
abbrev pub ending : Result (Option EntryHead) BadEntryKind → ℕ → Result (Unit {0}) BadEntry
ending (Ok None) place = Ok tt
ending (Ok (Some head)) place = Err (record { place = place; kind = Cut })
ending (Err kind) place = Err (record { place = place; kind = kind })
