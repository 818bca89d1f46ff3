-- What recorders have noted, the newest first. This project's own.
use Rattle.std.specs.Prelude.{◌≡◌, ℕ, zero, suc, ◌+◌, ◌^◌, ◌&&◌, nat_lt, nat_le, Bool, true, false, List, [], ◌∷◌, length, drop, reverse, Option, Some, None}
use Rattle.gate_outside.specs.Memories.{call_script, calls_made, calls_failed}
use Rattle.gate_outside.specs.declared.script.Script.{Script}
use Rattle.gate_transcript.specs.declared.entry.Entry.{Entry}
use Rattle.gate_transcript.specs.declared.head.EntryHead.{EntryHead}
use Rattle.gate_transcript.specs.declared.head.TheConstants.{HEAD_LENGTH, LONGEST_BODY}
use Rattle.gate_transcript.specs.declared.memory.MemoryRecorder.{MemoryRecorder}
use Rattle.gate_transcript.specs.declared.reader.TheConstants.{MAGIC_LENGTH}
use Rattle.gate_transcript.specs.EntryTexts.{transcript_text}
use Rattle.gate_transcript.specs.Transcript.{entry_head, entry_with}

-- the entries that a recorder in memory has noted
abbrev pub entries_recorded : MemoryRecorder → List Entry
entries_recorded recorder = reverse recorder.entries.items

-- its script, the number of notes asked of it, and of those that failed
abbrev pub note_script : MemoryRecorder → Script
note_script recorder = call_script recorder.calls

-- how often a recorder was told of an entry
abbrev pub notes_made : MemoryRecorder → ℕ
notes_made recorder = calls_made recorder.calls

-- how often it failed
abbrev pub note_faults : MemoryRecorder → ℕ
note_faults recorder = calls_failed recorder.calls

-- the entries where this head stands first in the bytes, behind these ones
abbrev pub entries_from : Option EntryHead → List Entry → List ℕ → (List Entry → List ℕ → List Entry) → List Entry
entries_from None entries bytes more = entries
entries_from (Some head) entries bytes more = more (entry_with head bytes ∷ entries) (drop (HEAD_LENGTH + head.size) bytes)

-- so many entries at most that stand in the bytes, behind these ones, each as its own head says
abbrev pub entries_by : ℕ → List Entry → List ℕ → List Entry
entries_by zero entries bytes = entries
entries_by (suc n) entries [] = entries
entries_by (suc n) entries (b ∷ bytes) = entries_from (entry_head b bytes) entries (b ∷ bytes) (entries_by n)

-- the entries that stand behind the magic
abbrev pub entries_in : List ℕ → List Entry
entries_in bytes = entries_by (length bytes) [] (drop MAGIC_LENGTH bytes)

-- whether the numbers of these entries have 32 bits, and their bodies the length that an entry's may have
abbrev pub have_room : List Entry → Bool
have_room [] = true
have_room (e ∷ entries) = (nat_lt e.conn (2 ^ 32) && nat_le (length e.body) LONGEST_BODY) && have_room entries

-- The bytes are the text of these entries, each of which has room in it.
pub record IsTextOf (entries : List Entry) (bytes : List ℕ) : Type 0 where
  pub room : have_room entries ≡ true
  pub text : transcript_text entries ≡ bytes

-- What was written is the text of the entries in it, where it is told and no write has failed.
abbrev pub IsRecording : Bool → Option (List ℕ) → Type 0
IsRecording whole written = (bytes : List ℕ) → whole ≡ true → written ≡ Some bytes → IsTextOf (entries_in bytes) bytes

-- the entries that a recorder tells by what it has written: none once a write has failed
abbrev pub entries_told : Bool → Option (List ℕ) → Option (List Entry)
entries_told false written = None
entries_told true None = None
entries_told true (Some bytes) = Some (entries_in bytes)
