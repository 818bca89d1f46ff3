-- The text of entries, and of a whole transcript, as a grammar: how a value is spelled, and which entries there may be
-- (this project's own format).
use Rattle.std.specs.Prelude.{◌≡◌, ℕ, ◌^◌, ◌<◌, nat_eq, Bool, true, false, List, [], ◌∷◌, ◌++◌, length, get_or, Option, Some, None, Err}
use Rattle.std.specs.Int.{w32, to_be_bytes}
use Rattle.std.specs.List.{starts_with}
use Rattle.gate_transcript.specs.declared.fault.BadEntry.{BadEntry}
use Rattle.gate_transcript.specs.declared.fault.BadEntryKind.{BadEntryKind}
use Rattle.gate_transcript.specs.declared.fault.BadEntryKind.TheVariants.{Magic}
use Rattle.gate_transcript.specs.declared.entry.Entry.{Entry}
use Rattle.gate_transcript.specs.declared.entry.EntryKind.{EntryKind}
use Rattle.gate_transcript.specs.declared.entry.EntryKind.TheVariants.{Enter, Client, Upstream, End, Slow, UpEnd}
use Rattle.gate_transcript.specs.declared.entry.TheConstants.{ENTER_BYTE, CLIENT_BYTE, UPSTREAM_BYTE, END_BYTE, SLOW_BYTE, UP_END_BYTE}
use Rattle.gate_transcript.specs.Transcript.{magic, has_entered, may_come, first_head, bad_entry, TranscriptReading}
use Rattle.gate_transcript.specs.Bodies.{may_have_length, is_body}

-- the byte that an entry of a kind begins with
abbrev pub kind_byte : EntryKind → ℕ
kind_byte Enter = ENTER_BYTE
kind_byte Client = CLIENT_BYTE
kind_byte Upstream = UPSTREAM_BYTE
kind_byte End = END_BYTE
kind_byte Slow = SLOW_BYTE
kind_byte UpEnd = UP_END_BYTE

-- one entry: the byte of its kind, the connection and the length of the body in four bytes each, and the body
abbrev pub entry_spelled : EntryKind → ℕ → List ℕ → List ℕ
entry_spelled kind conn body = kind_byte kind ∷ (to_be_bytes w32 conn ++ (to_be_bytes w32 (length body) ++ body))

-- a transcript with these entries, of which the newest is first
abbrev pub transcript_text : List Entry → List ℕ
transcript_text [] = magic
transcript_text (entry ∷ earlier) = transcript_text earlier ++ entry_spelled entry.kind entry.conn entry.body

-- An entry may stand behind these ones: its number has 32 bits, it comes as it may for its connection, and its body has a
-- length and bytes that its kind has.
pub record MayStand (entry : Entry) (earlier : List Entry) : Type 0 where
  pub number : entry.conn < 2 ^ 32
  pub comes : may_come (λ conn. has_entered conn earlier) entry.kind entry.conn ≡ true
  pub size : may_have_length entry.kind (length entry.body) ≡ true
  pub body : is_body entry.kind entry.body ≡ true

-- each entry may stand behind those before it
abbrev pub AreEntries : List Entry → Type 0
AreEntries [] = Unit {0}
AreEntries (entry ∷ earlier) = MayStand entry earlier × AreEntries earlier

-- each of these is a byte
abbrev pub AreBytes : List ℕ → Type 0
AreBytes bytes = (i : ℕ) → get_or bytes i 0 < 256

-- What is left behind these entries begins with a fault, at its first byte: no entry that may stand there is its front.
pub record BeginsBadly (entries : List Entry) (left : List ℕ) (bad : BadEntry) : Type 0 where
  pub kind : BadEntryKind
  pub first : first_head (λ conn. has_entered conn entries) left ≡ Err kind
  pub fault : bad ≡ bad_entry (length (transcript_text entries)) kind

-- what stands behind the last whole entry: nothing, or the fault
abbrev pub IsLeftBehind : List Entry → List ℕ → Option BadEntry → Type 0
IsLeftBehind entries left None = left ≡ []
IsLeftBehind entries left (Some bad) = BeginsBadly entries left bad

-- Behind the magic stand these entries, each as it may behind those before it, and then nothing, or the fault.
pub record SpellsRead (bytes : List ℕ) (read : TranscriptReading) : Type 0 where
  pub left : List ℕ
  pub entries : AreEntries read.entries
  pub whole : bytes ≡ transcript_text read.entries ++ left
  pub ends : IsLeftBehind read.entries left read.fault

-- The grammar of a transcript, by cases: what bytes are that begin with the magic, and those that do not.
abbrev pub IsReadBy : Bool → List ℕ → TranscriptReading → Type 0
IsReadBy true bytes read = SpellsRead bytes read
IsReadBy false bytes read = read ≡ record { entries = []; fault = Some (bad_entry 0 Magic) }

-- what these bytes read as, as a grammar
abbrev pub IsTranscript : List ℕ → TranscriptReading → Type 0
IsTranscript bytes read = IsReadBy (starts_with nat_eq bytes magic) bytes read
