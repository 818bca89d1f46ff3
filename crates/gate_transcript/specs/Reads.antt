-- What a reader of entries was fed and has given, as a relation: nothing of it is kept in the reader. This project's own.
use Rattle.std.specs.Prelude.{◌≡◌, ℕ, ◌-◌, ◌^◌, ◌<◌, min, false, List, [], ◌∷◌, ◌++◌, length, Option, Some, None, Result, Ok, Err}
use Rattle.gate_outside.specs.Contents.{ReadsOk}
use Rattle.gate_transcript.specs.declared.entry.Entry.{Entry}
use Rattle.gate_transcript.specs.declared.fault.BadEntryKind.{BadEntryKind}
use Rattle.gate_transcript.specs.declared.fault.BadEntryKind.TheVariants.{Magic, Kind, Conn, Length, Cut}
use Rattle.gate_transcript.specs.declared.fault.BadEntry.{BadEntry}
use Rattle.gate_transcript.specs.declared.fault.EntryFault.{EntryFault}
use Rattle.gate_transcript.specs.declared.fault.EntryFault.TheVariants.{Bad, Memory}
use Rattle.gate_transcript.specs.declared.reader.ReaderStage.{ReaderStage}
use Rattle.gate_transcript.specs.declared.reader.ReaderStage.TheVariants.{Front, Entries, Stopped}
use Rattle.gate_transcript.specs.declared.reader.EntryReader.{EntryReader}
use Rattle.gate_transcript.specs.declared.reader.TheConstants.{MAGIC_LENGTH}
use Rattle.gate_transcript.specs.Connections.{has}
use Rattle.gate_transcript.specs.Transcript.{has_entered, bad_entry, reading, reading_on}

-- fewer bytes than the magic has were fed, and no entry was given
pub record AtFront (reader : EntryReader) (stream : List ℕ) (given : List Entry) : Type 0 where
  pub all_left : stream ≡ reader.left
  pub short : length reader.left < MAGIC_LENGTH
  pub none : given ≡ []
  pub nobody : (conn : ℕ) → has reader.entered conn ≡ false

-- the magic and the given entries were taken from the stream, and whatever comes after them is read on from there
pub record InEntries (reader : EntryReader) (stream : List ℕ) (given : List Entry) : Type 0 where
  pub taken : List ℕ
  pub whole : stream ≡ taken ++ reader.left
  pub place : reader.place ≡ min (length taken) (2 ^ 64 - 1)
  pub onward : (more : List ℕ) → reading (taken ++ more) ≡ reading_on (length taken) given more
  pub who : (conn : ℕ) → has reader.entered conn ≡ has_entered conn given

-- a fault that no more bytes can mend
abbrev pub IsLasting : BadEntryKind → Type 0
IsLasting Magic = Unit {0}
IsLasting Kind = Unit {0}
IsLasting Conn = Unit {0}
IsLasting Length = Unit {0}
IsLasting Cut = ⊥

-- the given entries are all that stand before this fault, whatever comes after the stream
pub record StopsAt (bad : BadEntry) (stream : List ℕ) (given : List Entry) : Type 0 where
  pub lasting : IsLasting bad.kind
  pub always : (more : List ℕ) → reading (stream ++ more) ≡ record { entries = given; fault = Some bad }

-- what a reader was fed and has given, at each stage
abbrev pub ReadsBy : ReaderStage → EntryReader → List ℕ → List Entry → Type 0
ReadsBy Front reader stream given = AtFront reader stream given
ReadsBy Entries reader stream given = InEntries reader stream given
ReadsBy (Stopped bad) reader stream given = StopsAt bad stream given

-- the reader was fed this stream, and gave these entries, the newest first
abbrev pub ReadsSo : EntryReader → List ℕ → List Entry → Type 0
ReadsSo reader stream given = ReadsBy reader.stage reader stream given

-- what was given in a stream is given in the next, where no more is given
abbrev pub KeepsGiven : EntryReader → EntryReader → Type 0
KeepsGiven old new = (stream : List ℕ) (given : List Entry) → ReadsSo old stream given → ReadsSo new stream given

-- so many bytes of a source were fed
pub record ReadsPiece (old new : EntryReader) (before now : Option (List ℕ)) (count : ℕ) : Type 0 where
  pub piece : List ℕ
  pub size : length piece ≡ count
  pub taken : ReadsOk before now count piece
  pub fed : (stream : List ℕ) (given : List Entry) → ReadsSo old stream given → ReadsSo new (stream ++ piece) given

-- a fault that more bytes may mend: an entry, or a magic, that is not whole
abbrev pub IsUnfinished : BadEntryKind → List ℕ → Type 0
IsUnfinished Magic stream = length stream < MAGIC_LENGTH
IsUnfinished Cut stream = Unit {0}
IsUnfinished Kind stream = ⊥
IsUnfinished Conn stream = ⊥
IsUnfinished Length stream = ⊥

-- a fault that more bytes could mend
abbrev pub MayGoOn : Option BadEntry → List ℕ → Type 0
MayGoOn None stream = Unit {0}
MayGoOn (Some bad) stream = IsUnfinished bad.kind stream

-- all whole entries of the stream were given, and no fault stands that more bytes can't mend
pub record GivenWhole (stream : List ℕ) (given : List Entry) : Type 0 where
  pub entries : (reading stream).entries ≡ given
  pub unfinished : MayGoOn (reading stream).fault stream

-- the given entries are the whole entries of some front of the stream
pub record GivenFront (stream : List ℕ) (given : List Entry) : Type 0 where
  pub front : List ℕ
  pub rest : List ℕ
  pub whole : front ++ rest ≡ stream
  pub entries : (reading front).entries ≡ given

-- what each answer of `next` says of the reader before and after it
abbrev pub NextSays : EntryReader → EntryReader → Result (Option Entry) EntryFault → Type 0
NextSays old new (Ok (Some e)) = (stream : List ℕ) (given : List Entry) → ReadsSo old stream given → ReadsSo new stream (e ∷ given)
NextSays old new (Ok None) = (stream : List ℕ) (given : List Entry) → ReadsSo old stream given → ReadsSo new stream given × GivenWhole stream given
NextSays old new (Err (Bad bad)) = (stream : List ℕ) (given : List Entry) → ReadsSo old stream given → ReadsSo new stream given × StopsAt bad stream given
NextSays old new (Err Memory) = KeepsGiven old new

-- Entries are still to be given: the transcript seems cut off behind those that were.
pub record IsCutAfter (bad : BadEntry) (stream : List ℕ) (given : List Entry) : Type 0 where
  pub front : List ℕ
  pub rest : List ℕ
  pub whole : front ++ rest ≡ stream
  pub some : 0 < length rest
  pub entries : reading front ≡ record { entries = given; fault = None }
  pub cut : bad ≡ bad_entry (length front) Cut

-- The fault of a transcript that ends here: its first one where all its whole entries were given.
pub record EndsBy (bad : BadEntry) (stream : List ℕ) (given : List Entry) : Type 0 where
  pub all : (reading stream).entries ≡ given → (reading stream).fault ≡ Some bad
  pub part : ((reading stream).entries ≡ given → ⊥) → IsCutAfter bad stream given

-- How a transcript ends, of which these entries were given: without a fault exactly where they are all of it.
abbrev pub EndsSo : List ℕ → List Entry → Result (Unit {0}) BadEntry → Type 0
EndsSo stream given (Ok u) = reading stream ≡ record { entries = given; fault = None }
EndsSo stream given (Err bad) = EndsBy bad stream given

-- how many bytes a reader holds, and that giving an entry takes some of them
abbrev pub bytes_held : EntryReader → ℕ
bytes_held reader = length reader.left

-- an entry that is given is held no longer
abbrev pub HoldsFewer : ℕ → ℕ → Result (Option Entry) EntryFault → Type 0
HoldsFewer before now (Ok (Some e)) = now < before
HoldsFewer before now (Ok None) = Unit {0}
HoldsFewer before now (Err fault) = Unit {0}
