-- What a replay of a transcript does (this project's own).
use Rattle.std.specs.Prelude.{◌≡◌, ℕ, ◌+◌, ◌<◌, ◌≤◌, nat_le, Bool, true, false, List, [], ◌++◌, length, take, drop, Option, Some, None, IfSome, Result, Ok, Err, if◌then◌else◌}
use Rattle.gate_outside.specs.Causes.{Rose}
use Rattle.gate_outside.specs.Contents.{Grows, GrowsByFront}
use Rattle.gate_outside.specs.declared.Failed.{Failed}
use Rattle.rtsp_uri.specs.declared.base.Bases.{Bases}
use Rattle.gateway_claim.specs.Happenings.{HistoryEntry, happened}
use Rattle.gate_transcript.specs.declared.entry.Entry.{Entry}
use Rattle.gate_transcript.specs.declared.fault.BadEntry.{BadEntry}
use Rattle.gate_transcript.specs.declared.fault.BadEntryKind.{BadEntryKind}
use Rattle.gate_transcript.specs.declared.fault.BadEntryKind.TheVariants.{Magic, Kind, Conn, Length, Cut}
use Rattle.gate_transcript.specs.declared.reader.EntryReader.{EntryReader}
use Rattle.gate_transcript.specs.Transcript.{reading}
use Rattle.gate_transcript.specs.Reads.{ReadsSo, GivenWhole, StopsAt, MayGoOn}
use Rattle.run_status.specs.declared.status.Status.{Status}
use Rattle.run_status.specs.declared.status.Status.TheVariants.{Done, SourceFault, SinkFault, BadTranscript, TooLong, Memory}
use Rattle.gateway_replay.specs.declared.streams.Streams.{Streams}
use Rattle.gateway_replay.specs.declared.whole_replay.Stop.{Stop}
use Rattle.gateway_replay.specs.declared.whole_replay.Stop.TheVariants as stop
use Rattle.gateway_replay.specs.declared.whole_replay.TheConstants.{LONGEST_TRANSCRIPT}
use Rattle.gateway_replay.specs.Events.{events_of}
use Rattle.gateway_replay.specs.Runs.{StreamsFit, ToldInPart}
use Rattle.gateway_replay.specs.CoreRecords.{Histories}
use Rattle.gateway_replay.specs.RecordTexts.{records}

-- the longest transcript that is replayed, in bytes
unfoldable pub limit : ℕ
limit = LONGEST_TRANSCRIPT

-- How a replay of a whole source ends, where nothing outside fails and memory is there. Up to the limit: by the
-- transcript's fault, where it has one. Past it: by the fault of an entry within the limit; an entry that the limit
-- cuts is none.
abbrev pub ends_by : Option BadEntry → Status
ends_by None = Done
ends_by (Some bad) = BadTranscript bad.place bad.kind

-- an entry that the limit cuts has no fault of its own
abbrev pub cut_by_kind : BadEntryKind → BadEntry → Status
cut_by_kind Magic bad = BadTranscript bad.place bad.kind
cut_by_kind Kind bad = BadTranscript bad.place bad.kind
cut_by_kind Conn bad = BadTranscript bad.place bad.kind
cut_by_kind Length bad = BadTranscript bad.place bad.kind
cut_by_kind Cut bad = TooLong

-- how a replay ends whose source passes the limit
abbrev pub cut_by_limit : Option BadEntry → Status
cut_by_limit None = TooLong
cut_by_limit (Some bad) = cut_by_kind bad.kind bad

-- how a replay ends, by all that its source holds
abbrev pub ends_as : List ℕ → Status
ends_as all = if nat_le (length all) limit then ends_by (reading all).fault else cut_by_limit (reading (take limit all)).fault

-- These bytes were taken from the front of the source, where its content is told.
abbrev pub TakenFrom : Option (List ℕ) → Option (List ℕ) → List ℕ → Type 0
TakenFrom None now bytes = now ≡ None
TakenFrom (Some all) now bytes = (left : List ℕ) × (all ≡ bytes ++ left) × (now ≡ Some left)

-- At most so many bytes were taken from the front of the source, where its content is told.
pub record TakesWithin (most : ℕ) (all left : Option (List ℕ)) : Type 0 where
  pub bytes : List ℕ
  pub taken : TakenFrom all left bytes
  pub few : length bytes ≤ most

-- The replay so far: the reader gave these entries, they were processed, and the records of their history written.
pub record ReplayedSoFar (bases : Bases) (reader : EntryReader) (streams : Streams) (stood : Histories) (bytes : List ℕ) (before now : Option (List ℕ)) : Type 0 where
  pub entries : List Entry
  pub history : List HistoryEntry
  pub reads : ReadsSo reader bytes entries
  pub fit : StreamsFit streams entries
  pub stands : stood bases history
  pub told : happened history ≡ events_of entries
  pub grown : Grows before now (records history)

-- between some addresses this was replayed so far
pub record SomeSoFar (reader : EntryReader) (streams : Streams) (stood : Histories) (now : Option (List ℕ)) : Type 0 where
  pub bases : Bases
  pub bytes : List ℕ
  pub before : Option (List ℕ)
  pub so_far : ReplayedSoFar bases reader streams stood bytes before now

-- What happened is the first part of what the whole entries of some front of the bytes tell.
pub record TellsFront (bytes : List ℕ) (history : List HistoryEntry) : Type 0 where
  pub front : List ℕ
  pub rest : List ℕ
  pub whole : front ++ rest ≡ bytes
  pub told : ToldInPart (happened history) (events_of (reading front).entries)

-- A replay that was interrupted: by want of memory, between two events, or by the sink, in one event's records.
pub record IsInterrupted (made : Histories) (bases : Bases) (bytes : List ℕ) (before now : Option (List ℕ)) : Type 0 where
  pub history : List HistoryEntry
  pub is_history : made bases history
  pub tells : TellsFront bytes history
  pub grown : Grows before now (records history)

-- a replay ended amid an event's records
pub record IsInterruptedInPart (made : Histories) (bases : Bases) (bytes : List ℕ) (before now : Option (List ℕ)) : Type 0 where
  pub history : List HistoryEntry
  pub is_history : made bases history
  pub tells : TellsFront bytes history
  pub grown : GrowsByFront before now (records history)

-- all entries that are whole were processed
pub record ProcessedAll (bases : Bases) (reader : EntryReader) (streams : Streams) (stood : Histories) (bytes : List ℕ) (before now : Option (List ℕ)) : Type 0 where
  pub so_far : ReplayedSoFar bases reader streams stood bytes before now
  pub whole : GivenWhole bytes so_far.entries

-- all entries before the fault were processed
pub record ProcessedToFault (bases : Bases) (bad : BadEntry) (reader : EntryReader) (streams : Streams) (stood : Histories) (bytes : List ℕ) (before now : Option (List ℕ)) : Type 0 where
  pub so_far : ReplayedSoFar bases reader streams stood bytes before now
  pub stops : StopsAt bad bytes so_far.entries

-- What was processed of all entries that the reader can give, by how that ended.
abbrev pub Processed : Histories → Bases → Result (Unit {0}) Stop → EntryReader → Streams → Histories → List ℕ → Option (List ℕ) → Option (List ℕ) → Type 0
Processed made bases (Ok u) reader streams stood bytes before now = ProcessedAll bases reader streams stood bytes before now
Processed made bases (Err (stop.Bad bad)) reader streams stood bytes before now = ProcessedToFault bases bad reader streams stood bytes before now
Processed made bases (Err stop.Sink) reader streams stood bytes before now = IsInterruptedInPart made bases bytes before now
Processed made bases (Err stop.Memory) reader streams stood bytes before now = IsInterrupted made bases bytes before now

-- a fault of the sink has its count
abbrev pub StopRose : ℕ → ℕ → Result (Unit {0}) Stop → Type 0
StopRose before now (Ok u) = Unit {0}
StopRose before now (Err (stop.Bad bad)) = Unit {0}
StopRose before now (Err stop.Sink) = Rose before now
StopRose before now (Err stop.Memory) = Unit {0}

-- the sink's count doesn't fall, and a fault of it has its count
pub record StopCause (before now : ℕ) (result : Result (Unit {0}) Stop) : Type 0 where
  pub later : before ≤ now
  pub rose : StopRose before now result

-- The source is at its end, where its content is told.
abbrev pub IsAtEnd : Option (List ℕ) → Type 0
IsAtEnd now = IfSome now (λ left. left ≡ [])

-- How the replay of a whole source ended: a history whose records were written, and where the source's content is
-- told, the status that its bytes have, and the events that the whole entries tell which stand within the limit and
-- before the first fault.
pub record EndsReplay (made : Histories) (bases : Bases) (status : Status) (all before now : Option (List ℕ)) : Type 0 where
  pub history : List HistoryEntry
  pub is_history : made bases history
  pub grown : Grows before now (records history)
  pub ends : IfSome all (λ bytes. (status ≡ ends_as bytes) × (happened history ≡ events_of (reading (take limit bytes)).entries))

-- Where the source failed: the records of the whole entries of the bytes that were taken, in which no fault stands that
-- more bytes could not mend.
pub record EndsBySourceFault (made : Histories) (bases : Bases) (all left before now : Option (List ℕ)) : Type 0 where
  pub bytes : List ℕ
  pub taken : TakenFrom all left bytes
  pub history : List HistoryEntry
  pub is_history : made bases history
  pub grown : Grows before now (records history)
  pub told : happened history ≡ events_of (reading bytes).entries
  pub sound : MayGoOn (reading bytes).fault bytes

-- a replay whose sink failed
pub record EndsBySinkFault (made : Histories) (bases : Bases) (all left before now : Option (List ℕ)) : Type 0 where
  pub bytes : List ℕ
  pub taken : TakenFrom all left bytes
  pub part : IsInterruptedInPart made bases bytes before now

-- a replay that ran out of memory
pub record EndsWithoutMemory (made : Histories) (bases : Bases) (all left before now : Option (List ℕ)) : Type 0 where
  pub bytes : List ℕ
  pub taken : TakenFrom all left bytes
  pub part : IsInterrupted made bases bytes before now

-- What a replay's answer says of the source before and after it, and of what was written, for the histories that the core
-- can make.
abbrev pub ReplaySays : Histories → Bases → Status → Option (List ℕ) → Option (List ℕ) → Option (List ℕ) → Option (List ℕ) → Type 0
ReplaySays made bases Done all left before now = EndsReplay made bases Done all before now × IsAtEnd left
ReplaySays made bases SourceFault all left before now = EndsBySourceFault made bases all left before now
ReplaySays made bases SinkFault all left before now = EndsBySinkFault made bases all left before now
ReplaySays made bases (BadTranscript place fault) all left before now = EndsReplay made bases (BadTranscript place fault) all before now
ReplaySays made bases TooLong all left before now = EndsReplay made bases TooLong all before now
ReplaySays made bases Memory all left before now = EndsWithoutMemory made bases all left before now
ReplaySays made bases other all left before now = ⊥

-- The count that tells of the answer's fault rose.
abbrev pub FaultRose : Status → ℕ → ℕ → ℕ → ℕ → Type 0
FaultRose SourceFault source_before source_now sink_before sink_now = Rose source_before source_now
FaultRose SinkFault source_before source_now sink_before sink_now = Rose sink_before sink_now
FaultRose other source_before source_now sink_before sink_now = Unit {0}

-- The loop of a replay: these bytes were taken, and what they hold was processed; there is room for so many more.
pub record IsReplaying (bases : Bases) (reader : EntryReader) (streams : Streams) (stood : Histories) (room : ℕ) (all left before now : Option (List ℕ)) : Type 0 where
  pub bytes : List ℕ
  pub taken : TakenFrom all left bytes
  pub room_left : length bytes + room ≡ limit
  pub processed : ProcessedAll bases reader streams stood bytes before now

-- One byte was taken from the front of the source, where its content is told.
abbrev pub TakesOne : Option (List ℕ) → Option (List ℕ) → Type 0
TakesOne None now = now ≡ None
TakesOne (Some bytes) now = (0 < length bytes) × (now ≡ Some (drop 1 bytes))

-- Whether a source whose content is told holds more: a byte of it was taken then.
abbrev pub TellsMore : Option (List ℕ) → Option (List ℕ) → Result Bool Failed → Type 0
TellsMore left now (Ok true) = TakesOne left now
TellsMore left now (Ok false) = IsAtEnd left × (now ≡ left)
TellsMore left now (Err e) = now ≡ left
