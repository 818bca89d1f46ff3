-- What processing events and entries does: which entries the history gains, and what of their records was written
-- (this project's own).
use Rattle.std.specs.Prelude.{◌≡◌, ◌≢◌, ℕ, ◌≤◌, List, [], ◌∷◌, ◌++◌, map, Option, Some, None, Result, Ok, Err}
use Rattle.gate_outside.specs.Causes.{Rose}
use Rattle.gate_outside.specs.Contents.{Grows, GrowsByFront}
use Rattle.rtsp_head.specs.Items.{Shape, items_of}
use Rattle.rtsp_head.specs.declared.item.Item.{Item}
use Rattle.rtsp_frame.specs.FramerState.{HeldBytes, Framed, GivesNext}
use Rattle.gateway_claim.specs.Happenings.{Happening, up_ends, HistoryEntry, happened}
use Rattle.rtsp_uri.specs.declared.base.Bases.{Bases}
use Rattle.gate_transcript.specs.declared.entry.Entry.{Entry}
use Rattle.gateway_replay.specs.declared.streams.Streams.{Streams}
use Rattle.gateway_replay.specs.declared.streams.Speaker.{Speaker}
use Rattle.gateway_replay.specs.declared.core_records.ProcessFault.{ProcessFault}
use Rattle.gateway_replay.specs.declared.core_records.ProcessFault.TheVariants.{Sink, Memory}
use Rattle.gate_transcript.specs.declared.entry.UpWhy.{UpWhy}
use Rattle.gateway_replay.specs.Events.{stream_of, said_by, events_with, events_by}
use Rattle.gateway_replay.specs.Framers.{FramerFed}
use Rattle.gateway_replay.specs.Streams.{framer_at}
use Rattle.gateway_replay.specs.CoreRecords.{Histories, Advances, left_by}
use Rattle.gateway_replay.specs.RecordTexts.{records_after}

-- After these entries, what was written is the records of more of them, or, where the sink failed, a front of those.
abbrev pub WritesAfter : Option (List ℕ) → Option (List ℕ) → List HistoryEntry → List HistoryEntry → Result (Unit {0}) ProcessFault → Type 0
WritesAfter before now earlier more (Ok u) = Grows before now (records_after earlier more)
WritesAfter before now earlier more (Err Sink) = GrowsByFront before now (records_after earlier more)
WritesAfter before now earlier more (Err Memory) = Grows before now (records_after earlier more)

-- So it is whichever history the core stood for.
abbrev pub WritesHistory : Histories → Option (List ℕ) → Option (List ℕ) → List HistoryEntry → Result (Unit {0}) ProcessFault → Type 0
WritesHistory stood before now more result = (bases : Bases) (T : List HistoryEntry) → stood bases T → WritesAfter before now T more result

-- The sink's count of faults has not fallen, and where the sink is said to have failed it rose.
abbrev pub SinkRose : ℕ → ℕ → Result (Unit {0}) ProcessFault → Type 0
SinkRose before now (Ok u) = Unit {0}
SinkRose before now (Err Sink) = Rose before now
SinkRose before now (Err Memory) = Unit {0}

-- the sink's count doesn't fall, and a fault of it has its count
pub record SinkCause (before now : ℕ) (result : Result (Unit {0}) ProcessFault) : Type 0 where
  pub later : before ≤ now
  pub rose : SinkRose before now result

-- An event: it was taken, but where memory was wanting.
abbrev pub EventTaken : Happening → List Happening → Result (Unit {0}) ProcessFault → Type 0
EventTaken happening told (Ok u) = told ≡ happening ∷ []
EventTaken happening told (Err Sink) = told ≡ happening ∷ []
EventTaken happening told (Err Memory) = told ≡ []

-- a core took an event, and its records were written
pub record TakesEvent (made before now : Histories) (happening : Happening) (written_before written_now : Option (List ℕ)) (result : Result (Unit {0}) ProcessFault) : Type 0 where
  pub more : List HistoryEntry
  pub told : EventTaken happening (happened more) result
  pub advances : Advances before (left_by result now made) more
  pub written : WritesHistory before written_before written_now more result

-- these items are the first of the stream's
pub record IsFront (items all : List Shape) : Type 0 where
  pub more : List Shape
  pub whole : items ++ more ≡ all

-- Where nothing failed all items were given; else the first ones were.
abbrev pub FedBy : Result (Unit {0}) ProcessFault → HeldBytes → List ℕ → List Shape → Type 0
FedBy (Ok u) framer stream given = Framed framer stream given × (given ≡ items_of stream)
FedBy (Err fault) framer stream given = IsFront given (items_of stream)

-- A piece of a speaker's bytes was taken by its framer, and the items that were whole then, one event each: in all they and
-- those that the framer gave before are the first of its stream's items.
pub record TakesPiece (framer_before framer_now : HeldBytes) (made before now : Histories) (speaker : Speaker) (piece : List ℕ) (written_before written_now : Option (List ℕ)) (result : Result (Unit {0}) ProcessFault) : Type 0 where
  pub more : List HistoryEntry
  pub shapes : List Shape
  pub told : happened more ≡ map (said_by speaker) shapes
  pub advances : Advances before (left_by result now made) more
  pub written : WritesHistory before written_before written_now more result
  pub fed : (stream : List ℕ) (given : List Shape) → Framed framer_before stream given → FedBy result framer_now (stream ++ piece) (given ++ shapes)

-- The same, while an item that the framer gave is still to be taken, or none is.
pub record TakesSome (framer_before framer_now : HeldBytes) (next : Option Item) (before now : Histories) (speaker : Speaker) (piece : List ℕ) (written_before written_now : Option (List ℕ)) : Type 0 where
  pub more : List HistoryEntry
  pub shapes : List Shape
  pub told : happened more ≡ map (said_by speaker) shapes
  pub advances : Advances before now more
  pub grown : (bases : Bases) (T : List HistoryEntry) → before bases T → Grows written_before written_now (records_after T more)
  pub fed : (stream : List ℕ) (given : List Shape) → Framed framer_before stream given → GivesNext framer_now (stream ++ piece) (given ++ shapes) next

-- each speaker's framer was fed its stream so far, and gave all items of it
abbrev pub StreamsFit : Streams → List Entry → Type 0
StreamsFit streams entries = (who : Speaker) → FramerFed (framer_at streams who) (stream_of who entries) (items_of (stream_of who entries))

-- these happenings are the first of those
pub record ToldInPart (told all : List Happening) : Type 0 where
  pub more : List Happening
  pub whole : told ++ more ≡ all

-- A speaker's framer was fed this piece too, and gave all items of it; every other is as before.
pub record FitsWith (streams : Streams) (speaker : Speaker) (piece : List ℕ) (earlier : List Entry) : Type 0 where
  pub here : FramerFed (framer_at streams speaker) (stream_of speaker earlier ++ piece) (items_of (stream_of speaker earlier ++ piece))
  pub others : (who : Speaker) → who ≢ speaker → FramerFed (framer_at streams who) (stream_of who earlier) (items_of (stream_of who earlier))

-- What happened is what the piece tells, or, where something failed, the first part of it.
abbrev pub ToldWith : Result (Unit {0}) ProcessFault → Streams → Speaker → List ℕ → List Entry → List Happening → Type 0
ToldWith (Ok u) streams speaker piece earlier told = FitsWith streams speaker piece earlier × (told ≡ events_with speaker piece earlier)
ToldWith (Err fault) streams speaker piece earlier told = ToldInPart told (events_with speaker piece earlier)

-- The connection to the server ended, where a reason was told.
abbrev pub TakesUpEnd : Histories → Histories → Histories → Option UpWhy → Option (List ℕ) → Option (List ℕ) → Result (Unit {0}) ProcessFault → Type 0
TakesUpEnd made before now None written_before written_now result = Advances before now [] × (written_now ≡ written_before) × (result ≡ Ok tt)
TakesUpEnd made before now (Some reason) written_before written_now result = TakesEvent made before now (up_ends reason) written_before written_now result

-- A piece of a speaker's bytes was taken, whichever entries came before it.
pub record TakesBytes (streams_before streams_now : Streams) (made before now : Histories) (speaker : Speaker) (piece : List ℕ) (written_before written_now : Option (List ℕ)) (result : Result (Unit {0}) ProcessFault) : Type 0 where
  pub more : List HistoryEntry
  pub advances : Advances before (left_by result now made) more
  pub written : WritesHistory before written_before written_now more result
  pub told : (earlier : List Entry) → StreamsFit streams_before earlier → ToldWith result streams_now speaker piece earlier (happened more)

-- What happened is what the entry tells, or, where something failed, the first part of it.
abbrev pub ToldBy : Result (Unit {0}) ProcessFault → Streams → Entry → List Entry → List Happening → Type 0
ToldBy (Ok u) streams entry earlier told = StreamsFit streams (entry ∷ earlier) × (told ≡ events_by entry.kind entry earlier)
ToldBy (Err fault) streams entry earlier told = ToldInPart told (events_by entry.kind entry earlier)

-- An entry was processed, whichever entries came before it.
pub record TakesEntry (streams_before streams_now : Streams) (made before now : Histories) (entry : Entry) (written_before written_now : Option (List ℕ)) (result : Result (Unit {0}) ProcessFault) : Type 0 where
  pub more : List HistoryEntry
  pub advances : Advances before (left_by result now made) more
  pub written : WritesHistory before written_before written_now more result
  pub told : (earlier : List Entry) → StreamsFit streams_before earlier → ToldBy result streams_now entry earlier (happened more)
