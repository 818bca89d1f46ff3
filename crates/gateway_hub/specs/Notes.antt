-- What a recorder is told of a history: one entry for each event (this project's own).
use Rattle.std.specs.Prelude.{◌≡◌, ℕ, List, [], ◌∷◌, Option, Some, None}
use Rattle.gate_transcript.specs.declared.entry.Entry.{Entry as Noted}
use Rattle.gate_transcript.specs.declared.entry.EntryKind.{EntryKind}
use Rattle.gate_transcript.specs.declared.entry.EntryKind.TheVariants.{Enter, Client, Upstream, End, Slow, UpEnd}
use Rattle.gate_transcript.specs.Bodies.{reason_byte}
use Rattle.gateway_claim.specs.Happenings.{Happening, enters, takes, ends, lags, hears, up_ends, HistoryEntry}

-- an entry as a recorder is told of it
abbrev pub noting : EntryKind → ℕ → List ℕ → Noted
noting kind conn body = record { kind = kind; conn = conn; body = body }

-- The entry of an event: an item is one entry, which has its exact bytes. The server's entries have the number 0.
abbrev pub note_of : Happening → Noted
note_of (enters conn) = noting Enter conn []
note_of (takes conn shape) = noting Client conn shape.bytes
note_of (ends conn) = noting End conn []
note_of (lags conn) = noting Slow conn []
note_of (hears shape) = noting Upstream 0 shape.bytes
note_of (up_ends why) = noting UpEnd 0 (reason_byte why ∷ [])

-- the entries of a history, the newest first
abbrev pub notes : List HistoryEntry → List Noted
notes [] = []
notes (entry ∷ earlier) = note_of entry.happening ∷ notes earlier

-- A recorder that tells its entries tells those of the history.
abbrev pub TellsNotes : Option (List Noted) → List HistoryEntry → Type 0
TellsNotes None history = Unit {0}
TellsNotes (Some told) history = told ≡ notes history

-- It tells the same history, or none any more.
abbrev pub StillTells : Option (List Noted) → Option (List Noted) → Type 0
StillTells told tells = (history : List HistoryEntry) → TellsNotes told history → TellsNotes tells history

-- the connection whose client an item is of
abbrev pub asker_noted : Happening → Option ℕ
asker_noted (enters conn) = None
asker_noted (takes conn shape) = Some conn
asker_noted (ends conn) = None
asker_noted (lags conn) = None
asker_noted (hears shape) = None
asker_noted (up_ends why) = None
