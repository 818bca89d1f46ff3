-- A transcript: the magic and then entries, each a kind byte, a connection and a length of four bytes
-- each, the greatest byte first, and a body. This project's own format.
use Rattle.std.specs.Prelude.{ℕ, zero, suc, ◌+◌, ◌-◌, ◌^◌, ◌++◌, codes, ◌==◌, ◌&&◌, ◌||◌, min, not, nat_eq, nat_lt, Bool, true, false, List, [], ◌∷◌, length, take, drop, Option, Some, None, Result, Ok, Err, if◌then◌else◌}
use Rattle.std.specs.List.{starts_with}
use Rattle.std.specs.Option.{option_map}
use Rattle.std.specs.Int.{w32, from_be_bytes}
use Rattle.gate_transcript.specs.declared.entry.EntryKind.{EntryKind}
use Rattle.gate_transcript.specs.declared.entry.EntryKind.TheVariants.{Enter, Client, Upstream, End, Slow, UpEnd}
use Rattle.gate_transcript.specs.declared.entry.Entry.{Entry}
use Rattle.gate_transcript.specs.declared.fault.BadEntryKind.{BadEntryKind}
use Rattle.gate_transcript.specs.declared.fault.BadEntryKind.TheVariants.{Magic, Kind, Conn, Length, Cut}
use Rattle.gate_transcript.specs.declared.fault.BadEntry.{BadEntry}
use Rattle.gate_transcript.specs.declared.entry.TheConstants.{ENTER_BYTE, CLIENT_BYTE, UPSTREAM_BYTE, END_BYTE, SLOW_BYTE, UP_END_BYTE}
use Rattle.gate_transcript.specs.declared.head.EntryHead.{EntryHead}
use Rattle.gate_transcript.specs.declared.head.TheConstants.{HEAD_LENGTH}
use Rattle.gate_transcript.specs.declared.reader.TheConstants.{MAGIC_LENGTH}
use Rattle.gate_transcript.specs.Bodies.{may_have_length, is_body}
use Rattle.gate_bytes.specs.Ascii.{lf}

-- the bytes that a transcript begins with
abbrev pub magic : List ℕ
magic = codes "RTSPGW1" ++ lf ∷ []

-- the kind that a byte names
abbrev pub entry_kind : ℕ → Option EntryKind
entry_kind b =
    if b == ENTER_BYTE then Some Enter
    else (if b == CLIENT_BYTE then Some Client
    else (if b == UPSTREAM_BYTE then Some Upstream
    else (if b == END_BYTE then Some End
    else (if b == SLOW_BYTE then Some Slow
    else (if b == UP_END_BYTE then Some UpEnd else None)))))

-- whether a connection enters
abbrev pub is_enter : EntryKind → Bool
is_enter Enter = true
is_enter Client = false
is_enter Upstream = false
is_enter End = false
is_enter Slow = false
is_enter UpEnd = false

-- whether a connection has entered by one of these entries
abbrev pub has_entered : ℕ → List Entry → Bool
has_entered conn [] = false
has_entered conn (e ∷ entries) = (is_enter e.kind && e.conn == conn) || has_entered conn entries

-- whether an entry of this kind may come for a connection: it enters once, and all else comes after that; the server has
-- the number 0
abbrev pub may_come : (ℕ → Bool) → EntryKind → ℕ → Bool
may_come has Enter conn = not (has conn)
may_come has Client conn = has conn
may_come has Upstream conn = conn == 0
may_come has End conn = has conn
may_come has Slow conn = has conn
may_come has UpEnd conn = conn == 0

-- the head that a kind byte and the eight bytes after it spell, where the byte names a kind
abbrev pub entry_head : ℕ → List ℕ → Option EntryHead
entry_head b bytes =
    option_map (λ kind. record { kind = kind; conn = from_be_bytes w32 (take 4 bytes); size = from_be_bytes w32 (take 4 (drop 4 bytes)) }) (entry_kind b)

-- the head, or its fault: first of the kind, then of the connection, then of the length
abbrev pub sound_head : (ℕ → Bool) → Option EntryHead → Result EntryHead BadEntryKind
sound_head has None = Err Kind
sound_head has (Some head) = if may_come has head.kind head.conn then (if may_have_length head.kind head.size then Ok head else Err Length) else Err Conn

-- the head, where its body stands first in the bytes
abbrev pub with_its_body : List ℕ → Result EntryHead BadEntryKind → Result (Option EntryHead) BadEntryKind
with_its_body bytes (Ok head) =
    if nat_lt (length bytes) head.size then Err Cut else (if is_body head.kind (take head.size bytes) then Ok (Some head) else Err Length)
with_its_body bytes (Err bad) = Err bad

-- the head of the entry that the bytes begin with, nothing where there is no byte, or the entry's fault
abbrev pub first_head : (ℕ → Bool) → List ℕ → Result (Option EntryHead) BadEntryKind
first_head has [] = Ok None
first_head has (b ∷ bytes) = if nat_lt (length bytes) (HEAD_LENGTH - 1) then Err Cut else with_its_body (drop (HEAD_LENGTH - 1) bytes) (sound_head has (entry_head b bytes))

-- the entry with this head, at the front of the bytes
abbrev pub entry_with : EntryHead → List ℕ → Entry
entry_with head bytes = record { kind = head.kind; conn = head.conn; body = take head.size (drop HEAD_LENGTH bytes) }

-- what a transcript holds: its whole entries before the first fault, the newest first, and that fault
pub record TranscriptReading : Type 0 where
  pub entries : List Entry
  pub fault : Option BadEntry

-- a fault of the entry whose first byte has this place, told by a counter of 64 bits that stops at its last value
abbrev pub bad_entry : ℕ → BadEntryKind → BadEntry
bad_entry place fault = record { place = min place (2 ^ 64 - 1); kind = fault }

-- the reading where this stands first in the bytes from a place on, with the entries before it
abbrev pub reading_with : Result (Option EntryHead) BadEntryKind → ℕ → List Entry → List ℕ → (ℕ → List Entry → List ℕ → TranscriptReading) → TranscriptReading
reading_with (Ok None) place entries bytes more = record { entries = entries; fault = None }
reading_with (Ok (Some head)) place entries bytes more = more (place + HEAD_LENGTH + head.size) (entry_with head bytes ∷ entries) (drop (HEAD_LENGTH + head.size) bytes)
reading_with (Err fault) place entries bytes more = record { entries = entries; fault = Some (bad_entry place fault) }

-- the reading of so many entries at most
abbrev pub reading_by : ℕ → ℕ → List Entry → List ℕ → TranscriptReading
reading_by zero place entries bytes = record { entries = entries; fault = None }
reading_by (suc n) place entries bytes = reading_with (first_head (λ conn. has_entered conn entries) bytes) place entries bytes (reading_by n)

-- the reading of the bytes from a place on, with the entries before it; an entry has a byte, so that as many turns as bytes are enough
abbrev pub reading_on : ℕ → List Entry → List ℕ → TranscriptReading
reading_on place entries bytes = reading_by (length bytes) place entries bytes

-- the reading of a whole transcript
abbrev pub reading : List ℕ → TranscriptReading
reading bytes = if starts_with nat_eq bytes magic then reading_on MAGIC_LENGTH [] (drop MAGIC_LENGTH bytes) else record { entries = []; fault = Some (bad_entry 0 Magic) }
