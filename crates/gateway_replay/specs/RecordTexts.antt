-- The records of a history (this project's own).
use Rattle.std.specs.Prelude.{ℕ, zero, suc, ◌^◌, ◌&&◌, is_none, List, [], ◌∷◌, ◌++◌, Option, Some, None, unwrap_or, if◌then◌else◌}
use Rattle.client_machine.specs.declared.why.CloseWhy.{CloseWhy}
use Rattle.client_machine.specs.declared.why.CloseWhy.TheVariants.{Upstream}
use Rattle.gateway_claim.specs.declared.event.Closed.{Closed}
use Rattle.gateway_claim.specs.declared.event.Closed.TheVariants.{Nobody, One, All}
use Rattle.gateway_claim.specs.declared.event.UpCause.{UpCause}
use Rattle.gateway_claim.specs.declared.event.ToClient.{ToClient}
use Rattle.gateway_claim.specs.declared.event.ToUp.{ToUp}
use Rattle.gateway_claim.specs.declared.event.UpMessage.{UpMessage}
use Rattle.gateway_claim.specs.declared.event.UpMessage.TheVariants.{Request, Frame}
use Rattle.gateway_claim.specs.declared.event.Outcome.{Outcome}
use Rattle.gateway_claim.specs.Happenings.{close_byte, HistoryEntry, is_alive}
use Rattle.run_status.specs.CauseTexts.{fault_text}
use Rattle.gateway_replay.specs.declared.records.RecordKind.TheVariants as kind
use Rattle.gateway_replay.specs.Records.{record_byte, record_text}

-- the record of a piece that a client was handed
abbrev pub piece_record : Option ToClient → List ℕ
piece_record None = []
piece_record (Some piece) = record_text (record_byte kind.Handed) piece.conn piece.bytes

-- the bytes of a message that the server was handed
abbrev pub up_message_text : Option UpMessage → List ℕ
up_message_text None = []
up_message_text (Some (Request text)) = text
up_message_text (Some (Frame text)) = text

-- all that the server was handed: the answer, and the message after it
abbrev pub up_text : ToUp → List ℕ
up_text up = unwrap_or up.answer [] ++ up_message_text up.message

-- The record of it. There is none where both are missing.
abbrev pub up_record : ToUp → List ℕ
up_record up = if is_none up.answer && is_none up.message then [] else record_text (record_byte kind.HandedUp) 0 (up_text up)

-- the record of a close
abbrev pub close_record : ℕ → CloseWhy → List ℕ
close_record conn why = record_text (record_byte kind.Closed) conn (close_byte why ∷ [])

-- The records at the end of the server's connection: a close of each connection that was alive, by rising number.
abbrev pub end_record : ℕ → List HistoryEntry → List ℕ
end_record i earlier = if is_alive i earlier then close_record i Upstream else []

-- the closes of all below this number that were alive
abbrev pub ends_below : ℕ → List HistoryEntry → List ℕ
ends_below zero earlier = []
ends_below (suc i) earlier = ends_below i earlier ++ end_record i earlier

-- how many numbers there are of 32 bits
unfoldable pub numbers : ℕ
numbers = 2 ^ 32

-- the closes of all that were alive
abbrev pub ends : List HistoryEntry → List ℕ
ends earlier = ends_below numbers earlier

-- the records of the connections that an event closed, after these entries
abbrev pub closed_records : Closed → List HistoryEntry → List ℕ
closed_records Nobody earlier = []
closed_records (One conn why) earlier = close_record conn why
closed_records All earlier = ends earlier

-- the record of why the connection to the server ended
abbrev pub cause_record : UpCause → List ℕ
cause_record cause = record_text (record_byte kind.Fault) 0 (fault_text cause)

-- the record of a cause, where there is one
abbrev pub fault_record : Option UpCause → List ℕ
fault_record None = []
fault_record (Some cause) = cause_record cause

-- the records of what one event handed out, after these entries
abbrev pub records_of : Outcome → List HistoryEntry → List ℕ
records_of outcome earlier =
    piece_record outcome.to_client ++ up_record outcome.to_up ++ closed_records outcome.closed earlier ++ fault_record outcome.fault

-- the records of a history, the oldest entry's first
abbrev pub records : List HistoryEntry → List ℕ
records [] = []
records (entry ∷ earlier) = records earlier ++ records_of entry.outcome earlier

-- those of its newer entries alone, after the older ones
abbrev pub records_after : List HistoryEntry → List HistoryEntry → List ℕ
records_after earlier [] = []
records_after earlier (entry ∷ more) = records_after earlier more ++ records_of entry.outcome (more ++ earlier)
