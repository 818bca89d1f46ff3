-- A record: a kind byte, the connection and the length of the body in four bytes each, the greatest byte first, and
-- the body. This project's own.
use Rattle.std.specs.Prelude.{ℕ, List, ◌∷◌, ◌++◌, length}
use Rattle.std.specs.Int.{w32, to_be_bytes}
use Rattle.gateway_replay.specs.declared.records.RecordKind.{RecordKind}
use Rattle.gateway_replay.specs.declared.records.RecordKind.TheVariants.{Handed, HandedUp, Closed, Fault}
use Rattle.gateway_replay.specs.declared.records.TheConstants.{HANDED_BYTE, HANDED_UP_BYTE, CLOSED_BYTE, FAULT_BYTE}

-- the byte that a record of a kind begins with
abbrev pub record_byte : RecordKind → ℕ
record_byte Handed = HANDED_BYTE
record_byte HandedUp = HANDED_UP_BYTE
record_byte Closed = CLOSED_BYTE
record_byte Fault = FAULT_BYTE

-- what stands before a body of this length
abbrev pub record_head : ℕ → ℕ → ℕ → List ℕ
record_head kind conn size = kind ∷ (to_be_bytes w32 conn ++ to_be_bytes w32 size)

-- a record as it is spelled
abbrev pub record_text : ℕ → ℕ → List ℕ → List ℕ
record_text kind conn body = record_head kind conn (length body) ++ body
