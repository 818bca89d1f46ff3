-- What the records of a history tell of what went up (this project's own): each has the bytes that the server is handed, as the
-- laws over these bytes have them.
use Rattle.std.specs.Prelude.{◌≡◌, ℕ, ◌&&◌, is_none, List, [], ◌∷◌, if◌then◌else◌}
use Rattle.std.specs.List.{flat_map}
use Rattle.gateway_claim.specs.declared.event.ToUp.{ToUp}
use Rattle.gateway_replay.specs.declared.records.RecordKind.{RecordKind}
use Rattle.gateway_replay.specs.declared.records.RecordKind.TheVariants.{Handed, HandedUp, Closed, Fault}
use Rattle.gateway_replay.specs.Records.{record_byte, record_text}
use Rattle.upward_law.specs.Due.{bytes_up}

-- a record by its parts
pub record RecordParts : Type 0 where
  pub kind : RecordKind
  pub conn : ℕ
  pub body : List ℕ

-- as it is spelled
abbrev pub spelled_parts : RecordParts → List ℕ
spelled_parts one = record_text (record_byte one.kind) one.conn one.body

-- The one record of what an entry hands up: with all its bytes, of the server, which has the number 0. None where nothing goes up.
abbrev pub record_due : ToUp → List RecordParts
record_due up = if is_none up.answer && is_none up.message then [] else record { kind = HandedUp; conn = 0; body = bytes_up up } ∷ []

-- what a body tells of what went up, by the kind of its record
abbrev pub told_up : RecordKind → List ℕ → List ℕ
told_up Handed body = []
told_up HandedUp body = body
told_up Closed body = []
told_up Fault body = []

-- A text is records, one behind another, and the bodies of those of what went up are these bytes, one behind another.
pub record TellsUp (text up : List ℕ) : Type 0 where
  pub all : List RecordParts
  pub spelled : text ≡ flat_map spelled_parts all
  pub bodies : flat_map (λ one. told_up one.kind one.body) all ≡ up
