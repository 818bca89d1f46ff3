-- What the value of a header says, without where it lies in memory.
use Rattle.std.specs.Prelude.{ℕ, List}
use Rattle.rtsp_head.specs.declared.field_value.ValuePlace.{ValuePlace}
use Rattle.rtsp_head.specs.declared.field_value.ValuePlace.TheVariants.{Lent, Owned}

-- the bytes of a value
abbrev pub value_seen : ValuePlace → List ℕ
value_seen (Lent bytes) = bytes.now
value_seen (Owned text) = text
