-- The end of bytes that hold lines.
use Rattle.std.specs.Prelude.{ℕ, ◌-◌, ◌==◌, ◌&&◌, ◌||◌, Bool, List, length, slice_index}
use Rattle.gate_bytes.specs.Ascii.{lf, cr}

-- whether an LF and an empty line stand at the end
abbrev pub ends_empty : List ℕ → Bool
ends_empty bytes =
    slice_index bytes (length bytes - 1) == lf && (slice_index bytes (length bytes - 2) == lf || (slice_index bytes (length bytes - 2) == cr && slice_index bytes (length bytes - 3) == lf))
