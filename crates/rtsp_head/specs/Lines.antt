-- The lines of a head.
use Rattle.std.specs.Prelude.{ℕ, Bool, true, false, ◌==◌, ◌||◌, List, [], ◌∷◌, Option, Some, None, Result, Ok, Err}
use Rattle.std.specs.List.{list_any}
use Rattle.std.specs.Str.Lines.{lines, strip_carriage_return}
use Rattle.gate_bytes.specs.Ascii.{nul, lf, cr}
use Rattle.gate_bytes.specs.Places.{cut_at}
use Rattle.rtsp_head.specs.declared.fault.HeadFault.{HeadFault}
use Rattle.rtsp_head.specs.declared.fault.HeadFault.TheVariants.{Memory}

-- what comes next, where no fault came before
abbrev pub and_then : {A B E : Type 0} → (A → Result B E) → Result A E → Result B E
and_then next (Ok x) = next x
and_then next (Err e) = Err e

-- the same, with the value changed
abbrev pub result_map : {A B E : Type 0} → (A → B) → Result A E → Result B E
result_map f (Ok x) = Ok (f x)
result_map f (Err e) = Err e

-- the fault of a head that could not be read; none where memory was wanting
abbrev pub head_refusal : HeadFault → Option HeadFault
head_refusal Memory = None
head_refusal fault = Some fault

-- the lines before the first empty one
abbrev pub before_empty : List (List ℕ) → List (List ℕ)
before_empty [] = []
before_empty ([] ∷ more) = []
before_empty ((b ∷ line) ∷ more) = (b ∷ line) ∷ before_empty more

-- The lines of a head, without their ends. A line ends at LF, and a CR just before it belongs to the end
-- (RFC 2326, 4; this project's own in that a CR alone ends nothing).
abbrev pub head_lines : List ℕ → List (List ℕ)
head_lines bytes = before_empty (lines bytes)

-- the first line without its end, and what follows it
abbrev pub line_apart : List ℕ → Option (List ℕ × List ℕ) → List ℕ × List ℕ
line_apart bytes None = (bytes, [])
line_apart bytes (Some parts) = (strip_carriage_return parts.0, parts.1)

-- the first line, and what stands behind it
abbrev pub first_line : List ℕ → List ℕ × List ℕ
first_line bytes = line_apart bytes (cut_at lf bytes)

-- the lines of a head, of which the first may stand apart
abbrev pub lines_with : Option (List ℕ × List ℕ) → List (List ℕ)
lines_with None = []
lines_with (Some parts) = parts.0 ∷ head_lines parts.1

-- whether a line without its LF is empty: nothing, or the CR of its end
abbrev pub is_empty_line : List ℕ → Bool
is_empty_line [] = true
is_empty_line (b ∷ []) = b == cr
is_empty_line (b ∷ c ∷ line) = false

-- A line may hold no byte 0, and no CR but at its end (this project's own).
abbrev pub has_control : List ℕ → Bool
has_control line = list_any (λ b. b == cr || b == nul) line
