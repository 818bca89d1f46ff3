-- The addresses in a session description (RFC 2326, C.1.1; RFC 4566, 5).
use Rattle.std.specs.Prelude.{ℕ, Bool, ◌==◌, ◌-◌, nat_eq, List, [], ◌∷◌, ◌++◌, length, drop, slice_index, codes, if◌then◌else◌}
use Rattle.std.specs.List.{starts_with, join_with_byte}
use Rattle.std.specs.Str.Lines.{strip_carriage_return}
use Rattle.gate_bytes.specs.Ascii.{lf, cr}
use Rattle.gate_bytes.specs.Places.{parts_at}
use Rattle.rtsp_uri.specs.Swaps.{swapped}

-- "a=control:"
abbrev pub control : List ℕ
control = codes "a=control:"

-- whether a line of a description is a control attribute
abbrev pub is_control : List ℕ → Bool
is_control line = starts_with nat_eq line control

-- a line without its end: what follows "a=control:" is swapped
abbrev pub swapped_control : List ℕ → List ℕ → List ℕ → List ℕ
swapped_control from to line = if is_control line then control ++ swapped from to (drop (length control) line) else line

-- the CR at the end of a line, where there is one
abbrev pub return_of : List ℕ → List ℕ
return_of line = if slice_index line (length line - 1) == cr then cr ∷ [] else []

-- a line that a LF ends: a CR before the LF belongs to the end
abbrev pub swapped_ended : List ℕ → List ℕ → List ℕ → List ℕ
swapped_ended from to line = swapped_control from to (strip_carriage_return line) ++ return_of line

-- the lines, of which a LF ends each but the last
abbrev pub swapped_lines : List ℕ → List ℕ → List (List ℕ) → List (List ℕ)
swapped_lines from to [] = []
swapped_lines from to (last ∷ []) = swapped_control from to last ∷ []
swapped_lines from to (line ∷ next ∷ more) = swapped_ended from to line ∷ swapped_lines from to (next ∷ more)

-- The description, whose lines LFs part, with the authority of one base in the place of another's.
abbrev pub rewritten : List ℕ → List ℕ → List ℕ → List ℕ
rewritten from to body = join_with_byte lf (swapped_lines from to (parts_at lf body))
