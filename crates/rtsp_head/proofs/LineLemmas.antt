-- The lines of a head, one after another.
use Rattle.std.proofs.Common.{◌≡◌, ℕ, ◌+◌, Bool, ◌==◌, cond, List, [], ◌∷◌, length, take, drop, Option, None, Some, refl, sym, ◌∙◌, ap, arith}
use Rattle.std.specs.Option.{option_map}
use Rattle.std.specs.List.{slice_split}
use Rattle.std.proofs.lemmas.List.Splits.{length-slice_split}
use Rattle.std.specs.Str.Lines.{lines, lines_of_parts, strip_carriage_return}
use Rattle.gate_bytes.specs.Ascii.{lf}
use Rattle.gate_bytes.specs.Places.{place_of}
use Rattle.gate_bytes.proofs.PartLemmas.{parts_at_place, parts_whole}
use Rattle.rtsp_head.specs.Lines.{before_empty, first_line, line_apart, head_lines}

abbrev pub ends_line : ℕ → Bool
ends_line b = b == lf

pub part_ended : (part : List ℕ) (parts : List (List ℕ)) (n : ℕ) → length parts ≡ n + 1 → lines_of_parts (part ∷ parts) ≡ strip_carriage_return part ∷ lines_of_parts parts
part_ended part [] n h = absurd (omega arith)
part_ended part (next ∷ parts) n h = refl

-- the first line and the others, where there is a line end
pub lines_at : (bytes : List ℕ) (k : ℕ) → place_of lf bytes ≡ Some k → lines bytes ≡ strip_carriage_return (take k bytes) ∷ lines (drop (k + 1) bytes)
lines_at bytes k h =
    ap lines_of_parts (parts_at_place lf bytes k h) ∙ part_ended (take k bytes) (slice_split ends_line (drop (k + 1) bytes)) _ (length-slice_split ends_line (drop (k + 1) bytes))

whole_line : (bytes : List ℕ) → before_empty (lines_of_parts (bytes ∷ [])) ≡ before_empty (bytes ∷ [])
whole_line [] = refl
whole_line (b ∷ text) = grind arith

first_apart : (bytes : List ℕ) (place : Option ℕ) → place_of lf bytes ≡ place →
    let parts = line_apart bytes (option_map (λ k. (take k bytes, drop (k + 1) bytes)) place) in
    head_lines bytes ≡ before_empty (parts.0 ∷ lines parts.1)
first_apart bytes None h = ap (λ parts. before_empty (lines_of_parts parts)) (parts_whole lf bytes h) ∙ whole_line bytes
first_apart bytes (Some k) h = ap before_empty (lines_at bytes k h)

-- the lines of a head are its first line and the others
pub lines_by_first : (bytes : List ℕ) → head_lines bytes ≡ before_empty ((first_line bytes).0 ∷ lines (first_line bytes).1)
lines_by_first bytes = first_apart bytes (place_of lf bytes) refl

empty_or_more : (line : List ℕ) (more : List (List ℕ)) → before_empty (line ∷ more) ≡ cond (length line == 0) [] (line ∷ before_empty more)
empty_or_more [] more = refl
empty_or_more (b ∷ line) more = grind arith

-- the lines of a head, once its first line stands apart
pub lines_apart : (bytes line rest : List ℕ) → ◌≡◌ {A = List ℕ × List ℕ} (line, rest) (first_line bytes) →
    head_lines bytes ≡ cond (length line == 0) [] (line ∷ head_lines rest)
lines_apart bytes line rest h =
    lines_by_first bytes ∙ ap (λ (parts : List ℕ × List ℕ). before_empty (parts.0 ∷ lines parts.1)) (sym h) ∙ empty_or_more line (lines rest)
