-- Where a byte stands in a text, and the parts of the text round it.
use Rattle.std.specs.Prelude.{ℕ, ◌+◌, ◌==◌, List, [], ◌∷◌, length, take, drop, Option, Some, None, unwrap_or, if◌then◌else◌}
use Rattle.std.specs.Option.{option_map}
use Rattle.std.specs.List.{slice_split}

-- the first place of a byte
abbrev pub place_of : ℕ → List ℕ → Option ℕ
place_of byte [] = None
place_of byte (b ∷ text) = if b == byte then Some 0 else option_map (λ k. k + 1) (place_of byte text)

-- how many bytes a search for a byte looks at: those up to and with its first place, or all of the text
abbrev pub looked_at : ℕ → List ℕ → ℕ
looked_at byte text = unwrap_or (option_map (λ k. k + 1) (place_of byte text)) (length text)

-- the parts before and after the first place of a byte
abbrev pub cut_at : ℕ → List ℕ → Option (List ℕ × List ℕ)
cut_at byte text = option_map (λ k. (take k text, drop (k + 1) text)) (place_of byte text)

-- what stands before the first place of a byte: all of the text, where the byte is not in it
abbrev pub up_to : ℕ → List ℕ → List ℕ
up_to byte text = unwrap_or (option_map (λ parts. parts.0) (cut_at byte text)) text

-- all parts of a text between the places of a byte
abbrev pub parts_at : ℕ → List ℕ → List (List ℕ)
parts_at byte text = slice_split (λ b. b == byte) text
