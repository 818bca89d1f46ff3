-- Splitting a value at a byte outside double quotes.
use Rattle.std.specs.Prelude.{ℕ, ◌+◌, ◌%◌, Bool, false, not, ◌==◌, ◌&&◌, if◌then◌else◌, List, [], ◌∷◌, length, Option, Some, None, option_map}
use Rattle.std.specs.List.{count_by, onto_first}
use Rattle.gate_bytes.specs.Ascii.{double_quote}

-- whether what follows a byte stands within double quotes (RFC 2326, 15.1; RFC 7826, 20.1)
abbrev pub quoted_after : Bool → ℕ → Bool
quoted_after quoted b = if b == double_quote then not quoted else quoted

-- The parts of a text between the places of a byte that stand outside double quotes, where the text itself
-- begins within them or not.
abbrev pub split_from : ℕ → Bool → List ℕ → List (List ℕ)
split_from byte quoted [] = [] ∷ []
split_from byte quoted (b ∷ text) =
    if b == byte && not quoted then [] ∷ split_from byte false text
    else onto_first b (split_from byte (quoted_after quoted b) text)

-- All parts of a text. A comma parts alternatives so, and a semicolon their parameters (RFC 2326, 12.39).
abbrev pub unquoted_parts : ℕ → List ℕ → List (List ℕ)
unquoted_parts byte text = split_from byte false text

-- the parts of what is left, if anything is
abbrev pub unquoted_left : ℕ → Option (List ℕ) → List (List ℕ)
unquoted_left byte None = []
unquoted_left byte (Some text) = unquoted_parts byte text

-- the first place of a byte outside double quotes
abbrev pub place_outside : ℕ → Bool → List ℕ → Option ℕ
place_outside byte quoted [] = None
place_outside byte quoted (b ∷ text) = if b == byte && not quoted then Some 0 else option_map (λ k. k + 1) (place_outside byte (quoted_after quoted b) text)

-- A quote is left open where the number of quotes is odd.
abbrev pub has_open_quote : List ℕ → Bool
has_open_quote text = count_by (λ b. b == double_quote) text % 2 == 1

-- a value that is not empty and leaves no quote open (this project's own in that nothing else is asked)
abbrev pub is_readable : List ℕ → Bool
is_readable text = not (length text == 0) && not (has_open_quote text)
