-- Headers that are written where there is something to say (this project's own).
use Rattle.std.specs.Prelude.{ℕ, Bool, List, [], ◌∷◌, ◌++◌, Option, Some, None, if◌then◌else◌}
use Rattle.std.specs.Option.{option_or}
use Rattle.std.specs.List.{flat_map}
use Rattle.gate_bytes.specs.Tokens.{equal_fold}
use Rattle.rtsp_head.specs.declared.header.Header.{Header}
use Rattle.rtsp_head.specs.HeadText.{ended, header_text}

-- a header with this value, where there is one
abbrev pub header_with : List ℕ → Option (List ℕ) → List Header
header_with name None = []
header_with name (Some value) = record { name = name; value = value } ∷ []

-- a field of a message, which is written where it has a value
pub record Field : Type 0 where
  pub name : List ℕ
  pub value : Option (List ℕ)

-- a header that is written where there is a value
abbrev pub named : List ℕ → Option (List ℕ) → Field
named name value = record { name = name; value = value }

-- some headers, and then those of fields, in their order
abbrev pub then_headers : List Header → List Field → List Header
then_headers headers [] = headers
then_headers headers (field ∷ fields) = then_headers (headers ++ header_with field.name field.value) fields

-- the headers of fields
abbrev pub field_headers : List Field → List Header
field_headers fields = then_headers [] fields

-- the line of a field, where it has a value
abbrev pub field_line : Field → List ℕ
field_line field = flat_map (λ header. ended (header_text header)) (header_with field.name field.value)

-- the lines of fields, in their order
abbrev pub field_lines : List Field → List ℕ
field_lines fields = flat_map field_line fields

-- the value of the first field of a name that has one, without ASCII case
abbrev pub told_value : List ℕ → List Field → Option (List ℕ)
told_value name [] = None
told_value name (field ∷ fields) = option_or (if equal_fold field.name name then field.value else None) (told_value name fields)

-- a value that is said only where a condition holds
abbrev pub said_where : Bool → Option (List ℕ) → Option (List ℕ)
said_where holds value = if holds then value else None
