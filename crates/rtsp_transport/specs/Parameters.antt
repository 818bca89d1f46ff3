-- The parameters of an alternative.
use Rattle.std.specs.Prelude.{ℕ, Bool, codes, if◌then◌else◌, List, [], ◌∷◌, map, Option, Some, None}
use Rattle.std.specs.Option.{option_or}
use Rattle.gate_bytes.specs.Ascii.{semicolon, equals_sign}
use Rattle.gate_bytes.specs.Tokens.{trimmed, equal_fold}
use Rattle.gate_bytes.specs.Places.{cut_at}
use Rattle.rtsp_transport.specs.Splits.{unquoted_parts, unquoted_left}
use Rattle.rtsp_transport.specs.declared.parameters.Name.{Name}
use Rattle.rtsp_transport.specs.declared.parameters.Name.TheVariants.{Mode, Interleaved, Ssrc, Other}

-- what semicolons part, without the blanks round each: the protocol, and then the parameters (RFC 2326, 12.39)
abbrev pub parameters_of : List ℕ → List (List ℕ)
parameters_of alternative = map trimmed (unquoted_parts semicolon alternative)

-- the parameters behind the first semicolon
abbrev pub parameters_left : Option (List ℕ) → List (List ℕ)
parameters_left rest = map trimmed (unquoted_left semicolon rest)

-- the value of the parameter with this name; none where it has no `=`
abbrev pub value_with : List ℕ → List ℕ → Option (List ℕ × List ℕ) → Option (Option (List ℕ))
value_with name parameter None = if equal_fold parameter name then Some None else None
value_with name parameter (Some parts) = if equal_fold parts.0 name then Some (Some parts.1) else None

-- The value of a parameter, where it has this name, without ASCII case: what stands behind the first `=`, blanks and
-- all, or none, where there is no `=` (that such a parameter counts is this project's own).
abbrev pub value_in : List ℕ → List ℕ → Option (Option (List ℕ))
value_in name parameter = value_with name parameter (cut_at equals_sign parameter)

-- the value of the first parameter with this name
abbrev pub value_of : List ℕ → List (List ℕ) → Option (Option (List ℕ))
value_of name [] = None
value_of name (parameter ∷ more) = option_or (value_in name parameter) (value_of name more)

-- the parameter `multicast`, which has no value
abbrev pub is_multicast : List ℕ → Bool
is_multicast parameter = equal_fold parameter (codes "multicast")

-- the name and the value, with these parts round the first `=`
abbrev pub named_parts : List ℕ → Option (List ℕ × List ℕ) → List ℕ × Option (List ℕ)
named_parts parameter None = (parameter, None)
named_parts parameter (Some parts) = (parts.0, Some parts.1)

-- the name and the value of a parameter
abbrev pub name_and_value : List ℕ → List ℕ × Option (List ℕ)
name_and_value parameter = named_parts parameter (cut_at equals_sign parameter)

-- which name a text is, without ASCII case
abbrev pub name_of : List ℕ → Name
name_of text = if equal_fold text (codes "mode") then Mode else (if equal_fold text (codes "interleaved") then Interleaved else (if equal_fold text (codes "ssrc") then Ssrc else Other))
