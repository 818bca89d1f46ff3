-- Sources of RTP packets, in hexadecimal digits (RFC 2326, 12.39; RFC 7826, 18.54).
use Rattle.std.specs.Prelude.{ℕ, ◌/◌, ◌%◌, ◌==◌, ◌&&◌, slice_index, codes, if◌then◌else◌, List, [], ◌∷◌, length, map, Option, Some, None, option_and_then}
use Rattle.std.specs.Option.{option_or}
use Rattle.std.specs.List.{list_all}
use Rattle.std.specs.Char.{is_ascii_hexdigit}
use Rattle.std.specs.Str.Parse.{digits_value}
use Rattle.gate_bytes.specs.Ascii.{slash}
use Rattle.gate_bytes.specs.Places.{up_to}
use Rattle.rtsp_transport.specs.declared.ssrc.TheConstants.{SSRC_DIGITS, HEX_PLACES}
use Rattle.rtsp_transport.specs.Parameters.{value_in}

-- the number that so many hexadecimal digits write
abbrev pub source_number : List ℕ → Option ℕ
source_number text = if length text == SSRC_DIGITS && list_all is_ascii_hexdigit text then Some (digits_value 16 text) else None

-- the source that the value of a parameter `ssrc` names: the first of its values, which slashes part
abbrev pub source_named : Option (Option (List ℕ)) → Option ℕ
source_named value = option_and_then (λ value. option_and_then (λ text. source_number (up_to slash text)) value) value

-- the source that a parameter names
abbrev pub source_in : List ℕ → Option ℕ
source_in parameter = source_named (value_in (codes "ssrc") parameter)

-- the first source among the parameters
abbrev pub first_source : List (List ℕ) → Option ℕ
first_source [] = None
first_source (parameter ∷ more) = option_or (source_in parameter) (first_source more)

-- the upper-case hexadecimal digit of a number below 16
abbrev pub hex_digit : ℕ → ℕ
hex_digit n = slice_index (codes "0123456789ABCDEF") n

-- a source in upper-case hexadecimal digits
unfoldable pub source_digits : ℕ → List ℕ
source_digits source = map (λ place. hex_digit (source / place % 16)) HEX_PLACES
