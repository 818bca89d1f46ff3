-- The field Scale.
use Rattle.std.specs.Prelude.{ℕ, Bool, ◌==◌, ◌&&◌, nat_le, if◌then◌else◌, List, [], ◌∷◌, length, Option, Some, None, is_some}
use Rattle.std.specs.List.{list_all}
use Rattle.std.specs.Char.{is_ascii_digit}
use Rattle.gate_bytes.specs.Ascii.{hyphen, dot}
use Rattle.gate_bytes.specs.Places.{cut_at}
use Rattle.gate_bytes.specs.Numbers.{number_in}
use Rattle.rtsp_small.specs.declared.scale.TheConstants.{SCALE_WHOLE_DIGITS, SCALE_FRACTION_DIGITS}

-- without the `-` at the front, if there is one
abbrev pub without_minus : List ℕ → List ℕ
without_minus [] = []
without_minus (b ∷ text) = if b == hyphen then text else b ∷ text

-- what stands before the point
abbrev pub is_whole : List ℕ → Bool
is_whole text = is_some (number_in SCALE_WHOLE_DIGITS text)

-- what stands behind the point
abbrev pub is_fraction : List ℕ → Bool
is_fraction text = nat_le (length text) SCALE_FRACTION_DIGITS && list_all is_ascii_digit text

-- a whole number alone, or with a point and a fraction
abbrev pub is_scale_with : List ℕ → Option (List ℕ × List ℕ) → Bool
is_scale_with number None = is_whole number
is_scale_with number (Some parts) = is_whole parts.0 && is_fraction parts.1

-- an optional `-` and such a number (RFC 2326, 12.34; RFC 7826, 18.46)
abbrev pub is_scale : List ℕ → Bool
is_scale value = is_scale_with (without_minus value) (cut_at dot (without_minus value))
