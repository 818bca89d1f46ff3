-- What times are made of: parts that a mark begins, numbers of few digits, and fractions.
use Rattle.std.specs.Prelude.{ℕ, ◌==◌, ◌&&◌, not, nat_le, replicate, if◌then◌else◌, List, [], ◌∷◌, ◌++◌, length, take, drop, Option, Some, None, unwrap_or, option_and_then, option_map}
use Rattle.std.specs.List.{list_all}
use Rattle.std.specs.Char.{is_ascii_digit}
use Rattle.std.specs.Str.Parse.{digits_value}
use Rattle.gate_bytes.specs.Ascii.{dot, digit_zero}
use Rattle.gate_bytes.specs.Numbers.{number_in}
use Rattle.gate_bytes.specs.Places.{place_of}
use Rattle.rtsp_range.specs.declared.part.TheConstants.{SHORT_DIGITS, FRACTION_DIGITS}

-- what comes next, where there is something
infixl 10 ◌>>=◌
-- what follows, where there is something
abbrev pub ◌>>=◌ : {A B : Type 0} → Option A → (A → Option B) → Option B
o >>= next = option_and_then next o

-- A text without the part that a mark begins, and that part, which is empty where there is no mark.
abbrev pub split_before : ℕ → List ℕ → List ℕ × List ℕ
split_before place text = (take place text, drop place text)

-- a text before a mark, and the rest from it on
abbrev pub part_at : ℕ → List ℕ → List ℕ × List ℕ
part_at mark text = split_before (unwrap_or (place_of mark text) (length text)) text

-- a number that is in bounds
abbrev pub within : ℕ → ℕ → ℕ → Option ℕ
within least most number = if nat_le least number && nat_le number most then Some number else None

-- one or more digits, however many (RFC 2326, 3.6; RFC 7826, 4.4.2: npt-sec and npt-hh)
abbrev pub whole_number : List ℕ → Option ℕ
whole_number text = if not (length text == 0) && list_all is_ascii_digit text then Some (digits_value 10 text) else None

-- one or more digits, up to the most of a short number, that write no more than this
abbrev pub short_number : ℕ → List ℕ → Option ℕ
short_number most text = number_in SHORT_DIGITS text >>= within 0 most

-- The number that just so many digits at the front write, and what follows them.
abbrev pub front_number : ℕ → ℕ → ℕ → List ℕ → Option (ℕ × List ℕ)
front_number width least most text =
    if nat_le width (length text)
    then option_map (λ number. (number, drop width text)) (number_in width (take width text) >>= within least most)
    else None

-- What follows this byte.
abbrev pub rest_after : ℕ → List ℕ → Option (List ℕ)
rest_after byte [] = None
rest_after byte (b ∷ text) = if b == byte then Some text else None

-- the digits that count, and zeros for those that are missing
abbrev pub counted_digits : List ℕ → List ℕ
counted_digits digits = take FRACTION_DIGITS (digits ++ replicate FRACTION_DIGITS digit_zero)

-- Billionths by the digits behind a point.
abbrev pub nanos_of : List ℕ → Option ℕ
nanos_of digits = if list_all is_ascii_digit digits then Some (digits_value 10 (counted_digits digits)) else None

-- An optional fraction in billionths: nothing, or a point and no or more digits.
abbrev pub fraction_of : List ℕ → Option ℕ
fraction_of [] = Some 0
fraction_of (b ∷ digits) = if b == dot then nanos_of digits else None
