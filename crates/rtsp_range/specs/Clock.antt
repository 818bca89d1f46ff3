-- Absolute time in UTC (RFC 2326, 3.7; RFC 7826, 4.4.3).
use Rattle.std.specs.Prelude.{ℕ, ◌==◌, if◌then◌else◌, List, [], ◌∷◌, length, Option, Some, None, option_map}
use Rattle.gate_bytes.specs.Ascii.{hyphen, upper_t, upper_z}
use Rattle.gate_bytes.specs.Places.{cut_at}
use Rattle.rtsp_range.specs.declared.part.TheConstants.{SHORT_DIGITS, LAST_MINUTE}
use Rattle.rtsp_range.specs.declared.clock.TheConstants.{YEAR_DIGITS, LAST_YEAR, LAST_MONTH, LAST_DAY, LAST_HOUR, LEAP_SECOND}
use Rattle.rtsp_range.specs.declared.clock.Moment.{Moment}
use Rattle.rtsp_range.specs.declared.range.Range.{Range}
use Rattle.rtsp_range.specs.declared.range.Range.TheVariants as ranges
use Rattle.rtsp_range.specs.Parts.{◌>>=◌, front_number, rest_after, fraction_of}

-- `YYYYMMDDThhmmss`, an optional fraction and `Z`, each number with all its digits; a minute may have a
-- leap second.
unfoldable pub moment_of : List ℕ → Option Moment
moment_of text = do
  year ← front_number YEAR_DIGITS 0 LAST_YEAR text
  month ← front_number SHORT_DIGITS 1 LAST_MONTH year.1
  day ← front_number SHORT_DIGITS 1 LAST_DAY month.1
  time ← rest_after upper_t day.1
  hour ← front_number SHORT_DIGITS 0 LAST_HOUR time
  minute ← front_number SHORT_DIGITS 0 LAST_MINUTE hour.1
  second ← front_number SHORT_DIGITS 0 LEAP_SECOND minute.1
  last ← cut_at upper_z second.1
  nanos ← fraction_of last.0
  if length last.1 == 0
      then Some (record { year = year.0; month = month.0; day = day.0; hour = hour.0; minute = minute.0; second = second.0; nanos = nanos })
      else None

-- An end: nothing, or a time.
abbrev pub clock_end : List ℕ → Option (Option Moment)
clock_end [] = Some None
clock_end (b ∷ text) = option_map Some (moment_of (b ∷ text))

-- The range that the text behind `clock=` means: its parts stand round the first `-`.
unfoldable pub clock_range : List ℕ → Option Range
clock_range text = do
  parts ← cut_at hyphen text
  from ← moment_of parts.0
  to ← clock_end parts.1
  Some (ranges.Clock from to)
