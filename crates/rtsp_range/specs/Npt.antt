-- Normal play time (RFC 2326, 3.6; RFC 7826, 4.4.2).
use Rattle.std.specs.Prelude.{ℕ, Bool, false, ◌+◌, ◌*◌, ◌^◌, ◌||◌, nat_lt, codes, if◌then◌else◌, List, [], ◌∷◌, Option, Some, None, Result, Err, option_map}
use Rattle.std.specs.Option.{ok_or}
use Rattle.std.specs.Str.{bytes_eq}
use Rattle.gate_bytes.specs.Ascii.{hyphen, dot, colon}
use Rattle.gate_bytes.specs.Places.{cut_at}
use Rattle.rtsp_range.specs.declared.part.TheConstants.{LAST_MINUTE, LAST_SECOND, FRACTION_DIGITS}
use Rattle.rtsp_range.specs.declared.npt.TheConstants.{LATEST_SECONDS}
use Rattle.rtsp_range.specs.declared.npt.NptTime.{NptTime}
use Rattle.rtsp_range.specs.declared.npt.NptTime.TheVariants.{Now, At}
use Rattle.rtsp_range.specs.declared.range.Range.{Range}
use Rattle.rtsp_range.specs.declared.range.Range.TheVariants as ranges
use Rattle.rtsp_range.specs.declared.fault.RangeFault.{RangeFault}
use Rattle.rtsp_range.specs.declared.fault.RangeFault.TheVariants as faults
use Rattle.rtsp_range.specs.Parts.{◌>>=◌, part_at, whole_number, short_number, fraction_of}

-- Hours, however many digits, then minutes and seconds.
unfoldable pub clocked_seconds : List ℕ → List ℕ → Option ℕ
clocked_seconds hours rest = do
  parts ← cut_at colon rest
  hour ← whole_number hours
  minute ← short_number LAST_MINUTE parts.0
  second ← short_number LAST_SECOND parts.1
  Some (hour * 3600 + minute * 60 + second)

-- The whole seconds: `h:mm:ss`, or the seconds alone.
abbrev pub seconds_with : List ℕ → Option (List ℕ × List ℕ) → Option ℕ
seconds_with text None = whole_number text
seconds_with text (Some parts) = clocked_seconds parts.0 parts.1

-- whole seconds, in digits or as hours, minutes and seconds
unfoldable pub seconds_of : List ℕ → Option ℕ
seconds_of text = seconds_with text (cut_at colon text)

-- Whole seconds and an optional fraction, in nanoseconds.
unfoldable pub nanoseconds_of : List ℕ → Option ℕ
nanoseconds_of text = do
  seconds ← seconds_of (part_at dot text).0
  nanos ← fraction_of (part_at dot text).1
  Some (seconds * 10 ^ FRACTION_DIGITS + nanos)

-- `now`, or a number of nanoseconds.
abbrev pub npt_time : List ℕ → Option NptTime
npt_time text = if bytes_eq text (codes "now") then Some Now else option_map At (nanoseconds_of text)

-- the latest time in nanoseconds (this project's own)
abbrev pub latest : ℕ
latest = LATEST_SECONDS * 10 ^ FRACTION_DIGITS

-- A begin or an end: nothing, or a time.
abbrev pub npt_part : List ℕ → Option (Option NptTime)
npt_part [] = Some None
npt_part (b ∷ text) = option_map Some (npt_time (b ∷ text))

-- whether it is a time that is later than the latest
abbrev pub is_too_large : Option (Option NptTime) → Bool
is_too_large None = false
is_too_large (Some None) = false
is_too_large (Some (Some Now)) = false
is_too_large (Some (Some (At nanoseconds))) = nat_lt latest nanoseconds

-- A range has a begin or an end, or both.
abbrev pub npt_pair : Option (Option NptTime) → Option (Option NptTime) → Option Range
npt_pair None to = None
npt_pair (Some from) None = None
npt_pair (Some None) (Some None) = None
npt_pair (Some (Some from)) (Some to) = Some (ranges.Npt (Some from) to)
npt_pair (Some None) (Some (Some to)) = Some (ranges.Npt None (Some to))

-- A time that is too large is told before any other fault.
abbrev pub npt_between : Option (Option NptTime) → Option (Option NptTime) → Result Range RangeFault
npt_between from to = if is_too_large from || is_too_large to then Err faults.TooLarge else ok_or (npt_pair from to) faults.Time

-- the range between two times of normal play
abbrev pub npt_with : Option (List ℕ × List ℕ) → Result Range RangeFault
npt_with None = Err faults.Time
npt_with (Some parts) = npt_between (npt_part parts.0) (npt_part parts.1)

-- The range that the text behind `npt=` means: its parts stand round the first `-`.
abbrev pub npt_range : List ℕ → Result Range RangeFault
npt_range text = npt_with (cut_at hyphen text)
