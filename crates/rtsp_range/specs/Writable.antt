-- The ranges that can be written, which are those that can be read: their fields are in range.
use Rattle.std.specs.Prelude.{Bool, true, ◌&&◌, ◌||◌, nat_le, Option, Some, None}
use Rattle.std.specs.Option.{is_some}
use Rattle.rtsp_range.specs.declared.part.TheConstants.{LAST_MINUTE, LAST_SECOND}
use Rattle.rtsp_range.specs.declared.smpte.TheConstants.{LAST_SHORT}
use Rattle.rtsp_range.specs.declared.clock.TheConstants.{LAST_YEAR, LAST_MONTH, LAST_DAY, LAST_HOUR, LEAP_SECOND, LAST_NANO}
use Rattle.rtsp_range.specs.declared.npt.NptTime.{NptTime}
use Rattle.rtsp_range.specs.declared.npt.NptTime.TheVariants.{Now, At}
use Rattle.rtsp_range.specs.declared.smpte.Smpte.{Smpte}
use Rattle.rtsp_range.specs.declared.clock.Moment.{Moment}
use Rattle.rtsp_range.specs.declared.range.Range.{Range}
use Rattle.rtsp_range.specs.declared.range.Range.TheVariants as ranges
use Rattle.rtsp_range.specs.Npt.{latest}

-- where there is one, it passes the test
abbrev pub if_there : {A : Type 0} → (A → Bool) → Option A → Bool
if_there test None = true
if_there test (Some x) = test x

-- now, or no later than the latest time
abbrev pub is_npt_time : NptTime → Bool
is_npt_time Now = true
is_npt_time (At nanoseconds) = nat_le nanoseconds latest

-- each number up to its last
abbrev pub is_smpte_time : Smpte → Bool
is_smpte_time time =
    nat_le time.hours LAST_SHORT
    && (nat_le time.minutes LAST_MINUTE && (nat_le time.seconds LAST_SECOND && (nat_le time.frames LAST_SHORT && nat_le time.parts LAST_SHORT)))

-- A date and a time of day by their digits: each month may have its 31st, and each minute a leap second.
abbrev pub is_moment : Moment → Bool
is_moment moment =
    (nat_le moment.year LAST_YEAR && ((nat_le 1 moment.month && nat_le moment.month LAST_MONTH) && (nat_le 1 moment.day && nat_le moment.day LAST_DAY)))
    && (nat_le moment.hour LAST_HOUR && (nat_le moment.minute LAST_MINUTE && (nat_le moment.second LEAP_SECOND && nat_le moment.nanos LAST_NANO)))

-- Whether a range can be written: its times are in range, and an npt range has a begin or an end.
abbrev pub can_be_written : Range → Bool
can_be_written (ranges.Npt from to) = (is_some from || is_some to) && (if_there is_npt_time from && if_there is_npt_time to)
can_be_written (ranges.Smpte rate from to) = is_smpte_time from && if_there is_smpte_time to
can_be_written (ranges.Clock from to) = is_moment from && if_there is_moment to
