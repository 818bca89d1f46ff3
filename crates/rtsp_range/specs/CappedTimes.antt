-- Normal play times as the readers see them: one number stands for all that are too large.
use Rattle.std.specs.Prelude.{ℕ, ◌+◌, nat_lt, if◌then◌else◌, Option, Some, None, Result, Ok, Err}
use Rattle.rtsp_range.specs.declared.npt.TheConstants.{LATEST_SECONDS}
use Rattle.rtsp_range.specs.declared.npt.NptTime.{NptTime}
use Rattle.rtsp_range.specs.declared.npt.NptTime.TheVariants.{Now, At}
use Rattle.rtsp_range.specs.declared.fault.RangeFault.{RangeFault}
use Rattle.rtsp_range.specs.declared.fault.RangeFault.TheVariants as faults
use Rattle.rtsp_range.specs.Npt.{latest}

-- Seconds from here on are too large; this number stands for all of them.
abbrev pub most_seconds : ℕ
most_seconds = LATEST_SECONDS + 1

-- the nanosecond after the latest time, which stands for all later ones
abbrev pub too_late : ℕ
too_late = latest + 1

-- a time, or its fault
abbrev pub time_or_fault : Option NptTime → Result NptTime RangeFault
time_or_fault None = Err faults.Time
time_or_fault (Some Now) = Ok Now
time_or_fault (Some (At nanoseconds)) = if nat_lt latest nanoseconds then Err faults.TooLarge else Ok (At nanoseconds)

-- a begin or an end, or its fault
abbrev pub part_or_fault : Option (Option NptTime) → Result (Option NptTime) RangeFault
part_or_fault None = Err faults.Time
part_or_fault (Some None) = Ok None
part_or_fault (Some (Some Now)) = Ok (Some Now)
part_or_fault (Some (Some (At nanoseconds))) = if nat_lt latest nanoseconds then Err faults.TooLarge else Ok (Some (At nanoseconds))
