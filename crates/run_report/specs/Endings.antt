-- How a run ended, by what is left of it (this project's own).
use Rattle.std.specs.Prelude.{◌≡◌, ◌&&◌, Bool, true, false, Option, Some, None}
use Rattle.gateway_claim.specs.declared.event.UpCause.{UpCause}
use Rattle.gateway_claim.specs.declared.event.UpCause.TheVariants as causes
use Rattle.run_status.specs.declared.status.Status.{Status}
use Rattle.run_status.specs.declared.status.Status.TheVariants.{Done, SinkFault, Upstream, RecordFault, CrewRefused, Memory, AcceptFault, NumbersSpent}
use Rattle.hub_queues.specs.declared.ending.Ending.{Ending}
use Rattle.hub_queues.specs.declared.ending.Ending.TheVariants as endings
use Rattle.hub_queues.specs.declared.ending.StopWhy.TheVariants as stops
use Rattle.run_report.specs.declared.up_run.UpRun.{UpRun}
use Rattle.run_report.specs.declared.run_end.RunEnd.{RunEnd}

-- the answer of a run whose recording could not be written to its end
abbrev pub unrecorded : Status → Status
unrecorded Done = RecordFault
unrecorded other = other

-- the answer of a run whose report could not be written
abbrev pub unreported : Status → Status
unreported Done = SinkFault
unreported other = other

-- whether the workers met this cause, where it is one that they meet
abbrev pub met_by : UpCause → UpRun → Bool
met_by causes.Ended run = run.ended
met_by causes.ReadFault run = run.read_failed
met_by causes.WriteFault run = run.write_failed
met_by other run = true

-- A status goes with the ending that the hub kept and with what the workers met.
abbrev pub GoesWith : Status → RunEnd → Type 0
GoesWith Done told = (told.ending ≡ Some (endings.Stopped stops.DoorEnd)) × (told.ended ≡ true) × (told.over ≡ true)
GoesWith (Upstream cause) told = (told.ending ≡ Some (endings.Upstream cause)) × (met_by cause told.run ≡ true)
GoesWith RecordFault told = told.ending ≡ Some (endings.Stopped stops.Record)
GoesWith NumbersSpent told = told.ending ≡ Some (endings.Stopped stops.Spent)
GoesWith AcceptFault told = told.failed ≡ true
GoesWith CrewRefused told = told.refused ≡ true
GoesWith Memory told = Unit {0}
GoesWith other told = ⊥

-- whether what the workers met shows the ending that the hub kept
abbrev pub is_shown : Option Ending → RunEnd → Bool
is_shown None told = false
is_shown (Some (endings.Upstream cause)) told = met_by cause told.run
is_shown (Some (endings.Stopped stops.Crew)) told = told.refused
is_shown (Some (endings.Stopped stops.Accept)) told = told.failed
is_shown (Some (endings.Stopped stops.DoorEnd)) told = told.ended && told.over
is_shown (Some (endings.Stopped other)) told = true
