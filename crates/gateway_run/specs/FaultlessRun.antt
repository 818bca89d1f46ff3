-- What is said of a run in which nothing outside fails (this project's own).
use Rattle.std.specs.Prelude.{◌≡◌, ◌⊎◌, Bool, true, false, List}
use Rattle.gate_outside.specs.Causes.{Rose}
use Rattle.gate_outside.specs.Contents.{Grows}
use Rattle.rtsp_uri.specs.declared.base.Bases.{Bases}
use Rattle.gateway_claim.specs.declared.event.UpCause.{UpCause}
use Rattle.gateway_claim.specs.declared.event.UpCause.TheVariants as causes
use Rattle.gateway_claim.specs.Happenings.{HistoryEntry}
use Rattle.run_status.specs.declared.status.Status.{Status}
use Rattle.run_status.specs.declared.status.Status.TheVariants.{Done, Upstream, NumbersSpent, Memory}
use Rattle.run_report.specs.Report.{report_text}
use Rattle.gateway_run.specs.WholeRun.{RunSeen, RanTo}

-- Nothing outside failed: the count of what could not be opened, of each fault, of refused threads and of the sink's faults
-- did not rise.
pub record NothingFailed (seen : RunSeen) : Type 0 where
  pub listens : Rose seen.opened.listens_failed seen.closed.listens_failed → ⊥
  pub dials : Rose seen.opened.dials_failed seen.closed.dials_failed → ⊥
  pub records : Rose seen.opened.records_failed seen.closed.records_failed → ⊥
  pub door : Rose seen.opened.door_faults seen.closed.door_faults → ⊥
  pub link : Rose seen.opened.link_faults seen.closed.link_faults → ⊥
  pub recorder : Rose seen.opened.record_faults seen.closed.record_faults → ⊥
  pub threads : Rose seen.opened.crew_refusals seen.closed.crew_refusals → ⊥
  pub sink : Rose seen.faults seen.later → ⊥

-- whether the server's connection ended since its link failed
abbrev pub is_link_fault : UpCause → Bool
is_link_fault causes.ReadFault = true
is_link_fault causes.WriteFault = true
is_link_fault other = false

-- There was such a run, and its whole report was written.
pub record RanWhole (follows : Bases → List HistoryEntry → HistoryEntry → Type 0) (bases : Bases) (status : Status) (seen : RunSeen) : Type 0 where
  pub ran : RanTo follows bases status seen
  pub report : Grows seen.before seen.now (report_text ran.receipts)

-- How a run ends in which nothing outside failed. All connections are over; or the server's connection ended, and not since its
-- link failed; or all numbers were given; or memory was wanting. The whole report was written, unless memory was wanting before
-- the workers ran: then nothing was.
abbrev pub EndsUnhindered : (Bases → List HistoryEntry → HistoryEntry → Type 0) → Bases → Status → RunSeen → Type 0
EndsUnhindered follows bases Done seen = ∥ RanWhole follows bases Done seen ∥₁
EndsUnhindered follows bases (Upstream cause) seen = (is_link_fault cause ≡ false) × ∥ RanWhole follows bases (Upstream cause) seen ∥₁
EndsUnhindered follows bases NumbersSpent seen = ∥ RanWhole follows bases NumbersSpent seen ∥₁
EndsUnhindered follows bases Memory seen = (seen.now ≡ seen.before) ⊎ ∥ RanWhole follows bases Memory seen ∥₁
EndsUnhindered follows bases other seen = ⊥
