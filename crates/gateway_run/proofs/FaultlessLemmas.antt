-- How a run ends in which nothing outside failed.
use Rattle.std.proofs.Common.{◌≡◌, ◌<◌, ℕ, false, List, length, Some, None, inl, inr, refl, sym, subst, ◌∙◌, arith}
use Rattle.std.specs.Prelude.{◌⊎◌}
use Rattle.std.proofs.Math.Logic.{∥∥₁_map}
use Rattle.gate_outside.specs.Causes.{Rose}
use Rattle.gate_outside.specs.Contents.{Grows}
use Rattle.rtsp_uri.specs.declared.base.Bases.{Bases}
use Rattle.serve_world.specs.declared.tally.WorldTally.{WorldTally}
use Rattle.gateway_claim.specs.declared.event.UpCause.{UpCause}
use Rattle.gateway_claim.specs.declared.event.UpCause.TheVariants as causes
use Rattle.gateway_claim.specs.Happenings.{HistoryEntry, fault_in}
use Rattle.run_status.specs.declared.status.Status.{Status}
use Rattle.run_status.specs.declared.status.Status.TheVariants.{Done, Usage, SourceFault, SinkFault, BadTranscript, Upstream, ListenFault, RecordFault, CrewRefused, Memory, TooLong, AcceptFault, DialFault, NumbersSpent}
use Rattle.hub_queues.specs.declared.limits.TheConstants.{MOST_CONNECTIONS}
use Rattle.run_report.specs.Report.{report_text}
use Rattle.gateway_run.specs.WholeRun.{RunSeen, LinkShows, HasShown, WroteReport, RanTo, FailsToOpen, ServeSays}
use Rattle.gateway_run.specs.FaultlessRun.{NothingFailed, is_link_fault, RanWhole, EndsUnhindered}

-- a sink that did not fail took all
all_written : (seen : RunSeen) (text : List ℕ) → WroteReport seen text → (Rose seen.faults seen.later → ⊥) → Grows seen.before seen.now text
all_written seen text (inl grown) sink = grown
all_written seen text (inr part) sink = absurd (sink part.0)

whole : (follows : Bases → List HistoryEntry → HistoryEntry → Type 0) (bases : Bases) (status : Status) (seen : RunSeen)
    → (Rose seen.faults seen.later → ⊥) → RanTo follows bases status seen → RanWhole follows bases status seen
whole follows bases status seen sink ran = record { ran = ran; report = all_written seen (report_text ran.receipts) ran.wrote sink }

-- a link that did not fail is no cause
no_link_fault : (cause : UpCause) (opened closed : WorldTally) → LinkShows cause opened closed → (Rose opened.link_faults closed.link_faults → ⊥) → is_link_fault cause ≡ false
no_link_fault causes.ReadFault opened closed shown link = absurd (link shown)
no_link_fault causes.WriteFault opened closed shown link = absurd (link shown)
no_link_fault causes.Ended opened closed shown link = refl
no_link_fault (causes.Framing fault) opened closed shown link = refl
no_link_fault (causes.UnknownReply number) opened closed shown link = refl
no_link_fault (causes.BadGrant number) opened closed shown link = refl
no_link_fault (causes.SessionTaken number) opened closed shown link = refl
no_link_fault causes.CseqSpent opened closed shown link = refl
no_link_fault causes.UpFull opened closed shown link = refl

-- nothing fails to open
nothing_shut : (status : Status) (seen : RunSeen) → FailsToOpen status seen → NothingFailed seen → ⊥
nothing_shut status seen (inl listen) calm = calm.listens listen.1
nothing_shut status seen (inr (inl record_fault)) calm = calm.records record_fault.1
nothing_shut status seen (inr (inr dial)) calm = calm.dials dial.1

-- no recorder failed
nothing_unrecorded : (seen : RunSeen) → HasShown RecordFault seen → NothingFailed seen → ⊥
nothing_unrecorded seen (inl opening) calm = calm.records opening
nothing_unrecorded seen (inr writing) calm = calm.recorder writing

ran_unhindered : (follows : Bases → List HistoryEntry → HistoryEntry → Type 0) (bases : Bases) (status : Status) (seen : RunSeen)
    → ∥ RanTo follows bases status seen ∥₁ → HasShown status seen → NothingFailed seen
    → EndsUnhindered follows bases status seen
ran_unhindered follows bases Done seen ran shown calm = ∥∥₁_map ran (whole follows bases Done seen calm.sink)
ran_unhindered follows bases (Upstream cause) seen ran shown calm = (
  no_link_fault cause seen.opened seen.closed shown calm.link,
  ∥∥₁_map ran (whole follows bases (Upstream cause) seen calm.sink),
)
ran_unhindered follows bases NumbersSpent seen ran shown calm = ∥∥₁_map ran (whole follows bases NumbersSpent seen calm.sink)
ran_unhindered follows bases Memory seen ran shown calm = inr (∥∥₁_map ran (whole follows bases Memory seen calm.sink))
ran_unhindered follows bases SinkFault seen ran shown calm = absurd (calm.sink shown)
ran_unhindered follows bases ListenFault seen ran shown calm = absurd (calm.listens shown)
ran_unhindered follows bases DialFault seen ran shown calm = absurd (calm.dials shown)
ran_unhindered follows bases RecordFault seen ran shown calm = absurd (nothing_unrecorded seen shown calm)
ran_unhindered follows bases CrewRefused seen ran shown calm = absurd (calm.threads shown)
ran_unhindered follows bases AcceptFault seen ran shown calm = absurd (calm.door shown)
ran_unhindered follows bases (Usage place) seen ran shown calm = absurd shown
ran_unhindered follows bases SourceFault seen ran shown calm = absurd shown
ran_unhindered follows bases (BadTranscript place fault) seen ran shown calm = absurd shown
ran_unhindered follows bases TooLong seen ran shown calm = absurd shown

pub run_unhindered : (follows : Bases → List HistoryEntry → HistoryEntry → Type 0) (bases : Bases) (status : Status) (seen : RunSeen)
    → ServeSays follows bases status seen → HasShown status seen → NothingFailed seen
    → EndsUnhindered follows bases status seen
run_unhindered follows bases status seen (inl shut) shown calm = absurd (nothing_shut status seen shut.0 calm)
run_unhindered follows bases status seen (inr (each, inl wanting)) shown calm =
    subst (λ (s : Status). EndsUnhindered follows bases s seen) (sym wanting.0) (inl wanting.1)
run_unhindered follows bases status seen (inr (each, inr ran)) shown calm =
    ran_unhindered follows bases status seen ran shown calm

-- a history with a cause for the end of the server's connection has no other
no_cause : (cause : UpCause) (history : List HistoryEntry) → fault_in history ≡ Some cause → fault_in history ≡ None → ⊥
no_cause cause history has none = let same : Some cause ≡ None = sym has ∙ none in cc

done_unhindered : (follows : Bases → List HistoryEntry → HistoryEntry → Type 0) (bases : Bases) (status : Status) (seen : RunSeen)
    → (ran : RanTo follows bases status seen) → HasShown status seen → NothingFailed seen
    → fault_in ran.history ≡ None → length ran.desk.places.items < MOST_CONNECTIONS → (status ≡ Done) ⊎ (status ≡ Memory)
done_unhindered follows bases Done seen ran shown calm stands left = inl refl
done_unhindered follows bases Memory seen ran shown calm stands left = inr refl
done_unhindered follows bases (Upstream cause) seen ran shown calm stands left = absurd (no_cause cause ran.history ran.ends stands)
done_unhindered follows bases NumbersSpent seen ran shown calm stands left = let most = ran.ends in absurd (omega arith)
done_unhindered follows bases SinkFault seen ran shown calm stands left = absurd (calm.sink shown)
done_unhindered follows bases ListenFault seen ran shown calm stands left = absurd (calm.listens shown)
done_unhindered follows bases DialFault seen ran shown calm stands left = absurd (calm.dials shown)
done_unhindered follows bases RecordFault seen ran shown calm stands left = absurd (nothing_unrecorded seen shown calm)
done_unhindered follows bases CrewRefused seen ran shown calm stands left = absurd (calm.threads shown)
done_unhindered follows bases AcceptFault seen ran shown calm stands left = absurd (calm.door shown)
done_unhindered follows bases (Usage place) seen ran shown calm stands left = absurd shown
done_unhindered follows bases SourceFault seen ran shown calm stands left = absurd shown
done_unhindered follows bases (BadTranscript place fault) seen ran shown calm stands left = absurd shown
done_unhindered follows bases TooLong seen ran shown calm stands left = absurd shown

pub run_done : (follows : Bases → List HistoryEntry → HistoryEntry → Type 0) (bases : Bases) (status : Status) (seen : RunSeen)
    → (ran : RanTo follows bases status seen) → HasShown status seen → NothingFailed seen
    → fault_in ran.history ≡ None → length ran.desk.places.items < MOST_CONNECTIONS
    → ((status ≡ Done) ⊎ (status ≡ Memory)) × Grows seen.before seen.now (report_text ran.receipts)
run_done follows bases status seen ran shown calm stands left = (
  done_unhindered follows bases status seen ran shown calm stands left,
  all_written seen (report_text ran.receipts) ran.wrote calm.sink,
)
