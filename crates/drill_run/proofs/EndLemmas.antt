-- How a drill ends where the sink does not fail.
use Rattle.std.proofs.Common.{◌≡◌, ℕ, List, Option, refl}
use Rattle.gate_outside.specs.Causes.{Rose}
use Rattle.gateway_claim.specs.Happenings.{HistoryEntry}
use Rattle.run_status.specs.declared.status.Status.{Status}
use Rattle.run_status.specs.declared.status.Status.TheVariants.{Done, Usage, SourceFault, SinkFault, BadTranscript, TooLong, Memory, Upstream, ListenFault, RecordFault, CrewRefused, AcceptFault, DialFault, NumbersSpent}
use Rattle.drill_run.specs.Reports.{DrillSays, EndsDrill}

pub ends_drill : (made : List HistoryEntry → Type 0) (players number : ℕ) (status : Status) (before now : Option (List ℕ)) (sink_before sink_now : ℕ)
    → DrillSays made players number status before now → (status ≡ SinkFault → Rose sink_before sink_now) → (Rose sink_before sink_now → ⊥)
    → EndsDrill made players number status before now
ends_drill made players number Done before now a b says rose sink = says
ends_drill made players number Memory before now a b says rose sink = says
ends_drill made players number SinkFault before now a b says rose sink = absurd (sink (rose refl))
ends_drill made players number (Usage place) before now a b says rose sink = absurd says
ends_drill made players number SourceFault before now a b says rose sink = absurd says
ends_drill made players number (BadTranscript place fault) before now a b says rose sink = absurd says
ends_drill made players number TooLong before now a b says rose sink = absurd says
ends_drill made players number (Upstream cause) before now a b says rose sink = absurd says
ends_drill made players number ListenFault before now a b says rose sink = absurd says
ends_drill made players number RecordFault before now a b says rose sink = absurd says
ends_drill made players number CrewRefused before now a b says rose sink = absurd says
ends_drill made players number AcceptFault before now a b says rose sink = absurd says
ends_drill made players number DialFault before now a b says rose sink = absurd says
ends_drill made players number NumbersSpent before now a b says rose sink = absurd says
