-- Why a hub takes no more events (this project's own).
use Rattle.std.specs.Prelude.{◌≡◌, ◌⊎◌, ℕ, Bool, true, false, is_some, Option, Some, None, Result, IfErr}
use Rattle.gate_outside.specs.Causes.{Rose}
use Rattle.gateway_claim.specs.declared.event.UpCause.{UpCause}
use Rattle.gateway_claim.specs.declared.event.UpCause.TheVariants as causes
use Rattle.hub_queues.specs.declared.ending.Ending.{Ending}
use Rattle.hub_queues.specs.declared.ending.Ending.TheVariants.{Upstream, Stopped}
use Rattle.gateway_hub.specs.declared.desk.Fall.{Fall}
use Rattle.gateway_hub.specs.declared.fault.HubFault.{HubFault}
use Rattle.gateway_hub.specs.declared.fault.HubFault.TheVariants as faults
use Rattle.hub_queues.specs.declared.ending.StopWhy.{StopWhy}
use Rattle.hub_queues.specs.declared.ending.StopWhy.TheVariants as stops

-- what a call answers after an ending was kept
abbrev pub fault_of : Ending → HubFault
fault_of (Upstream cause) = faults.Ended cause
fault_of (Stopped why) = faults.Stopped why

-- whether the hub was stopped since an event could not be noted
abbrev pub is_note_stop : StopWhy → Bool
is_note_stop stops.Memory = true
is_note_stop stops.Crew = false
is_note_stop stops.Accept = false
is_note_stop stops.Spent = false
is_note_stop stops.Record = true
is_note_stop stops.DoorEnd = false

-- whether the hub stopped since a note failed
abbrev pub stopped_noting : Option Ending → Bool
stopped_noting None = false
stopped_noting (Some (Upstream cause)) = false
stopped_noting (Some (Stopped why)) = is_note_stop why

-- whether the connection to the server ended since it took its bytes too slowly
abbrev pub fell_full : Option UpCause → Bool
fell_full None = false
fell_full (Some causes.UpFull) = true
fell_full (Some (causes.Framing fault)) = false
fell_full (Some (causes.UnknownReply number)) = false
fell_full (Some (causes.BadGrant number)) = false
fell_full (Some (causes.SessionTaken number)) = false
fell_full (Some causes.CseqSpent) = false
fell_full (Some causes.Ended) = false
fell_full (Some causes.ReadFault) = false
fell_full (Some causes.WriteFault) = false

-- Whether a client may still be owed to be found too slow: the hub was stopped since an event could not be noted, or the
-- connection to the server ended since it was too slow too.
abbrev pub ends_short : Option Ending → Bool
ends_short None = false
ends_short (Some (Upstream cause)) = fell_full (Some cause)
ends_short (Some (Stopped why)) = is_note_stop why

-- whether a note failed by which a client was to be found too slow after the end of the connection to the server
abbrev pub leaves_out : Option Fall → Bool
leaves_out None = false
leaves_out (Some fall) = is_some fall.unnoted

-- Whether a client that is too slow may not be found so: the hub was stopped since an event could not be noted, or the
-- client's own note failed after the end of the connection to the server.
abbrev pub cut_short : Option Fall → Option Ending → Bool
cut_short fall None = false
cut_short fall (Some (Upstream cause)) = leaves_out fall
cut_short fall (Some (Stopped why)) = is_note_stop why

-- whether the hub was stopped
abbrev pub is_stopped : Option Ending → Bool
is_stopped None = false
is_stopped (Some (Upstream cause)) = false
is_stopped (Some (Stopped why)) = true

-- Where the hub is stopped since its recorder failed, it was before, or the recorder's count of faults rose since then.
abbrev pub ShowsFault : Option Ending → Option Ending → ℕ → ℕ → Type 0
ShowsFault before now faults_before faults_now = now ≡ Some (Stopped stops.Record) → (before ≡ Some (Stopped stops.Record)) ⊎ Rose faults_before faults_now

-- A call answered that the recorder failed only where the recorder's count of faults rose.
abbrev pub FailsShown : {A : Type 0} → Result A HubFault → ℕ → ℕ → Type 0
FailsShown result faults_before faults_now = IfErr result (λ fault. fault ≡ faults.RecordFault → Rose faults_before faults_now)
