-- How many receipts there are.
use Rattle.std.proofs.Common.{◌≤◌, ℕ, List, Option}
use Rattle.std.proofs.Math.Logic.{∥∥₁_elim}
use Rattle.std.proofs.Math.Bridge.{le_prop}
use Rattle.gate_transcript.specs.declared.entry.Entry.{Entry as Noted}
use Rattle.gateway_claim.specs.Happenings.{HistoryEntry}
use Rattle.gateway_hub.specs.declared.desk.Desk.{Desk}
use Rattle.hub_queues.specs.declared.limits.TheConstants.{MOST_CONNECTIONS}
use Rattle.gateway_hub.specs.declared.receipts.Receipts.{Receipts}
use Rattle.gateway_hub.specs.Keeps.{Keeps, KeepsSome}
use Rattle.gateway_hub.specs.Receipts.{ClosesWith, receipt_count}

-- there are no more receipts than connections can enter
pub few_receipts : (stands : List HistoryEntry → Type 0) (noted recorded : Option (List Noted)) (faults : ℕ) (desk : Desk) (receipts : Receipts)
    → ∥ KeepsSome stands noted faults desk ∥₁ → ((T : List HistoryEntry) → Keeps stands noted faults desk T → ClosesWith recorded desk receipts T) → receipt_count receipts ≤ MOST_CONNECTIONS
few_receipts stands noted recorded faults desk receipts keeps closes =
    ∥∥₁_elim keeps le_prop (λ (k : KeepsSome stands noted faults desk). (closes k.history k.keeps).bound)
