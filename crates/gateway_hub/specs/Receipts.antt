-- The receipts that a hub gives when it is closed (this project's own).
use Rattle.std.specs.Prelude.{◌≡◌, ◌≤◌, ℕ, ◌⊎◌, Bool, true, false, List, length, Option, Some, None}
use Rattle.std.specs.List.{slice_get}
use Rattle.rtsp_uri.specs.declared.base.Bases.{Bases}
use Rattle.gate_transcript.specs.declared.entry.Entry.{Entry as Noted}
use Rattle.gateway_claim.specs.Happenings.{HistoryEntry}
use Rattle.gateway_claim.specs.Cores.{IsCoreHistory, ever_entered}
use Rattle.hub_queues.specs.declared.ending.Ending.{Ending}
use Rattle.hub_queues.specs.declared.receipt.Receipt.{Receipt}
use Rattle.gateway_hub.specs.declared.receipts.Receipts.{Receipts}
use Rattle.hub_queues.specs.declared.line.Place.{Place}
use Rattle.hub_queues.specs.declared.line.Place.TheVariants.{Seated, Retired}
use Rattle.gateway_hub.specs.declared.desk.Desk.{Desk}
use Rattle.hub_queues.specs.declared.limits.TheConstants.{MOST_CONNECTIONS}
use Rattle.gateway_hub.specs.Desks.{fall_heard}
use Rattle.gateway_hub.specs.Keeps.{TellsLife}
use Rattle.gateway_hub.specs.Notes.{TellsNotes}
use Rattle.hub_queues.specs.Places.{IsSeated, receipt_at}
use Rattle.gateway_hub.specs.Retire.{receipt_for}

-- the receipts of all connections of a desk
abbrev pub receipts_of : Desk → Receipts
receipts_of desk = record { places = desk.places; fall = fall_heard desk.fall; ending = desk.ending }

-- how many connections entered
abbrev pub receipt_count : Receipts → ℕ
receipt_count receipts = length receipts.places.items

-- the receipt of a connection: the one that was kept, or one with nothing pushed and nothing taken
abbrev pub receipt_in : ℕ → Option Bool → Option Ending → Option Place → Option Receipt
receipt_in i fall ending None = None
receipt_in i fall ending (Some (Seated line)) = Some (receipt_for i line.value 0 0 fall ending)
receipt_in i fall ending (Some (Retired receipt)) = Some receipt

-- the receipt of a connection at the end
abbrev pub last_receipt : Receipts → ℕ → Option Receipt
last_receipt receipts i = receipt_in i receipts.fall receipts.ending (slice_get receipts.places.items i)

-- A connection that was not retired has nothing pushed and nothing taken.
pub record IsUnretired (i : ℕ) (places : List Place) (receipt : Receipt) : Type 0 where
  pub seated : IsSeated i places
  pub pushed : receipt.pushed ≡ 0
  pub taken : receipt.taken ≡ 0

-- Connection i has a receipt, which tells what is so: the one that was kept when it was retired, if it was.
pub record HasReceipt (i : ℕ) (before : Desk) (receipts : Receipts) (history : List HistoryEntry) : Type 0 where
  pub receipt : Receipt
  pub here : last_receipt receipts i ≡ Some receipt
  pub tells : TellsLife i receipt before.fall before.ending history
  pub kept : (receipt_at before.places.items i ≡ Some receipt) ⊎ IsUnretired i before.places.items receipt

-- Each connection that entered has a receipt, and there are no others, nor more than there are numbers; and the history is that of the recorder's entries,
-- where these are told.
pub record ClosesWith (told : Option (List Noted)) (before : Desk) (receipts : Receipts) (history : List HistoryEntry) : Type 0 where
  pub noted : TellsNotes told history
  pub each : (i : ℕ) → ever_entered i history ≡ true → HasReceipt i before receipts history
  pub others : (i : ℕ) → ever_entered i history ≡ false → last_receipt receipts i ≡ None
  pub count : receipt_count receipts ≡ length before.places.items
  pub bound : receipt_count receipts ≤ MOST_CONNECTIONS

-- There is such a history of the core.
pub record ClosesSome (follows : Bases → List HistoryEntry → HistoryEntry → Type 0) (bases : Bases) (told : Option (List Noted)) (before : Desk) (receipts : Receipts) : Type 0 where
  pub history : List HistoryEntry
  pub is_history : IsCoreHistory follows bases history
  pub closes : ClosesWith told before receipts history
