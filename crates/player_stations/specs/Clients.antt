-- What is left of a player's connection, and why it ended (this project's own).
use Rattle.std.specs.Prelude.{◌≡◌, ℕ, ◌<◌, Bool, true, false, List, length, Option, Some, None}
use Rattle.rtsp_head.specs.Items.{items_of}
use Rattle.client_machine.specs.declared.why.CloseWhy.TheVariants as closes
use Rattle.client_ports.specs.declared.parcel.Parcel.{Parcel}
use Rattle.hub_queues.specs.declared.ending.Ending.TheVariants as endings
use Rattle.hub_queues.specs.declared.receipt.Receipt.{Receipt}
use Rattle.gateway_links.specs.ReadItems.{GaveBytes}
use Rattle.gateway_links.specs.WrittenParcels.{HasWritten}
use Rattle.player_stations.specs.declared.client.ClientWhy.{ClientWhy}
use Rattle.player_stations.specs.declared.client.ClientWhy.TheVariants.{ClientEnd, ReadFault, WriteFault, Slow, Refused, Closed, Ended, Stopped, CrewRefused, Memory}

-- Why the connection ended, as far as its receipt tells.
abbrev pub GoesWithReceipt : ClientWhy → Receipt → Type 0
GoesWithReceipt ClientEnd receipt = Unit {0}
GoesWithReceipt ReadFault receipt = Unit {0}
GoesWithReceipt WriteFault receipt = Unit {0}
GoesWithReceipt Slow receipt = receipt.why ≡ closes.Slow
GoesWithReceipt Refused receipt = receipt.why ≡ closes.BadItem
GoesWithReceipt Closed receipt = (receipt.why ≡ closes.Ended) × (receipt.by_upstream ≡ true)
GoesWithReceipt (Ended cause) receipt = receipt.ending ≡ Some (endings.Upstream cause)
GoesWithReceipt (Stopped why) receipt = receipt.ending ≡ Some (endings.Stopped why)
GoesWithReceipt CrewRefused receipt = Unit {0}
GoesWithReceipt Memory receipt = Unit {0}

-- The player's own end, a fault, a thread that is missing and want of memory are not told by a receipt.
abbrev pub is_hubs : ClientWhy → Bool
is_hubs ClientEnd = false
is_hubs ReadFault = false
is_hubs WriteFault = false
is_hubs Slow = true
is_hubs Refused = true
is_hubs Closed = true
is_hubs (Ended cause) = true
is_hubs (Stopped why) = true
is_hubs CrewRefused = false
is_hubs Memory = false

-- why a player's connection ended goes with its receipt
abbrev pub IfGoesWithReceipt : Option ClientWhy → Receipt → Type 0
IfGoesWithReceipt None receipt = Unit {0}
IfGoesWithReceipt (Some why) receipt = GoesWithReceipt why receipt × (is_hubs why ≡ true)

-- So many items were put: all those of what the inlet gave, where it is told.
pub record CountsAll (first left : Option (List ℕ)) (pushed : ℕ) : Type 0 where
  pub given : List ℕ
  pub gave : GaveBytes first left given
  pub all : pushed ≡ length (items_of given)

-- What was written, where it is told, is the bytes of these parcels that were taken; or the first of them, where the outlet
-- failed.
pub record WroteTaken (written : Option (List ℕ)) (faults : ℕ) (taken : List Parcel) : Type 0 where
  pub failed : Bool
  pub cause : failed ≡ true → 0 < faults
  pub told : HasWritten written taken failed
