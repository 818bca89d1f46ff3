-- When all connections of a hub are over (this project's own).
use Rattle.std.specs.Prelude.{◌≡◌, ◌≤◌, ℕ, Bool, true, false, ◌&&◌, not, nat_le, is_none, is_some, List, Option, Some}
use Rattle.gateway_claim.specs.Happenings.{HistoryEntry, is_alive}
use Rattle.gateway_claim.specs.Cores.{ever_entered}
use Rattle.hub_queues.specs.declared.ending.Ending.{Ending}
use Rattle.hub_queues.specs.declared.receipt.Receipt.{Receipt}
use Rattle.hub_queues.specs.declared.line.Place.{Place}
use Rattle.hub_queues.specs.declared.line.Place.TheVariants.{Seated, Retired}
use Rattle.hub_queues.specs.Closes.{close_in}
use Rattle.hub_queues.specs.Places.{receipt_at}

-- whether connection i is open: it is alive, and no ending was kept
abbrev pub is_open_by : ℕ → Option Ending → List HistoryEntry → Bool
is_open_by i ending history = is_none ending && is_alive i history

-- whether a connection is over, by its place: it is retired and not alive, and no more arrived than was pushed, and no more
-- was taken than was handed
abbrev pub is_place_over : List HistoryEntry → Place → Bool
is_place_over history (Seated line) = false
is_place_over history (Retired receipt) = not (is_alive receipt.conn history) && (nat_le receipt.arrived receipt.pushed && nat_le receipt.taken receipt.handed)

-- Connection i is over: it was retired, the history closes it, and its receipt has arrived from it no more than was pushed,
-- and taken by it no more than was handed.
pub record IsOver (i : ℕ) (places : List Place) (history : List HistoryEntry) : Type 0 where
  pub receipt : Receipt
  pub retired : receipt_at places i ≡ Some receipt
  pub closed : is_some (close_in i history) ≡ true
  pub arrived : receipt.arrived ≤ receipt.pushed
  pub taken : receipt.taken ≤ receipt.handed

-- Each connection that entered is over.
abbrev pub AreOver : List Place → List HistoryEntry → Type 0
AreOver places history = (i : ℕ) → ever_entered i history ≡ true → IsOver i places history

-- It is told exactly whether they are.
pub record TellsOver (told : Bool) (places : List Place) (history : List HistoryEntry) : Type 0 where
  pub over : told ≡ true → AreOver places history
  pub told_so : AreOver places history → told ≡ true
