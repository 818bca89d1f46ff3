-- A hub to which nothing happened, and a connection that enters (this project's own).
use Rattle.std.specs.Prelude.{◌≡◌, ◌⊎◌, ◌<◌, ◌≤◌, List, [], ◌∷◌, ◌++◌, length, Some, None, Result, Ok, Err}
use Rattle.client_ports.specs.Ends.{put_of, taken_of, fulls_of, capacity_of, OfOnePort}
use Rattle.hub_queues.specs.declared.line.HubConnection.{HubConnection}
use Rattle.hub_queues.specs.declared.line.Place.{Place}
use Rattle.gateway_hub.specs.declared.desk.Desk.{Desk}
use Rattle.gateway_claim.specs.Happenings.{HistoryEntry, entering}
use Rattle.hub_queues.specs.declared.limits.TheConstants.{MOST_CONNECTIONS, INWARD_CAPACITY, OUTWARD_CAPACITY}
use Rattle.hub_queues.specs.declared.ending.Ending.TheVariants.{Stopped}
use Rattle.hub_queues.specs.declared.ending.StopWhy.TheVariants as stops
use Rattle.gateway_hub.specs.declared.fault.HubFault.{HubFault}
use Rattle.gateway_hub.specs.declared.fault.HubFault.TheVariants as faults
use Rattle.gateway_hub.specs.declared.seat.Entered.{Entered}
use Rattle.gateway_hub.specs.Calls.{HubHistories, Stays, Fails}
use Rattle.hub_queues.specs.Places.{line_of}

-- Nothing was put into the ports of a line and nothing taken of them.
pub record IsNewLine (line : HubConnection) : Type 0 where
  pub taken : taken_of line.inward ≡ []
  pub first : line.first ≡ None
  pub put : put_of line.outward ≡ []
  pub fulls : fulls_of line.outward ≡ 0
  pub arrived : line.arrived ≡ 0
  pub close : line.close ≡ None

-- Nothing happened at a desk.
pub record IsFreshDesk (desk : Desk) : Type 0 where
  pub taken : taken_of desk.server.inward ≡ []
  pub first : desk.server.first ≡ None
  pub put : put_of desk.server.outward ≡ []
  pub fulls : fulls_of desk.server.outward ≡ 0
  pub places : desk.places.items ≡ []
  pub fall : desk.fall ≡ None
  pub ending : desk.ending ≡ None

-- The line has the next number.
pub record Seats (line : HubConnection) (before now : Desk) : Type 0 where
  pub server : now.server ≡ before.server
  pub place : Place
  pub is_line : line_of (Some place) ≡ Some line
  pub places : now.places.items ≡ before.places.items ++ place ∷ []
  pub fall : now.fall ≡ before.fall
  pub ending : now.ending ≡ before.ending

-- The ends that a connection is given are the other ends of its line's two ports.
pub record IsGiven (entered : Entered) (line : HubConnection) : Type 0 where
  pub inward : OfOnePort entered.inward line.inward
  pub outward : OfOnePort line.outward entered.outward
  pub inward_capacity : capacity_of entered.inward ≡ INWARD_CAPACITY
  pub outward_capacity : capacity_of line.outward ≡ OUTWARD_CAPACITY
  pub nothing_put : put_of entered.inward ≡ []
  pub nothing_taken : taken_of entered.outward ≡ []

-- All numbers were given, or that was the ending that was kept.
abbrev pub IsSpent : Desk → Type 0
IsSpent desk = ((desk.ending ≡ None) × (MOST_CONNECTIONS ≤ length desk.places.items)) ⊎ (desk.ending ≡ Some (Stopped stops.Spent))

-- A connection entered under the next number; or an ending was kept, or is kept now since all numbers were given; or memory
-- was wanting, or the entering could not be noted.
abbrev pub Enters : Result Entered HubFault → HubHistories → HubHistories → Desk → Desk → Type 0
Enters (Ok entered) kept keeps before now =
    (before.ending ≡ None) × (length before.places.items < MOST_CONNECTIONS) × (entered.seat.conn ≡ length before.places.items) × ((history : List HistoryEntry) → kept history → keeps (entering (length before.places.items) ∷ history))
    × ((line : HubConnection) × IsNewLine line × Seats line before now × IsGiven entered line)
Enters (Err (faults.Stopped stops.Spent)) kept keeps before now = IsSpent before × Stays kept keeps × (now.ending ≡ Some (Stopped stops.Spent))
Enters (Err fault) kept keeps before now = Fails fault kept keeps before.ending now.ending
