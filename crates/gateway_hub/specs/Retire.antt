-- A connection is retired (this project's own).
use Rattle.std.specs.Prelude.{◌≡◌, ◌⊎◌, ℕ, Bool, true, false, is_some, List, [], ◌∷◌, ◌++◌, length, Option, Some, None}
use Rattle.std.specs.Prelude.{slice_set}
use Rattle.std.specs.Option.{option_or}
use Rattle.client_machine.specs.declared.why.CloseWhy.TheVariants as whys
use Rattle.client_ports.specs.Ends.{put_of}
use Rattle.gateway_claim.specs.declared.event.Outcome.{Outcome}
use Rattle.gateway_claim.specs.Happenings.{ends, HistoryEntry, is_alive}
use Rattle.hub_queues.specs.declared.ending.Ending.{Ending}
use Rattle.hub_queues.specs.declared.receipt.Receipt.{Receipt}
use Rattle.hub_queues.specs.declared.line.HubConnection.{HubConnection}
use Rattle.hub_queues.specs.declared.line.Place.{Place}
use Rattle.hub_queues.specs.declared.line.Place.TheVariants.{Retired}
use Rattle.gateway_hub.specs.declared.desk.Desk.{Desk}
use Rattle.gateway_hub.specs.Calls.{HubHistories}
use Rattle.gateway_hub.specs.Ends.{EachLine, PutsNothing}
use Rattle.hub_queues.specs.Closes.{fall_close}
use Rattle.gateway_hub.specs.Keeps.{close_why, by_upstream_of}
use Rattle.hub_queues.specs.Places.{IsSeated, line_at, receipt_at}
use Rattle.gateway_hub.specs.Take.{AreLate}

-- the receipt of a connection that has this line, with what its ends came back with
abbrev pub receipt_for : ℕ → HubConnection → ℕ → ℕ → Option Bool → Option Ending → Receipt
receipt_for conn line pushed taken fall ending = record {
  conn = conn;
  pushed = pushed;
  arrived = line.arrived;
  handed = line.outward.count;
  taken = taken;
  why = close_why (option_or line.close (fall_close fall));
  by_upstream = by_upstream_of (option_or line.close (fall_close fall));
  ending = ending;
}

-- the receipt of a connection that the hub does not know, or has retired
abbrev pub stranger_receipt : ℕ → ℕ → ℕ → Option Ending → Receipt
stranger_receipt conn pushed taken ending =
    record { conn = conn; pushed = pushed; arrived = 0; handed = 0; taken = taken; why = whys.Ended; by_upstream = false; ending = ending }

-- A connection that has a line has its receipt in place of it; where it has none nothing changes.
abbrev pub RetiresBy : ℕ → ℕ → ℕ → Option Bool → Option Ending → Receipt → List Place → List Place → Option HubConnection → Type 0
RetiresBy conn pushed taken fall ending receipt before now None = (now ≡ before) × (receipt ≡ stranger_receipt conn pushed taken ending)
RetiresBy conn pushed taken fall ending receipt before now (Some line) = (now ≡ slice_set before conn (Retired receipt)) × (receipt ≡ receipt_for conn line pushed taken fall ending)

-- one connection is retired
abbrev pub RetiresPlace : ℕ → ℕ → ℕ → Option Bool → Option Ending → Receipt → List Place → List Place → Type 0
RetiresPlace conn pushed taken fall ending receipt before now = RetiresBy conn pushed taken fall ending receipt before now (line_at before conn)

-- What a history has more: the end of this connection, and then what full ports asked for.
pub record EndsConnection (conn : ℕ) (more : List HistoryEntry) : Type 0 where
  pub outcome : Outcome
  pub later : List HistoryEntry
  pub late : AreLate later
  pub whole : more ≡ later ++ record { happening = ends conn; outcome = outcome } ∷ []

-- Nothing, or that.
abbrev pub AddsEnd : ℕ → List HistoryEntry → Type 0
AddsEnd conn more = (more ≡ []) ⊎ EndsConnection conn more

-- A connection is not ended where an ending was kept, or where it is not alive.
abbrev pub IsUnended : ℕ → Option Ending → List HistoryEntry → Type 0
IsUnended conn ending history = (is_some ending ≡ true) ⊎ (is_alive conn history ≡ false)

-- A connection that is alive was ended first, unless an ending was kept. No client was handed anything.
pub record EndsFirst (conn : ℕ) (kept keeps : HubHistories) (before now : Desk) : Type 0 where
  pub more : List HistoryEntry
  pub adds : AddsEnd conn more
  pub idle : (history : List HistoryEntry) → kept history → IsUnended conn before.ending history → more ≡ []
  pub kept_so : (history : List HistoryEntry) → kept history → keeps (more ++ history)
  pub over : (history : List HistoryEntry) → kept history → now.ending ≡ None → is_alive conn (more ++ history) ≡ false
  pub seats : (history : List HistoryEntry) → kept history → IsSeated conn before.places.items → IsSeated conn now.places.items
  pub unhanded : (history : List HistoryEntry) → kept history → EachLine PutsNothing before.places.items now.places.items
  pub none : (history : List HistoryEntry) → kept history → line_at before.places.items conn ≡ None → (now ≡ before) × (more ≡ [])

-- A connection was retired. Where it had a line, its receipt tells what is so, and is kept: it was handed as many parcels as
-- the hub's end of its line has put. Where it had none, the receipt tells of its ends alone, and nothing is kept.
abbrev pub RetiresLine : ℕ → ℕ → ℕ → Option HubConnection → Receipt → Desk → Type 0
RetiresLine conn pushed taken None receipt now = receipt ≡ stranger_receipt conn pushed taken now.ending
RetiresLine conn pushed taken (Some line) receipt now = (receipt_at now.places.items conn ≡ Some receipt) × (receipt.pushed ≡ pushed) × (receipt.taken ≡ taken) × (receipt.handed ≡ length (put_of line.outward)) × (receipt.ending ≡ now.ending)

-- Nothing changed.
pub record IsSameDesk (before now : Desk) : Type 0 where
  pub server : now.server ≡ before.server
  pub places : now.places.items ≡ before.places.items
  pub fall : now.fall ≡ before.fall
  pub ending : now.ending ≡ before.ending

-- The history has nothing more, or the end of the connection and what full ports asked for; nothing where an ending was kept
-- or the connection is not alive. Where it had no line nothing changed. The receipt has the connection's number and what its
-- two ends came back with, whether the hub knew the connection or not.
pub record RetiresSo (conn pushed taken : ℕ) (receipt : Receipt) (kept keeps : HubHistories) (before now : Desk) : Type 0 where
  pub more : List HistoryEntry
  pub adds : AddsEnd conn more
  pub idle : (history : List HistoryEntry) → kept history → IsUnended conn before.ending history → more ≡ []
  pub keeps_so : (history : List HistoryEntry) → kept history → keeps (more ++ history)
  pub receipt_so : (history : List HistoryEntry) → kept history → RetiresLine conn pushed taken (line_at before.places.items conn) receipt now
  pub stranger : (history : List HistoryEntry) → kept history → line_at before.places.items conn ≡ None → IsSameDesk before now × (more ≡ [])
  pub number : receipt.conn ≡ conn
  pub all_pushed : receipt.pushed ≡ pushed
  pub all_taken : receipt.taken ≡ taken
