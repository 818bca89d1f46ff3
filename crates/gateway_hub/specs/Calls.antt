-- What the calls of a hub do (this project's own). What a hub keeps is given as a relation to histories, before a call and
-- after it.
use Rattle.std.specs.Prelude.{◌≡◌, ℕ, Bool, true, false, List, ◌∷◌, ◌++◌, Option, Some, None, Result, Ok, Err}
use Rattle.std.specs.Global.{Vec}
use Rattle.rtsp_head.specs.Items.{Shape}
use Rattle.gate_transcript.specs.declared.recorder.NoteFault.{NoteFault}
use Rattle.gate_transcript.specs.declared.recorder.NoteFault.TheVariants as notes
use Rattle.client_ports.specs.Ends.{WasEmpty}
use Rattle.gateway_claim.specs.declared.event.Event.{Event}
use Rattle.gateway_claim.specs.declared.event.Event.TheVariants.{Client, Up, End, Slow, UpEnd}
use Rattle.gateway_claim.specs.declared.event.Outcome.{Outcome}
use Rattle.gate_transcript.specs.declared.entry.UpWhy.{UpWhy}
use Rattle.gateway_claim.specs.Happenings.{Happening, takes, ends, hears, up_ends, HistoryEntry, is_alive}
use Rattle.hub_queues.specs.declared.ending.Ending.{Ending}
use Rattle.hub_queues.specs.declared.ending.Ending.TheVariants.{Upstream, Stopped}
use Rattle.gateway_hub.specs.declared.fault.HubFault.{HubFault}
use Rattle.gateway_hub.specs.declared.fault.HubFault.TheVariants as faults
use Rattle.hub_queues.specs.declared.ending.StopWhy.TheVariants as stops
use Rattle.gateway_hub.specs.declared.seat.Taken.{Taken}
use Rattle.gateway_hub.specs.declared.seat.Taken.TheVariants.{Done, Empty, Busy, Closed}
use Rattle.hub_queues.specs.declared.line.HubConnection.{HubConnection}
use Rattle.hub_queues.specs.declared.line.Place.{Place}
use Rattle.hub_queues.specs.declared.server.Server.{Server}
use Rattle.gateway_hub.specs.declared.desk.Desk.{Desk}
use Rattle.hub_queues.specs.Places.{LineChanges, PutsFirst, line_at}
use Rattle.hub_queues.specs.Servers.{PutsFirstUp}
use Rattle.gateway_hub.specs.Take.{AreLate, Stops}

-- The item of an event that was not taken is first in line again.
abbrev pub BackInLine : Event → Vec Place → Vec Place → Type 0
BackInLine (Client conn item) before now = LineChanges conn (PutsFirst item) before.items now.items
BackInLine (Up item) before now = now ≡ before
BackInLine (End conn) before now = now ≡ before
BackInLine (Slow conn) before now = now ≡ before
BackInLine (UpEnd why) before now = now ≡ before

-- an item of the server that was refused is first in line again
abbrev pub BackInServerLine : Event → Server → Server → Type 0
BackInServerLine (Client conn item) before now = now ≡ before
BackInServerLine (Up item) before now = PutsFirstUp item before now
BackInServerLine (End conn) before now = now ≡ before
BackInServerLine (Slow conn) before now = now ≡ before
BackInServerLine (UpEnd why) before now = now ≡ before

-- an event that was refused left all as it was, but that its item is first in line again
pub record GivesBack (event : Event) (before now : Desk) : Type 0 where
  pub lines : BackInLine event before.places now.places
  pub server : BackInServerLine event before.server now.server
  pub fall : now.fall ≡ before.fall
  pub ending : now.ending ≡ before.ending

-- What is answered where an event could not be planned or noted. Where the note failed, the hub is stopped.
abbrev pub Refuses : NoteFault → HubFault → Desk → Desk → Type 0
Refuses notes.Memory fault before now = (fault ≡ faults.Memory) × (now ≡ before)
Refuses notes.Failed fault before now = (fault ≡ faults.RecordFault) × Stops stops.Record before now

-- what holds of the histories of a hub
abbrev pub HubHistories : Type 1
HubHistories = List HistoryEntry → Type 0

-- What the hub kept, it keeps with the same history.
abbrev pub Stays : HubHistories → HubHistories → Type 0
Stays kept keeps = (history : List HistoryEntry) → kept history → keeps history

-- The history has this event more, and those that full ports asked for.
pub record GrowsBy (happening : Happening) (kept keeps : HubHistories) : Type 0 where
  pub outcome : Outcome
  pub later : List HistoryEntry
  pub late : AreLate later
  pub grows : (history : List HistoryEntry) → kept history → keeps (later ++ record { happening = happening; outcome = outcome } ∷ history)

-- What a call answers that did nothing: an ending was kept before, or the event could not be planned or noted, which stopped
-- the hub where the recorder failed.
abbrev pub Fails : HubFault → HubHistories → HubHistories → Option Ending → Option Ending → Type 0
Fails (faults.Ended cause) kept keeps before now = (before ≡ Some (Upstream cause)) × Stays kept keeps × (now ≡ before)
Fails (faults.Stopped why) kept keeps before now = (before ≡ Some (Stopped why)) × Stays kept keeps × (now ≡ before)
Fails faults.RecordFault kept keeps before now = (before ≡ None) × Stays kept keeps × (now ≡ Some (Stopped stops.Record))
Fails faults.Memory kept keeps before now = (before ≡ None) × Stays kept keeps × (now ≡ None)

-- The client of this connection put nothing that was not taken: its port was empty at one moment.
pub record IsEmptyLine (conn : ℕ) (places : List Place) : Type 0 where
  pub line : HubConnection
  pub at : line_at places conn ≡ Some line
  pub none : line.first ≡ None
  pub empty : WasEmpty line.inward

-- The first item in line of a connection was taken, or why not: the connection is not alive, a request of it is open, or
-- none was in line.
abbrev pub TakesFirst : ℕ → (List HistoryEntry → Bool) → Result Taken HubFault → HubHistories → HubHistories → Desk → Desk → Type 0
TakesFirst conn busy (Ok Done) kept keeps before now =
    (before.ending ≡ None) × ((history : List HistoryEntry) → kept history → (is_alive conn history ≡ true) × (busy history ≡ false)) × ((item : Shape) × GrowsBy (takes conn item) kept keeps)
TakesFirst conn busy (Ok Empty) kept keeps before now =
    (before.ending ≡ None) × ((history : List HistoryEntry) → kept history → (is_alive conn history ≡ true) × (busy history ≡ false)) × Stays kept keeps × ((history : List HistoryEntry) → kept history → IsEmptyLine conn now.places.items)
TakesFirst conn busy (Ok Busy) kept keeps before now =
    (before.ending ≡ None) × ((history : List HistoryEntry) → kept history → (is_alive conn history ≡ true) × (busy history ≡ true)) × Stays kept keeps
TakesFirst conn busy (Ok Closed) kept keeps before now =
    (before.ending ≡ None) × ((history : List HistoryEntry) → kept history → is_alive conn history ≡ false) × Stays kept keeps
TakesFirst conn busy (Err fault) kept keeps before now = Fails fault kept keeps before.ending now.ending

-- The first item in line of the server was taken, or none was in line.
abbrev pub TakesFirstUp : Result Bool HubFault → HubHistories → HubHistories → Desk → Desk → Type 0
TakesFirstUp (Ok true) kept keeps before now = (before.ending ≡ None) × ((item : Shape) × GrowsBy (hears item) kept keeps)
TakesFirstUp (Ok false) kept keeps before now = (before.ending ≡ None) × Stays kept keeps × (now.server.first ≡ None) × WasEmpty now.server.inward
TakesFirstUp (Err fault) kept keeps before now = Fails fault kept keeps before.ending now.ending

-- A connection ended; nothing happened where the number was never given or is retired.
abbrev pub Shuts : ℕ → Option HubConnection → Result (Unit {0}) HubFault → HubHistories → HubHistories → Desk → Desk → Type 0
Shuts conn None (Ok u) kept keeps before now = (before.ending ≡ None) × Stays kept keeps × (now ≡ before)
Shuts conn (Some line) (Ok u) kept keeps before now = (before.ending ≡ None) × GrowsBy (ends conn) kept keeps
Shuts conn line (Err fault) kept keeps before now = Fails fault kept keeps before.ending now.ending

-- The connection to the server ended.
abbrev pub ShutsUp : UpWhy → Result (Unit {0}) HubFault → HubHistories → HubHistories → Desk → Desk → Type 0
ShutsUp why (Ok u) kept keeps before now = (before.ending ≡ None) × GrowsBy (up_ends why) kept keeps
ShutsUp why (Err fault) kept keeps before now = Fails fault kept keeps before.ending now.ending
