-- What a hub keeps, with a history of its core (this project's own).
use Rattle.std.specs.Prelude.{◌≡◌, ℕ, ◌<◌, ◌≤◌, ◌⊎◌, ◌++◌, ◌==◌, ◌||◌, Bool, true, false, List, [], ◌∷◌, length, Option, Some, None}
use Rattle.rtsp_uri.specs.declared.base.Bases.{Bases}
use Rattle.client_machine.specs.declared.why.CloseWhy.{CloseWhy}
use Rattle.client_machine.specs.declared.why.CloseWhy.TheVariants as whys
use Rattle.gate_transcript.specs.declared.entry.Entry.{Entry as Noted}
use Rattle.client_ports.specs.declared.parcel.Parcel.{Parcel}
use Rattle.client_ports.specs.Ends.{put_of, taken_of, fulls_of}
use Rattle.gateway_claim.specs.Happenings.{HistoryEntry, entered, sent, is_alive, fault_in}
use Rattle.gateway_claim.specs.Cores.{NoneWaits, ever_entered}
use Rattle.std.specs.Option.{option_or}
use Rattle.hub_queues.specs.declared.ending.Ending.{Ending}
use Rattle.hub_queues.specs.declared.ending.Ending.TheVariants.{Upstream, Stopped}
use Rattle.hub_queues.specs.declared.ending.StopWhy.TheVariants.{Spent, Record}
use Rattle.hub_queues.specs.declared.limits.TheConstants.{MOST_CONNECTIONS}
use Rattle.hub_queues.specs.declared.receipt.Close.{Close}
use Rattle.hub_queues.specs.declared.receipt.Receipt.{Receipt}
use Rattle.hub_queues.specs.declared.line.HubConnection.{HubConnection}
use Rattle.hub_queues.specs.declared.line.Place.{Place}
use Rattle.hub_queues.specs.declared.server.Server.{Server}
use Rattle.gateway_hub.specs.declared.desk.Desk.{Desk}
use Rattle.gateway_hub.specs.declared.desk.Fall.{Fall}
use Rattle.hub_queues.specs.Closes.{close_in, fall_in, fall_close, lagged}
use Rattle.gateway_hub.specs.Desks.{fall_heard}
use Rattle.gateway_hub.specs.Endings.{stopped_noting, fell_full, cut_short, ends_short}
use Rattle.gateway_hub.specs.Notes.{TellsNotes}
use Rattle.hub_queues.specs.Parcels.{items_in, waiting, arrivals, heard_items, as_parcels, handed_up}
use Rattle.hub_queues.specs.Places.{line_at, receipt_at, Lacks, IsRefused}

-- The core stands for this history, and no request of any connection waits in it. A hub takes an item of a client only where
-- its connection is not busy, so what a client sends too early stays in its port.
pub record StandsIdle {M : Type 0} (stands : M → List HistoryEntry → Type 0) (waits : Bases → ℕ → List HistoryEntry → ℕ) (bases_of : M → Bases) (core : M) (history : List HistoryEntry) : Type 0 where
  pub stood : stands core history
  pub none_waits : NoneWaits (waits (bases_of core)) history

-- The items that were taken as events, and the one that is first in line, are those that the hub took of each port.
abbrev pub TookItems : List Place → List HistoryEntry → Type 0
TookItems places came = (i : ℕ) (line : HubConnection) → line_at places i ≡ Some line → arrivals i came ++ waiting line.first ≡ items_in (taken_of line.inward)

-- the server's items that came are those that were taken of its port
abbrev pub TookServerItems : Server → List HistoryEntry → Type 0
TookServerItems server came = heard_items came ++ waiting server.first ≡ items_in (taken_of server.inward)

-- What was put for a connection is what the history hands it; or, where its port was full once, all but the last piece. It
-- was found too slow only where its port was full.
pub record IsHanded (i : ℕ) (put : List Parcel) (fulls : ℕ) (history : List HistoryEntry) : Type 0 where
  pub whole : fulls ≡ 0 → put ≡ as_parcels (sent i history)
  pub cut : 0 < fulls → (last : List ℕ) × (earlier : List (List ℕ)) × (sent i history ≡ last ∷ earlier) × (put ≡ as_parcels earlier)
  pub slow : lagged i history ≡ true → 0 < fulls

-- What was put for the server is what the history hands it; or, where its port was full once, that without its end. Its
-- connection ended since it was too slow only where the port was full.
pub record IsHandedUp (put : List Parcel) (fulls : ℕ) (history : List HistoryEntry) : Type 0 where
  pub whole : fulls ≡ 0 → put ≡ handed_up history
  pub cut : 0 < fulls → Lacks (handed_up history) put
  pub full : fell_full (fault_in history) ≡ true → 0 < fulls

-- how a connection was closed, and whether at an item of the server, as a receipt has it
abbrev pub close_why : Option Close → CloseWhy
close_why None = whys.Ended
close_why (Some close) = close.why

-- whether a close came with an item of the server
abbrev pub by_upstream_of : Option Close → Bool
by_upstream_of None = false
by_upstream_of (Some close) = close.by_upstream

-- whether a full port of a client is accounted for: the client was found too slow, or a note failed, by which the hub was
-- stopped or which is kept with the end of the connection to the server, or it is this client's turn to be found too slow
abbrev pub is_owed : Option ℕ → ℕ → Bool
is_owed None i = false
is_owed (Some conn) i = conn == i

-- whether something is missing of what a connection was handed
abbrev pub is_excused : ℕ → Option ℕ → Option Fall → Option Ending → List HistoryEntry → Bool
is_excused i owed fall ending history = lagged i history || (cut_short fall ending || is_owed owed i)

-- and one of the server
abbrev pub is_server_excused : Bool → Option Ending → List HistoryEntry → Bool
is_server_excused owed ending history = fell_full (fault_in history) || (stopped_noting ending || owed)

-- What a receipt tells of what went through for connection i is so.
pub record TellsLife (i : ℕ) (receipt : Receipt) (fall : Option Fall) (ending : Option Ending) (history : List HistoryEntry) : Type 0 where
  pub conn : receipt.conn ≡ i
  pub arrived : receipt.arrived ≡ length (arrivals i history)
  pub put : List Parcel
  pub fulls : ℕ
  pub handed : receipt.handed ≡ length put
  pub is_handed : IsHanded i put fulls history
  pub excused : 0 < fulls → is_excused i None fall ending history ≡ true
  pub why : receipt.why ≡ close_why (close_in i history)
  pub by_upstream : receipt.by_upstream ≡ by_upstream_of (close_in i history)

-- And the connection is retired: it is not alive any more, unless an ending was kept.
pub record IsReceipt (i : ℕ) (receipt : Receipt) (fall : Option Fall) (ending : Option Ending) (history : List HistoryEntry) : Type 0 where
  pub tells : TellsLife i receipt fall ending history
  pub over : ending ≡ None → is_alive i history ≡ false

-- Nothing came from a connection, nothing was handed to it, and it was not closed.
pub record HadNothing (i : ℕ) (history : List HistoryEntry) : Type 0 where
  pub came : arrivals i history ≡ []
  pub handed : sent i history ≡ []
  pub closed : close_in i history ≡ None

-- Connections are numbered from 0 in order, as far as there are numbers, and entered while the connection to the server
-- stood. Those that were found too slow are some of them, and not alive.
pub record AreNumbered (count : ℕ) (history : List HistoryEntry) : Type 0 where
  pub bound : count ≤ MOST_CONNECTIONS
  pub old : (i : ℕ) → i < count → entered i history ≡ true
  pub new : (i : ℕ) → count ≤ i → ever_entered i history ≡ false
  pub slow : (i : ℕ) → lagged i history ≡ true → (i < count) × (is_alive i history ≡ false)
  pub none : (i : ℕ) → count ≤ i → HadNothing i history

-- What stands while events are taken: the items came by the one history, and all else is by the other.
pub record Underway (stands : List HistoryEntry → Type 0) (told : Option (List Noted)) (desk : Desk) (came history : List HistoryEntry) : Type 0 where
  pub stood : stands history
  pub noted : TellsNotes told history
  pub took : TookItems desk.places.items came
  pub took_up : TookServerItems desk.server came
  pub arrived : (i : ℕ) (line : HubConnection) → line_at desk.places.items i ≡ Some line → line.arrived ≡ length (arrivals i history)
  pub closed : (i : ℕ) (line : HubConnection) → line_at desk.places.items i ≡ Some line → close_in i history ≡ option_or line.close (fall_close (fall_heard desk.fall))
  pub fell : fall_heard desk.fall ≡ fall_in history
  pub handed : (i : ℕ) (line : HubConnection) → line_at desk.places.items i ≡ Some line → IsHanded i (put_of line.outward) (fulls_of line.outward) history
  pub up_handed : IsHandedUp (put_of desk.server.outward) (fulls_of desk.server.outward) history
  pub receipts : (i : ℕ) (receipt : Receipt) → receipt_at desk.places.items i ≡ Some receipt → IsReceipt i receipt desk.fall desk.ending history
  pub numbered : AreNumbered (length desk.places.items) history

-- Each full port is accounted for, but for those that are owed.
pub record ArePortsSettled (client : Option ℕ) (server : Bool) (desk : Desk) (history : List HistoryEntry) : Type 0 where
  pub clients : (i : ℕ) (line : HubConnection) → line_at desk.places.items i ≡ Some line → 0 < fulls_of line.outward → is_excused i client desk.fall desk.ending history ≡ true
  pub up : 0 < fulls_of desk.server.outward → is_server_excused server desk.ending history ≡ true

-- An ending that is kept has its cause.
abbrev pub EndsRightly : ℕ → ℕ → Option Ending → List HistoryEntry → Type 0
EndsRightly faults count None history = fault_in history ≡ None
EndsRightly faults count (Some (Upstream cause)) history = fault_in history ≡ Some cause
EndsRightly faults count (Some (Stopped why)) history = (why ≡ Record → 0 < faults) × (why ≡ Spent → MOST_CONNECTIONS ≤ count)

-- A client may be owed while events are taken, or where it will not be found too slow any more.
abbrev pub MayOwe : Option Ending → Type 0
MayOwe ending = (ending ≡ None) ⊎ (ends_short ending ≡ true)

-- What a hub keeps, where these full ports are still owed.
pub record KeepsOwing (client : Option ℕ) (server : Bool) (stands : List HistoryEntry → Type 0) (told : Option (List Noted)) (faults : ℕ) (desk : Desk) (history : List HistoryEntry) : Type 0 where
  pub underway : Underway stands told desk history history
  pub settled : ArePortsSettled client server desk history
  pub cause : EndsRightly faults (length desk.places.items) desk.ending history
  pub owed : (conn : ℕ) → client ≡ Some conn → IsRefused conn desk.places.items × MayOwe desk.ending
  pub owed_up : server ≡ true → (desk.ending ≡ None) × (0 < fulls_of desk.server.outward)

-- what a hub keeps between its calls
abbrev pub Keeps : (List HistoryEntry → Type 0) → Option (List Noted) → ℕ → Desk → List HistoryEntry → Type 0
Keeps stands told faults desk history = KeepsOwing None false stands told faults desk history

-- there is a history with which it keeps that
pub record KeepsSome (stands : List HistoryEntry → Type 0) (told : Option (List Noted)) (faults : ℕ) (desk : Desk) : Type 0 where
  pub history : List HistoryEntry
  pub keeps : Keeps stands told faults desk history
