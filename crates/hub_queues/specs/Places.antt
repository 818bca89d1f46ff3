-- The connections of a hub by their numbers, and how a call changes one of them (this project's own).
use Rattle.std.specs.Prelude.{◌≡◌, ℕ, Bool, true, false, ◌==◌, ◌<◌, ◌+◌, List, ◌∷◌, ◌++◌, [], length, Option, Some, None, if◌then◌else◌}
use Rattle.std.specs.List.{slice_get}
use Rattle.std.specs.Option.{option_or}
use Rattle.client_ports.specs.declared.parcel.Parcel.{Parcel}
use Rattle.client_ports.specs.declared.parcel.Parcel.TheVariants as parcels
use Rattle.rtsp_head.specs.declared.item.Item.{Item}
use Rattle.rtsp_head.specs.Items.{Shape}
use Rattle.client_ports.specs.declared.putter.Putter.{Putter}
use Rattle.client_ports.specs.declared.taker.Taker.{Taker}
use Rattle.client_ports.specs.Ends.{put_of, taken_of, fulls_of, takers_port, KeepsPutter, WasEmpty}
use Rattle.client_ports.specs.Rule.{BeginsIn}
use Rattle.gateway_claim.specs.declared.event.ToClient.{ToClient}
use Rattle.gateway_claim.specs.declared.event.Closed.{Closed}
use Rattle.gateway_claim.specs.declared.event.Closed.TheVariants.{Nobody, One, All}
use Rattle.hub_queues.specs.declared.receipt.Receipt.{Receipt}
use Rattle.hub_queues.specs.declared.receipt.Close.{Close}
use Rattle.hub_queues.specs.declared.line.HubConnection.{HubConnection}
use Rattle.hub_queues.specs.declared.line.Place.{Place}
use Rattle.hub_queues.specs.declared.line.Place.TheVariants.{Seated, Retired}
use Rattle.hub_queues.specs.Closes.{closing}
use Rattle.hub_queues.specs.Parcels.{items_in, waiting}

-- what is kept of a connection that is not retired
abbrev pub line_of : Option Place → Option HubConnection
line_of None = None
line_of (Some (Seated line)) = Some line.value
line_of (Some (Retired receipt)) = None

-- the receipt of one that is
abbrev pub receipt_of : Option Place → Option Receipt
receipt_of None = None
receipt_of (Some (Seated line)) = None
receipt_of (Some (Retired receipt)) = Some receipt

-- the line of a connection that is not retired, and the receipt of one that is
abbrev pub line_at : List Place → ℕ → Option HubConnection
line_at places i = line_of (slice_get places i)

-- the receipt of a connection that is retired
abbrev pub receipt_at : List Place → ℕ → Option Receipt
receipt_at places i = receipt_of (slice_get places i)

-- A line that is there changes so, if at all.
abbrev pub Changes : {A : Type 0} → Bool → (A → A → Type 0) → Option A → Option A → Type 0
Changes false change before now = now ≡ before
Changes true change None now = now ≡ None
Changes {A = A} true change (Some line) now = (changed : A) × (now ≡ Some changed) × change line changed

-- The line of this connection changes so, where it is there, and nothing else changes.
pub record LineChanges (conn : ℕ) (change : HubConnection → HubConnection → Type 0) (before now : List Place) : Type 0 where
  pub lines : (i : ℕ) → Changes (conn == i) change (line_at before i) (line_at now i)
  pub receipts : (i : ℕ) → receipt_at now i ≡ receipt_at before i
  pub size : length now ≡ length before

-- One parcel was put, or the port was full and nothing was.
abbrev pub put_as : Bool → List Parcel → Parcel → List Parcel
put_as full put parcel = if full then put else put ++ parcel ∷ []

-- bytes were put into a port, unless it was full
pub record PutsInto (bytes : List ℕ) (full : Bool) (before now : Putter) : Type 0 where
  pub end : KeepsPutter before now
  pub put : put_of now ≡ put_as full (put_of before) (parcels.Bytes bytes)
  pub landed : full ≡ false → fulls_of now ≡ fulls_of before
  pub refused : full ≡ true → 0 < fulls_of now

-- These parcels were put, or the port was full for one of them, and those from it on lack.
pub record Lacks (all put : List Parcel) : Type 0 where
  pub first : Parcel
  pub later : List Parcel
  pub whole : put ++ first ∷ later ≡ all

-- parcels were put into a port, or all but the last of them where it was full
pub record PutsAll (parcels : List Parcel) (full : Bool) (before now : Putter) : Type 0 where
  pub end : KeepsPutter before now
  pub front : BeginsIn (put_of before) (put_of now)
  pub none : parcels ≡ [] → full ≡ false
  pub landed : full ≡ false → (put_of now ≡ put_of before ++ parcels) × (fulls_of now ≡ fulls_of before)
  pub refused : full ≡ true → Lacks (put_of before ++ parcels) (put_of now) × (0 < fulls_of now)

-- A line's end in the port for its client was used: the bytes were put, or the port was full.
pub record PutsBytes (bytes : List ℕ) (full : Bool) (before now : HubConnection) : Type 0 where
  pub inward : now.inward ≡ before.inward
  pub first : now.first ≡ before.first
  pub arrived : now.arrived ≡ before.arrived
  pub close : now.close ≡ before.close
  pub outward : PutsInto bytes full before.outward now.outward

-- A line counted one arrival more, where the parcels that it took allow one.
pub record CountsItem (before now : HubConnection) : Type 0 where
  pub inward : now.inward ≡ before.inward
  pub first : now.first ≡ before.first
  pub arrived : before.arrived < before.inward.count → now.arrived ≡ before.arrived + 1
  pub close : now.close ≡ before.close
  pub outward : now.outward ≡ before.outward

-- A line that was not closed is closed so.
pub record Closes (how : Close) (before now : HubConnection) : Type 0 where
  pub inward : now.inward ≡ before.inward
  pub first : now.first ≡ before.first
  pub arrived : now.arrived ≡ before.arrived
  pub close : now.close ≡ option_or before.close (Some how)
  pub outward : now.outward ≡ before.outward

-- The first item in line was taken out of it, where one was there: the one that was left first, or else the next one that
-- the port had. What else the port had is dropped.
pub record Fetches (before_first : Option Item) (before : Taker) (item : Option Item) (now_first : Option Item) (now : Taker) : Type 0 where
  pub port : takers_port now ≡ takers_port before
  pub none : now_first ≡ None
  pub taken : BeginsIn (taken_of before) (taken_of now)
  pub items : (came : List Shape) → came ++ waiting before_first ≡ items_in (taken_of before) → came ++ waiting item ≡ items_in (taken_of now)
  pub empty : item ≡ None → WasEmpty now

-- the first item in line was taken
pub record FetchesLine (item : Option Item) (before now : HubConnection) : Type 0 where
  pub fetches : Fetches before.first before.inward item now.first now.inward
  pub outward : now.outward ≡ before.outward
  pub arrived : now.arrived ≡ before.arrived
  pub close : now.close ≡ before.close

-- An item is first in line.
pub record PutsFirst (item : Item) (before now : HubConnection) : Type 0 where
  pub inward : now.inward ≡ before.inward
  pub first : now.first ≡ Some item
  pub outward : now.outward ≡ before.outward
  pub arrived : now.arrived ≡ before.arrived
  pub close : now.close ≡ before.close

-- One connection is closed; none where none or all were.
abbrev pub ClosesOne : Bool → Closed → List Place → List Place → Type 0
ClosesOne heard Nobody before now = now ≡ before
ClosesOne heard (One conn why) before now = LineChanges conn (Closes (closing why heard)) before now
ClosesOne heard All before now = now ≡ before

-- What a client is handed is put, or its port was full, which is told.
abbrev pub told_full : Bool → ℕ → Option ℕ
told_full full conn = if full then Some conn else None

-- what one event hands to a client was put
abbrev pub HandsOut : Option ToClient → Option ℕ → List Place → List Place → Type 0
HandsOut None refused before now = (refused ≡ None) × (now ≡ before)
HandsOut (Some piece) refused before now = (full : Bool) × (refused ≡ told_full full piece.conn) × LineChanges piece.conn (PutsBytes piece.bytes full) before now

-- This connection has a line: it entered and is not retired.
abbrev pub IsSeated : ℕ → List Place → Type 0
IsSeated i places = (line : HubConnection) × (line_at places i ≡ Some line)

-- The port for this connection's client was full once.
abbrev pub IsRefused : ℕ → List Place → Type 0
IsRefused i places = (line : HubConnection) × (line_at places i ≡ Some line) × (0 < fulls_of line.outward)
