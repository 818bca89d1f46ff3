-- The hub's ends of its ports stay in place (this project's own).
use Rattle.std.specs.Prelude.{◌≡◌, ◌≢◌, ℕ, true, List, ◌∷◌, ◌++◌, Option, Some, None}
use Rattle.client_ports.specs.declared.parcel.Parcel.{Parcel}
use Rattle.client_ports.specs.declared.putter.Putter.{Putter}
use Rattle.client_ports.specs.declared.taker.Taker.{Taker}
use Rattle.client_ports.specs.Ends.{put_of, taken_of, takers_port, KeepsPutter}
use Rattle.client_ports.specs.Rule.{BeginsIn}
use Rattle.hub_queues.specs.declared.line.HubConnection.{HubConnection}
use Rattle.hub_queues.specs.declared.line.Place.{Place}
use Rattle.gateway_hub.specs.declared.desk.Desk.{Desk}
use Rattle.hub_queues.specs.Places.{Changes, line_at}

-- The taker is of the same port, and what it took before is the first of what it took.
pub record KeepsTaker (before now : Taker) : Type 0 where
  pub port : takers_port now ≡ takers_port before
  pub taken : BeginsIn (taken_of before) (taken_of now)

-- The putter is of the same port, which holds as much, and what it put before is the first of what it put.
pub record KeepsPort (before now : Putter) : Type 0 where
  pub end : KeepsPutter before now
  pub put : BeginsIn (put_of before) (put_of now)

-- So do both ends of a line.
pub record KeepsLine (before now : HubConnection) : Type 0 where
  pub inward : KeepsTaker before.inward now.inward
  pub outward : KeepsPort before.outward now.outward

-- Each line that was there is there, changed so, and there are no others.
abbrev pub EachLine : (HubConnection → HubConnection → Type 0) → List Place → List Place → Type 0
EachLine change before now = (i : ℕ) → Changes true change (line_at before i) (line_at now i)

-- All ends stay in place, the server's two and each line's two.
pub record KeepsEnds (before now : Desk) : Type 0 where
  pub inward : KeepsTaker before.server.inward now.server.inward
  pub outward : KeepsPort before.server.outward now.server.outward
  pub lines : EachLine KeepsLine before.places.items now.places.items

-- All ends stay in place but those of this connection, where it has any.
pub record KeepsOtherEnds (conn : ℕ) (before now : Desk) : Type 0 where
  pub inward : KeepsTaker before.server.inward now.server.inward
  pub outward : KeepsPort before.server.outward now.server.outward
  pub lines : (i : ℕ) → i ≢ conn → Changes true KeepsLine (line_at before.places.items i) (line_at now.places.items i)

-- Nothing was put for a client, or something was.
abbrev pub PutsNothing : HubConnection → HubConnection → Type 0
PutsNothing before now = put_of now.outward ≡ put_of before.outward

-- something was put for a connection
pub record PutsMore (before now : HubConnection) : Type 0 where
  pub first : Parcel
  pub later : List Parcel
  pub whole : put_of before.outward ++ first ∷ later ≡ put_of now.outward

-- Something was put for this client, or nothing for any.
abbrev pub PutsFor : Option ℕ → List Place → List Place → Type 0
PutsFor None before now = EachLine PutsNothing before now
PutsFor (Some conn) before now = Changes true PutsMore (line_at before conn) (line_at now conn)
