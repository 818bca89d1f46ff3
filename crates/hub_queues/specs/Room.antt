-- How many parcels more a port for a client takes (this project's own).
use Rattle.std.specs.Prelude.{◌≡◌, ◌+◌, ℕ, Option, Some, None}
use Rattle.client_ports.specs.declared.putter.Putter.{Putter}
use Rattle.client_ports.specs.Ends.{capacity_of, HeldLast, IsSamePutter}
use Rattle.hub_queues.specs.declared.limits.TheConstants.{OUTWARD_CAPACITY}
use Rattle.hub_queues.specs.declared.line.HubConnection.{HubConnection}

-- The port took so many parcels more at one moment of a call: it held the others that it can.
pub record HasParcelRoom (room : ℕ) (outward : Putter) : Type 0 where
  pub waiting : ℕ
  pub held : HeldLast waiting outward
  pub whole : room + waiting ≡ capacity_of outward

-- So many has a connection's port; as many as a new port has where the connection has no line.
abbrev pub HasRoomFor : ℕ → Option HubConnection → Type 0
HasRoomFor room None = room ≡ OUTWARD_CAPACITY
HasRoomFor room (Some line) = HasParcelRoom room line.outward

-- A line's port for its client was looked at: all stands as it did.
pub record IsLookedAt (before now : HubConnection) : Type 0 where
  pub inward : now.inward ≡ before.inward
  pub first : now.first ≡ before.first
  pub arrived : now.arrived ≡ before.arrived
  pub close : now.close ≡ before.close
  pub outward : IsSamePutter before.outward now.outward
