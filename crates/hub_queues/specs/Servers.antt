-- How a call changes the hub's ends of the server's ports (this project's own).
use Rattle.std.specs.Prelude.{◌≡◌, Bool, Option, Some}
use Rattle.rtsp_head.specs.declared.item.Item.{Item}
use Rattle.gateway_claim.specs.declared.event.ToUp.{ToUp}
use Rattle.hub_queues.specs.declared.server.Server.{Server}
use Rattle.hub_queues.specs.Parcels.{up_parcels}
use Rattle.hub_queues.specs.Places.{PutsAll, Fetches}

-- The first item in line was taken out of it, where one was there.
pub record FetchesUp (item : Option Item) (before now : Server) : Type 0 where
  pub fetches : Fetches before.first before.inward item now.first now.inward
  pub outward : now.outward ≡ before.outward

-- An item is first in line.
pub record PutsFirstUp (item : Item) (before now : Server) : Type 0 where
  pub inward : now.inward ≡ before.inward
  pub first : now.first ≡ Some item
  pub outward : now.outward ≡ before.outward

-- What the server is handed is put, as far as its port was not full.
pub record HandsUp (up : ToUp) (full : Bool) (before now : Server) : Type 0 where
  pub inward : now.inward ≡ before.inward
  pub first : now.first ≡ before.first
  pub outward : PutsAll (up_parcels up) full before.outward now.outward
