-- How a call changes what the hub keeps (this project's own).
use Rattle.std.specs.Prelude.{◌≡◌, ℕ, Bool, is_some, List, Option, Some, None}
use Rattle.std.specs.Option.{option_or}
use Rattle.gateway_claim.specs.declared.event.Outcome.{Outcome}
use Rattle.gateway_claim.specs.declared.event.ToClient.{ToClient}
use Rattle.gateway_claim.specs.declared.event.UpCause.{UpCause}
use Rattle.hub_queues.specs.declared.ending.Ending.{Ending}
use Rattle.hub_queues.specs.declared.ending.Ending.TheVariants.{Upstream}
use Rattle.hub_queues.specs.declared.line.Place.{Place}
use Rattle.gate_transcript.specs.declared.recorder.NoteFault.{NoteFault}
use Rattle.gateway_hub.specs.declared.desk.Desk.{Desk}
use Rattle.gateway_hub.specs.declared.desk.Fall.{Fall}
use Rattle.gateway_hub.specs.declared.desk.Delivery.{Delivery}
use Rattle.hub_queues.specs.Closes.{fall_by}
use Rattle.hub_queues.specs.Places.{LineChanges, CountsItem, ClosesOne, HandsOut}
use Rattle.hub_queues.specs.Servers.{HandsUp}

-- one connection's arrivals are one more
abbrev pub CountsOne : Option ℕ → List Place → List Place → Type 0
CountsOne None before now = now ≡ before
CountsOne (Some conn) before now = LineChanges conn CountsItem before now

-- the ending that the end of the connection to the server is
abbrev pub ending_by : Option UpCause → Option Ending
ending_by None = None
ending_by (Some cause) = Some (Upstream cause)

-- whether an item of the server ended its connection, where that ended
abbrev pub fall_heard : Option Fall → Option Bool
fall_heard None = None
fall_heard (Some fall) = Some fall.heard

-- the end of the connection to the server, since which no note failed
abbrev pub fallen : Option Bool → Option Fall
fallen None = None
fallen (Some heard) = Some (record { heard = heard; unnoted = None })

-- the same, with why a client was left out since then
abbrev pub left_for : NoteFault → Option Fall → Option Fall
left_for fault None = None
left_for fault (Some fall) = Some (record { heard = fall.heard; unnoted = Some fault })

-- Why a client was left out is kept with the end of the connection to the server.
pub record LeavesOut (fault : NoteFault) (before now : Desk) : Type 0 where
  pub server : now.server ≡ before.server
  pub places : now.places ≡ before.places
  pub fall : now.fall ≡ left_for fault before.fall
  pub ending : now.ending ≡ before.ending

-- The end of the connection to the server is kept, where no ending was.
pub record KeepsEnding (fault : Option UpCause) (heard : Bool) (before now : Desk) : Type 0 where
  pub server : now.server ≡ before.server
  pub places : now.places ≡ before.places
  pub fall : now.fall ≡ option_or before.fall (fallen (fall_by (is_some fault) heard))
  pub ending : now.ending ≡ option_or before.ending (ending_by fault)

-- the client that an outcome hands bytes to, and the one for whom they were put, which no full port has
abbrev pub addressee_of : Option ToClient → Option ℕ
addressee_of None = None
addressee_of (Some piece) = Some piece.conn

-- for whom bytes were put, unless the port was full
abbrev pub landed_for : Option ℕ → Option ℕ → Option ℕ
landed_for addressee None = addressee
landed_for addressee (Some full) = None

-- All that an outcome asks for is done.
pub record HandsAll (asker : Option ℕ) (heard : Bool) (outcome : Outcome) (delivery : Delivery) (before now : Desk) : Type 0 where
  pub counted : List Place
  pub closed : List Place
  pub counts : CountsOne asker before.places.items counted
  pub closes : ClosesOne heard outcome.closed counted closed
  pub hands : HandsOut outcome.to_client delivery.client closed now.places.items
  pub landed : delivery.landed ≡ landed_for (addressee_of outcome.to_client) delivery.client
  pub up : HandsUp outcome.to_up delivery.server before.server now.server
  pub fall : now.fall ≡ option_or before.fall (fallen (fall_by (is_some outcome.fault) heard))
  pub ending : now.ending ≡ option_or before.ending (ending_by outcome.fault)
