-- Where the connection is kept whose own an event is.
use Rattle.std.proofs.Common.{ℕ, Option}
use Rattle.connection_table.specs.declared.table.KeyedSlot.{KeyedSlot}
use Rattle.connection_table.specs.declared.table.ConnectionTable.{ConnectionTable}
use Rattle.connection_table.specs.Tables.{IsKeyOf, IsSeatAt}
use Rattle.gateway_claim.specs.declared.event.Event.{Event}
use Rattle.gateway_claim.specs.declared.event.Event.TheVariants.{Client, Up, End, Slow, UpEnd}
use Rattle.gateway_claim.specs.declared.connection.ConnectionKey.{ConnectionKey}
use Rattle.gateway_claim.specs.Cores.{IsOwnKey}
use Rattle.gateway_mux.specs.Acts.{IsEventSeat}

-- what is kept under a key is kept of the event's connection, where the key is that one's
pub event_seat : (seats : ConnectionTable) (event : Event) (key : ConnectionKey) (seat : Option KeyedSlot) → IsOwnKey (λ conn key. IsKeyOf seats conn key.place) event key → ((conn : ℕ) → IsKeyOf seats conn key.place → IsSeatAt seats conn seat)
    → IsEventSeat seats event seat
event_seat seats (Client conn item) key seat own at = at conn own
event_seat seats (End conn) key seat own at = at conn own
event_seat seats (Slow conn) key seat own at = at conn own
event_seat seats (Up item) key seat own at = tt
event_seat seats (UpEnd why) key seat own at = tt
