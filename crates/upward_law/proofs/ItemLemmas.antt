-- What an event brings of a player is one item.
use Rattle.rtsp_frame.proofs.AreItemsLemmas.{one_item}
use Rattle.gateway_claim.specs.declared.event.Event.{Event}
use Rattle.gateway_claim.specs.declared.event.Event.TheVariants.{Client, Up, End, Slow, UpEnd}
use Rattle.gateway_claim.specs.Happenings.{happening_of}
use Rattle.upward_law.specs.Due.{IsItemTaken}

pub event_taken : (event : Event) → IsItemTaken (happening_of event)
event_taken (Client conn item) = one_item item.kind item.bytes item.head item.whole
event_taken (Up item) = tt
event_taken (End conn) = tt
event_taken (Slow conn) = tt
event_taken (UpEnd cause) = tt
