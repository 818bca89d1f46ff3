-- What was heard of the server, as a history has it (this project's own).
use Rattle.gateway_claim.specs.ServerItems.{Heard, replies, requests, faults}
use Rattle.gateway_mux.specs.declared.server_item.ServerItem.{ServerItem}
use Rattle.gateway_mux.specs.declared.server_item.ServerItem.TheVariants.{Reply, Ask, Fault}

-- what was heard, as a history has it
abbrev pub heard_seen : ServerItem → Heard
heard_seen (Reply reply) = replies reply
heard_seen (Ask request) = requests request
heard_seen (Fault fault) = faults fault
