-- How much a player asks (this project's own).
use Rattle.std.specs.Prelude.{ℕ, ◌+◌, List, [], ◌∷◌}
use Rattle.rtsp_head.specs.declared.item.ItemKind.{ItemKind}
use Rattle.rtsp_head.specs.declared.item.ItemKind.TheVariants.{Request}
use Rattle.client_machine.specs.Events.{PrivateEvent, arrive}

-- one where an item is a request
abbrev pub request_arrived : ItemKind → ℕ
request_arrived Request = 1
request_arrived kind = 0

-- one where an event brings a request of the player
abbrev pub request_brought : PrivateEvent → ℕ
request_brought (arrive shape full) = request_arrived shape.kind
request_brought event = 0

-- how many requests the player sent
abbrev pub requests_brought : List PrivateEvent → ℕ
requests_brought [] = 0
requests_brought (event ∷ events) = request_brought event + requests_brought events
