-- What a player sees in a history (RFC 2326, 7 and A.2).
use Rattle.std.specs.Prelude.{◌≡◌, ℕ, ◌==◌, List, [], ◌∷◌, ◌++◌, length, Some, if◌then◌else◌}
use Rattle.rtsp_head.specs.Items.{Shape, first_extent}
use Rattle.client_machine.specs.SeenRun.{request_taken, IsTableRun}
use Rattle.gateway_claim.specs.Happenings.{Happening, takes, hears, HistoryEntry, entered, sent}
use Rattle.std.specs.List.{AllByRecursion}

-- the request of connection i that comes, where one does
abbrev pub request_here : ℕ → Happening → List Shape
request_here i (takes conn shape) = if conn == i then request_taken shape else []
request_here i happening = []

-- the requests of connection i from its entering on, the oldest first
abbrev pub requests_from : ℕ → List HistoryEntry → List Shape
requests_from i [] = []
requests_from i (entry ∷ earlier) = requests_from i earlier ++ (if entered i earlier then request_here i entry.happening else [])

-- What comes of the server is one item, with its head (RFC 7826, 7, 8 and 14): its bytes begin with no empty line, and are
-- no more than it.
abbrev pub IsItemHeard : Happening → Type 0
IsItemHeard (hears shape) = first_extent shape.bytes ≡ Some (record { skipped = 0; span = record { kind = shape.kind; len = length shape.bytes; head = shape.head } })
IsItemHeard happening = Unit {0}

-- so at each entry of a history
abbrev pub AreItemsHeard : List HistoryEntry → Type 0
AreItemsHeard history = AllByRecursion (λ entry. IsItemHeard entry.happening) history

-- The replies that connection i was handed answer the first of its requests, and those of each session walk the table.
abbrev pub IsSeenRun : ℕ → List HistoryEntry → Type 0
IsSeenRun i history = IsTableRun (requests_from i history) (sent i history)
