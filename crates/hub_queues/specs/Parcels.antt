-- What goes through the hub's ports, as a history has it (this project's own).
use Rattle.std.specs.Prelude.{ℕ, ◌==◌, List, [], ◌∷◌, ◌++◌, Option, Some, None, if◌then◌else◌}
use Rattle.rtsp_head.specs.declared.item.Item.{Item as WholeItem}
use Rattle.rtsp_head.specs.Items.{Shape}
use Rattle.rtsp_head.specs.Shapes.{shape_of}
use Rattle.client_ports.specs.declared.parcel.Parcel.{Parcel}
use Rattle.client_ports.specs.declared.parcel.Parcel.TheVariants as parcels
use Rattle.gateway_claim.specs.declared.event.ToUp.{ToUp}
use Rattle.gateway_claim.specs.declared.event.UpMessage.{UpMessage}
use Rattle.gateway_claim.specs.declared.event.UpMessage.TheVariants.{Request, Frame}
use Rattle.gateway_claim.specs.Happenings.{Happening, enters, takes, ends, lags, hears, up_ends, HistoryEntry, silent}

-- the items among some parcels
abbrev pub items_in : List Parcel → List Shape
items_in [] = []
items_in (parcels.Item item ∷ later) = shape_of item ∷ items_in later
items_in (parcels.Bytes text ∷ later) = items_in later

-- the item that is first in line, where one is
abbrev pub waiting : Option WholeItem → List Shape
waiting None = []
waiting (Some item) = shape_of item ∷ []

-- the items of connection i, the oldest first; the newest entry of the history is first
abbrev pub arrival_here : ℕ → Happening → List Shape
arrival_here i (enters conn) = []
arrival_here i (takes conn shape) = if conn == i then shape ∷ [] else []
arrival_here i (ends conn) = []
arrival_here i (lags conn) = []
arrival_here i (hears shape) = []
arrival_here i (up_ends why) = []

-- a connection's items, oldest first
abbrev pub arrivals : ℕ → List HistoryEntry → List Shape
arrivals i [] = []
arrivals i (entry ∷ earlier) = arrivals i earlier ++ arrival_here i entry.happening

-- the items of the server, the oldest first
abbrev pub heard_here : Happening → List Shape
heard_here (enters conn) = []
heard_here (takes conn shape) = []
heard_here (ends conn) = []
heard_here (lags conn) = []
heard_here (hears shape) = shape ∷ []
heard_here (up_ends why) = []

-- the server's items, oldest first
abbrev pub heard_items : List HistoryEntry → List Shape
heard_items [] = []
heard_items (entry ∷ earlier) = heard_items earlier ++ heard_here entry.happening

-- something is about to happen
abbrev pub coming : Happening → HistoryEntry
coming happening = record { happening = happening; outcome = silent }

-- pieces of bytes, the newest first, as parcels, the oldest first
abbrev pub as_parcels : List (List ℕ) → List Parcel
as_parcels [] = []
as_parcels (piece ∷ earlier) = as_parcels earlier ++ parcels.Bytes piece ∷ []

-- what the server is handed, as parcels: the answer, and then the message
abbrev pub answer_parcels : Option (List ℕ) → List Parcel
answer_parcels None = []
answer_parcels (Some text) = parcels.Bytes text ∷ []

-- what goes up, as parcels
abbrev pub message_parcels : Option UpMessage → List Parcel
message_parcels None = []
message_parcels (Some (Request text)) = parcels.Bytes text ∷ []
message_parcels (Some (Frame text)) = parcels.Bytes text ∷ []

-- all that goes up at an event, as parcels
abbrev pub up_parcels : ToUp → List Parcel
up_parcels up = answer_parcels up.answer ++ message_parcels up.message

-- all that the server was handed in a history, the oldest first
abbrev pub handed_up : List HistoryEntry → List Parcel
handed_up [] = []
handed_up (entry ∷ earlier) = handed_up earlier ++ up_parcels entry.outcome.to_up
