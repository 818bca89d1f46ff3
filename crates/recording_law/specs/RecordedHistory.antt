-- What was noted of a history, told again (this project's own).
use Rattle.std.specs.Prelude.{◌==◌, List, [], ◌∷◌, ◌++◌, if◌then◌else◌}
use Rattle.rtsp_head.specs.Items.{Shape, is_bad}
use Rattle.rtsp_head.specs.Spellings.{IsItem}
use Rattle.std.specs.Prelude.{◌≡◌, false}
use Rattle.gateway_claim.specs.Happenings.{Happening, enters, takes, ends, lags, hears, up_ends, HistoryEntry}
use Rattle.gateway_replay.specs.declared.streams.Speaker.{Speaker}
use Rattle.gateway_replay.specs.declared.streams.Speaker.TheVariants.{Client, Server}

-- what a speaker says in an event, and in all events of a history, the oldest first
abbrev pub said_in : Speaker → Happening → List Shape
said_in who (enters conn) = []
said_in (Client i) (takes conn shape) = if conn == i then shape ∷ [] else []
said_in Server (takes conn shape) = []
said_in who (ends conn) = []
said_in who (lags conn) = []
said_in (Client i) (hears shape) = []
said_in Server (hears shape) = shape ∷ []
said_in who (up_ends why) = []

-- all items of one speaker, oldest first
abbrev pub all_said : Speaker → List HistoryEntry → List Shape
all_said who [] = []
all_said who (entry ∷ earlier) = all_said who earlier ++ said_in who entry.happening

-- Nothing is said behind an item that can't be read.
abbrev pub AreSoundBefore : List Shape → Type 0
AreSoundBefore [] = Unit {0}
AreSoundBefore (item ∷ items) = (is_bad item.kind ≡ false) × AreSoundBefore items

-- What is said is one item, and no bad one was said before it.
pub record IsSaidWhole (shape : Shape) (before : List Shape) : Type 0 where
  pub item : IsItem shape.kind shape.bytes shape.head
  pub sound : AreSoundBefore before

-- an item is one whole item behind those before it
abbrev pub IsToldWhole : Happening → List HistoryEntry → Type 0
IsToldWhole (enters conn) earlier = Unit {0}
IsToldWhole (takes conn shape) earlier = IsSaidWhole shape (all_said (Client conn) earlier)
IsToldWhole (ends conn) earlier = Unit {0}
IsToldWhole (lags conn) earlier = Unit {0}
IsToldWhole (hears shape) earlier = IsSaidWhole shape (all_said Server earlier)
IsToldWhole (up_ends why) earlier = Unit {0}

-- so it is in a whole history
abbrev pub AreToldWhole : List HistoryEntry → Type 0
AreToldWhole [] = Unit {0}
AreToldWhole (entry ∷ earlier) = AreToldWhole earlier × IsToldWhole entry.happening earlier
