-- Items as the definitions see them.
use Rattle.std.specs.Prelude.{List, map}
use Rattle.rtsp_head.specs.Items.{Shape}
use Rattle.rtsp_head.specs.declared.item.Item.{Item}

-- an item without the fact that its type keeps
abbrev pub shape_of : Item → Shape
shape_of item = record { kind = item.kind; bytes = item.bytes; head = item.head }

-- items, without where they lie in memory
abbrev pub shapes : List Item → List Shape
shapes items = map shape_of items
