-- What a framer holds, and what it owes to a stream.
use Rattle.std.specs.Prelude.{◌≡◌, ℕ, Bool, true, false, List, [], ◌∷◌, ◌++◌, Option, Some, None}
use Rattle.rtsp_head.specs.Items.{Shape, cut, items_of}
use Rattle.rtsp_head.specs.Shapes.{shape_of}
use Rattle.rtsp_head.specs.declared.item.Item.{Item}
use Rattle.rtsp_head.specs.declared.item.Span.{Span}
use Rattle.rtsp_frame.specs.CutItems.{IsWhole}

-- The items that wait to be given, and what has come of the next; no rest behind a bad item.
pub record HeldBytes : Type 0 where
  pub waiting : List Shape
  pub rest : Option (List ℕ)

-- The stream was fed, and these items were given: the first of its items. The rest of its items wait.
pub record Framed (held : HeldBytes) (stream : List ℕ) (given : List Shape) : Type 0 where
  pub items : given ++ held.waiting ≡ (cut stream).items
  pub rest : held.rest ≡ (cut stream).rest

-- The stream was fed, and this item is given after those that were; or all of its items were given.
abbrev pub GivesNext : HeldBytes → List ℕ → List Shape → Option Item → Type 0
GivesNext held stream given None = Framed held stream given × (given ≡ items_of stream)
GivesNext held stream given (Some item) = Framed held stream (given ++ shape_of item ∷ [])

-- The piece was taken, and all items of the stream were given; or nothing changed.
abbrev pub HoldsPiece : HeldBytes → HeldBytes → List ℕ → Bool → Type 0
HoldsPiece old new piece true = (stream : List ℕ) (given : List Shape) → Framed old stream given → GivesNext new (stream ++ piece) given None
HoldsPiece old new piece false = new ≡ old

-- Nothing is held, and the piece is one whole item.
pub record IsAlone (held : HeldBytes) (piece : List ℕ) (span : Span) : Type 0 where
  pub nothing : held ≡ record { waiting = []; rest = Some [] }
  pub whole : IsWhole piece span
