-- What is known of an item that has come in part has one proof at most.
use Rattle.std.specs.Prelude.{ℕ, List}
use Rattle.rtsp_head.specs.declared.item.Span.{Span}
use Rattle.rtsp_frame.specs.declared.item_front.ItemFront.{ItemFront}
use Rattle.rtsp_frame.specs.declared.item_front.ItemFront.TheVariants.{Nothing, Frame, Line, End}
use Rattle.rtsp_frame.specs.Fronts.{IsNextToNothing, IsFrameShort, IsHeadFront, IsItemFront, IsKnownFront}

-- whatever it is, where each of the four facts has
pub front_prop : (bytes : List ℕ) (front : ItemFront) → IsProp (IsNextToNothing bytes) → IsProp (IsFrameShort bytes)
    → ((line : ℕ) → IsProp (IsHeadFront bytes line)) → ((span : Span) → IsProp (IsItemFront bytes span)) → IsProp (IsKnownFront bytes front)
front_prop bytes Nothing nothing frame line end = nothing
front_prop bytes Frame nothing frame line end = frame
front_prop bytes (Line at) nothing frame line end = line at
front_prop bytes (End span) nothing frame line end = end span
