-- What a framer was fed, and what it gave, on the way.
use Rattle.std.specs.Prelude.{◌≡◌, ℕ, List, [], ◌++◌}
use Rattle.rtsp_head.specs.Items.{Shape}
use Rattle.rtsp_frame.specs.FramerState.{HeldBytes, Framed}

-- a front of the text was fed, and the rest is left
pub record FrontFed (old new : HeldBytes) (text rest : List ℕ) : Type 0 where
  pub front : List ℕ
  pub whole : front ++ rest ≡ text
  pub framed : (stream : List ℕ) (given : List Shape) → Framed old stream given → Framed new (stream ++ front) given

-- these items were given, of a stream of which none was
pub record HasGiven (old new : HeldBytes) (items : List Shape) : Type 0 where
  pub framed : (stream : List ℕ) → Framed old stream [] → Framed new stream items
