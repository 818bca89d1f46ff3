-- What was fed to a connection's framer, where there is one, and what it gave (this project's own).
use Rattle.std.specs.Prelude.{◌≡◌, ℕ, ◌+◌, List, [], length, Option, None, Some}
use Rattle.rtsp_head.specs.Items.{Shape}
use Rattle.rtsp_head.specs.declared.item.Item.{Item}
use Rattle.rtsp_frame.specs.FramerState.{HeldBytes, Framed}

-- the stream was fed, and these items were given; without a framer nothing was
abbrev pub FramerFed : Option HeldBytes → List ℕ → List Shape → Type 0
FramerFed None stream given = (stream ≡ []) × (given ≡ [])
FramerFed (Some held) stream given = Framed held stream given

-- how many items are still to be taken, where one was given
abbrev pub left_with : Option Item → HeldBytes → ℕ
left_with None held = 0
left_with (Some item) held = length held.waiting + 1
