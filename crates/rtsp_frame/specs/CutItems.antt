-- How bytes are cut into items that join a queue.
use Rattle.std.specs.Prelude.{◌≡◌, ℕ, ◌≤◌, ◌-◌, ◌*◌, Bool, true, false, List, [], ◌++◌, length, take, drop, Option, Some, None, IfSome, if◌then◌else◌}
use Rattle.std.specs.Option.{option_map}
use Rattle.rtsp_head.specs.Items.{first_extent, cut}
use Rattle.rtsp_head.specs.Shapes.{shapes}
use Rattle.rtsp_head.specs.declared.item.Item.{Item}
use Rattle.rtsp_head.specs.declared.item.Span.{Span}
use Rattle.rtsp_frame.specs.declared.item_front.Leftover.{Leftover}
use Rattle.rtsp_frame.specs.Fronts.{IsKnownFront, head_held}

-- The items of the bytes joined the queue; they and the empty lines behind them took so many of
-- the bytes, or the last one is bad.
pub record Joined (old new : List Item) (bytes : List ℕ) (used : Option ℕ) : Type 0 where
  pub items : shapes new ≡ shapes old ++ (cut bytes).items
  pub rest : option_map (λ n. drop n bytes) used ≡ (cut bytes).rest
  pub within : IfSome used (λ n. n ≤ length bytes)
  pub kept : take (length old) new ≡ old

-- what is left where nothing bad came
abbrev pub left_if : Bool → List ℕ → Option (List ℕ)
left_if open_still rest = if open_still then Some rest else None

-- The items of what was held and of the piece joined the queue, and the rest is what is left, where the
-- last of them is not bad.
pub record Fed (old new : List Item) (held left piece : List ℕ) (goes_on : Bool) : Type 0 where
  pub items : shapes new ≡ shapes old ++ (cut (held ++ piece)).items
  pub rest : left_if goes_on left ≡ (cut (held ++ piece)).rest

-- The piece was put behind what was held, and no item is whole; or nothing was.
abbrev pub IsHeldOn : List ℕ → List ℕ → List ℕ → Bool → Type 0
IsHeldOn held left piece true = Fed [] [] held left piece true
IsHeldOn held left piece false = left ≡ held

-- nothing changed
abbrev pub Same : List Item → List Item → List ℕ → List ℕ → Type 0
Same old new held left = (new ≡ old) × (left ≡ held)

-- Nothing changed but that some items stand behind those that waited.
abbrev pub IsUndone : List Item → List Item → List ℕ → List ℕ → Type 0
IsUndone old new held left = (take (length old) new ≡ old) × (left ≡ held)

-- The bytes are one whole item, and nothing else.
pub record IsWhole (bytes : List ℕ) (span : Span) : Type 0 where
  pub first : first_extent bytes ≡ Some (record { skipped = 0; span = span })
  pub all : span.len ≡ length bytes

-- how many bytes the items took, where something is left
abbrev pub used_of : Option Leftover → Option ℕ
used_of left = option_map (λ left. left.used) left

-- what is known of what is left
abbrev pub IsLeftover : List ℕ → Option Leftover → Type 0
IsLeftover bytes left = IfSome left (λ left. IsKnownFront (drop left.used bytes) left.front)

-- four steps a byte of an unfinished head that is left of so many bytes
abbrev pub due_after : Option Leftover → ℕ → ℕ
due_after None come = 0
due_after (Some left) come = 4 * head_held left.front (come - left.used)
