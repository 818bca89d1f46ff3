-- What was walked of the front of a head.
use Rattle.std.specs.Prelude.{◌≡◌, ℕ, ◌+◌, ◌-◌, ◌≤◌, List, length, take, Option, Some, None}
use Rattle.std.specs.Option.{option_map}
use Rattle.rtsp_head.specs.Items.{head_len}

-- Of the bytes this rest is left behind lines of a head that are not empty, so that the head ends where that of the rest
-- does.
pub record IsPassed (bytes rest : List ℕ) : Type 0 where
  pub within : length rest ≤ length bytes
  pub ends : head_len bytes ≡ option_map (λ n. length bytes - length rest + n) (head_len rest)

-- what stands before a place: all of the text, where there is no such place
abbrev pub before_place : Option ℕ → List ℕ → List ℕ
before_place None text = text
before_place (Some k) text = take k text
