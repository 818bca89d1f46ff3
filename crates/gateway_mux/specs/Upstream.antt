-- What a request that goes up takes (this project's own).
use Rattle.std.specs.Prelude.{ℕ, ◌==◌, Bool, true, false, Option, Some, None, if◌then◌else◌}
use Rattle.channel_map.specs.declared.map.Held.{Held}

-- who holds a pair once a request of a connection took the lowest one that is free
abbrev pub taken_by : ℕ → Option ℕ → ℕ → Option Held → Option Held
taken_by conn None pair held = held
taken_by conn (Some lowest) pair held = if pair == lowest then Some (record { conn = conn; pair = lowest; granted = false }) else held

-- who holds a pair once a request has taken the lowest, or not
abbrev pub reserved_by : Bool → ℕ → Option ℕ → ℕ → Option Held → Option Held
reserved_by false conn lowest pair held = held
reserved_by true conn lowest pair held = taken_by conn lowest pair held

-- who holds a pair, once a request of a connection went up that asks for one or not
abbrev pub held_lent : Bool → Bool → ℕ → Option ℕ → ℕ → Option Held → Option Held
held_lent false reserves conn lowest pair held = held
held_lent true reserves conn lowest pair held = reserved_by reserves conn lowest pair held
