-- When a call may answer a fault: only where a count of faults tells of one. This project's own.
use Rattle.std.specs.Prelude.{ℕ, ◌+◌, ◌-◌, ◌^◌, ◌≤◌, min, Result, OnErr}

-- one more, in a counter of 64 bits that stays at its last value
abbrev pub counted_on : ℕ → ℕ
counted_on count = min (count + 1) (2 ^ 64 - 1)

-- a count, in a counter of 64 bits that stays at its last value
abbrev pub capped : ℕ → ℕ
capped count = min count (2 ^ 64 - 1)

-- The count rose, or stands at the last value of its counter.
abbrev pub Rose : ℕ → ℕ → Type 0
Rose before now = counted_on before ≤ now

-- The count has not fallen, and where the call failed it rose.
pub record HasCause {T E : Type 0} (before now : ℕ) (result : Result T E) : Type 0 where
  pub later : before ≤ now
  pub failed : OnErr result (Rose before now)

-- The count has not fallen, and where this happened it rose.
pub record RisesWith (before now : ℕ) (happened : Type 0) : Type 0 where
  pub later : before ≤ now
  pub rose : happened → Rose before now
