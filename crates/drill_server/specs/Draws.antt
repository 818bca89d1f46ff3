-- The numbers that a drill draws (this project's own): those of a linear congruence modulo 2 ^ 64, without their low bits.
use Rattle.std.specs.Prelude.{ℕ, ◌+◌, ◌*◌, ◌/◌, ◌%◌, ◌^◌}
use Rattle.drill_server.specs.declared.draw.TheConstants.{MULTIPLIER, INCREMENT, LOW_BITS}

-- the number that follows
abbrev pub next_draw : ℕ → ℕ
next_draw x = (x * MULTIPLIER + INCREMENT) % 2 ^ 64

-- what is drawn below n, where this is the number
abbrev pub drawn_below : ℕ → ℕ → ℕ
drawn_below x n = x / 2 ^ LOW_BITS % n
