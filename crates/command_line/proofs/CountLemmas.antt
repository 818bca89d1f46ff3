-- Counts between one and a most.
use Rattle.std.proofs.Common.{◌≡◌, ℕ, ◌≤◌, ◌<◌, ◌==◌, ◌||◌, nat_lt, Bool, true, false, cond, Option, Some, None, refl, arith}
use Rattle.command_line.specs.Kinds.{one_to}

-- a count that was not refused
kept : (refused : Bool) (n count : ℕ) → cond refused None (Some n) ≡ Some count → (refused ≡ false) × (n ≡ count)
kept true n count h = cc
kept false n count h = (refl, cc)

pub one_to_bounds : (most : ℕ) (found : Option ℕ) (count : ℕ) → one_to most found ≡ Some count → (0 < count) × (count ≤ most)
one_to_bounds most None count h = cc
one_to_bounds most (Some n) count h =
    let known = kept (n == 0 || nat_lt most n) n count h in
    (grind (arith, known.0, known.1), grind (arith, known.0, known.1))
