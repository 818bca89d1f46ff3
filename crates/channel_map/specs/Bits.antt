-- A number's bits as a set of pairs (this project's own).
use Rattle.std.specs.Prelude.{◌≡◌, ℕ, ◌<◌, Bool, if◌then◌else◌}
use Rattle.std.specs.Int.{bit_at}
use Rattle.channel_map.specs.declared.map.TheConstants.{PAIRS}

-- The bit of each pair is 1 exactly where a test holds of the pair.
pub record HasBitWhere (bits : ℕ) (holds : ℕ → Bool) : Type 0 where
  pub each : (p : ℕ) → p < PAIRS → bit_at bits p ≡ (if holds p then 1 else 0)
