-- The lowest pair of channels that is free is one of all.
use Rattle.std.proofs.Common.{◌≡◌, ℕ, Bool, Option, None, Some, IfSome, ◌<◌, sym}
use Rattle.channel_map.specs.declared.map.TheConstants.{PAIRS}
use Rattle.channel_map.specs.Pairs.{lowest_free}
use Rattle.channel_map.proofs.PairLemmas.{lowest_free_below}

pub lowest_low : (free : ℕ → Bool) (lowest : Option ℕ) → lowest ≡ lowest_free free → IfSome lowest (λ pair. pair < PAIRS)
lowest_low free None e = tt
lowest_low free (Some pair) e = lowest_free_below free pair (sym e)
