-- Sets of pairs of channels (this project's own).
use Rattle.std.specs.Prelude.{ℕ, ◌==◌, Bool}
use Rattle.std.specs.Int.{bit_at}
use Rattle.channel_map.specs.declared.pair_set.PairSet.{PairSet}

-- whether a pair is in a set
abbrev pub is_in_set : PairSet → ℕ → Bool
is_in_set pairs pair = bit_at pairs.bits pair == 1
