-- Its bit is set.
use Rattle.std.proofs.Common.{◌<◌, subst}
use Rattle.channel_map.proofs.BitLemmas.{bit-put}
use Rattle.channel_map.proofs.pair_set.PairSet.insert.Goals as goal

pub returns-then-from-lt-PAIRS : goal.returns-then-from-lt-PAIRS
returns-then-from-lt-PAIRS c = λ p within.
    bit-put c.args.self.now.bits c.args.pair p (subst (λ n. n < 128) c.from.ensures c.if-from-lt-PAIRS.true) within
