-- A number of 128 bits has no bit above them.
use Rattle.std.proofs.Common.{◌≤◌, ◌==◌, ◌∙◌, sym, ap, arith}
use Rattle.std.proofs.lemmas.Bool.{le-ltb}
use Rattle.std.proofs.lemmas.Nat.Bits.{bit_at_above}
use Rattle.channel_map.proofs.pair_set.PairSet.contains.Goals as goal

pub returns-else-from-lt-PAIRS : goal.returns-else-from-lt-PAIRS
returns-else-from-lt-PAIRS c =
    let high : 128 ≤ c.args.pair = rw c.from.ensures at c.if-from-lt-PAIRS.false in
    le-ltb _ 128 c.if-from-lt-PAIRS.false ∙ sym (ap (λ n. n == 1) (bit_at_above c.args.self.bits 128 c.args.pair (omega arith) high))
