-- The bits tell what is free now, and the table what is freed besides.
use Rattle.std.proofs.Common.{◌<◌, ◌≤◌, ◌∙◌, length, sym, ap}
use Rattle.channel_map.specs.declared.map.TheConstants.{PAIRS}
use Rattle.channel_map.specs.Pairs.{held_at, is_free}
use Rattle.channel_map.proofs.PairLemmas.{lowest_free_by, kept-Nothing, kept-Pair_past}
use Rattle.channel_map.proofs.BitLemmas.{bits-same, bits-freed}
use Rattle.channel_map.proofs.map.ChannelMap.free_after.Goals as goal

pub returns-in-Nothing : goal.returns-in-Nothing
returns-in-Nothing c =
    rw (c.in-Nothing.is, ← c.self.view_is)
    (record { lowest = c.lowest.ensures _ (bits-same c.self.inside.free _ _ c.self.invariant.1 (λ p. ap is_free (kept-Nothing (held_at p c.self.inside.table)))) })

pub returns-then-from-lt-PAIRS : goal.returns-then-from-lt-PAIRS
returns-then-from-lt-PAIRS c =
    let low : c.in-Pair.pair < PAIRS = rw c.from.ensures at c.if-from-lt-PAIRS.true in
    rw (c.in-Pair.is, ← c.self.view_is)
    (record { lowest = c.lowest-then-from-lt-PAIRS.ensures _ (bits-freed c.self.inside.free c.self.inside.table c.in-Pair.pair c.self.invariant.0 low c.self.invariant.1) })

pub returns-else-from-lt-PAIRS : goal.returns-else-from-lt-PAIRS
returns-else-from-lt-PAIRS c =
    let high : PAIRS ≤ c.in-Pair.pair = rw c.from.ensures at c.if-from-lt-PAIRS.false in
    let past : length c.self.inside.table ≤ c.in-Pair.pair = rw c.self.invariant.0.size high in
    rw (c.in-Pair.is, ← c.self.view_is)
    (record {
      lowest = c.lowest-else-from-lt-PAIRS.ensures _
          (bits-same c.self.inside.free _ _ c.self.invariant.1 (λ p. ap is_free (kept-Pair_past c.self.inside.table c.in-Pair.pair p c.self.invariant.0 past)));
    })

pub returns-in-Some : goal.returns-in-Some
returns-in-Some c = rw (← c.self.view_is) (record { lowest = c.in-Some.ensures.first ∙ sym (lowest_free_by _ _ c.self.invariant.0.size) })

pub returns-in-None : goal.returns-in-None
returns-in-None c = rw (← c.self.view_is) (record { lowest = c.in-None.ensures.first ∙ sym (lowest_free_by _ _ c.self.invariant.0.size) })
