-- The place at hand is not free, so the first one is further on.
use Rattle.std.proofs.Common.{◌∙◌, sym}
use Rattle.channel_map.specs.Pairs.{held_at, is_free, kept}
use Rattle.channel_map.proofs.PairLemmas.{first_free_more}
use Rattle.channel_map.proofs.map.first_free.Goals as goal

pub loop-place-preserved : goal.loop-place-preserved
loop-place-preserved c =
    c.loop-place.invariant
    ∙ first_free_more _ c.loop-place.place (λ p. is_free (kept c.args.freed (held_at p c.args.table.now)))
    c.loop-place-test.true (sym c.leaves_free.ensures ∙ c.if-leaves_free.false)
