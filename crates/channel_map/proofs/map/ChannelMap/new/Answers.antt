-- Nothing stands in a table of nothing, and all bits are set.
use Rattle.std.proofs.Common.{◌≡◌, ◌∙◌, sym, refl, ap, Some, None}
use Rattle.channel_map.specs.Pairs.{is_free}
use Rattle.channel_map.proofs.PairLemmas.{held_at-replicate}
use Rattle.channel_map.proofs.BitLemmas.{bits-all}
use Rattle.channel_map.proofs.map.ChannelMap.new.Goals as goal

pub returns : goal.returns
returns c p = held_at-replicate 128 p

pub invariant_of-result : goal.invariant_of-result
invariant_of-result c = (
  record {
    size = refl;
    own = λ p held is. let contradiction : None ≡ Some held = sym (held_at-replicate 128 p) ∙ is in cc;
  },
  bits-all _ (λ p. ap is_free (held_at-replicate 128 p)),
)
