-- The place of the pair is cleared, and its bit is set.
use Rattle.std.proofs.Common.{◌≡◌, ◌<◌, None, IsSome, length}
use Rattle.channel_map.specs.declared.map.TheConstants.{PAIRS}
use Rattle.channel_map.specs.Pairs.{held_at}
use Rattle.channel_map.proofs.PairLemmas.{written-table, held-within}
use Rattle.channel_map.proofs.BitLemmas.{bits-release}
use Rattle.channel_map.proofs.map.ChannelMap.release.Goals as goal

pub invariant_of-self : goal.invariant_of-self
invariant_of-self c =
    let some : IsSome (held_at c.args.pair c.self.inside.table) = rw c.self.view_is c.requires in
    let low : c.args.pair < length c.self.inside.table = held-within c.self.inside.table c.args.pair some in
    let within : c.args.pair < PAIRS = rw c.self.invariant.0.size at low in
    rw c.from.ensures (
      written-table c.self.inside.table c.args.pair None c.self.invariant.0 low (λ held (e : None ≡ _). cc),
      bits-release c.self.inside.free c.self.inside.table c.args.pair c.self.invariant.0 within c.self.invariant.1,
    )
