-- The place of the pair is written, and its bit goes.
use Rattle.std.proofs.Common.{◌<◌, Some, length}
use Rattle.channel_map.proofs.PairLemmas.{written-table}
use Rattle.channel_map.proofs.BitLemmas.{bits-hold}
use Rattle.channel_map.proofs.map.ChannelMap.hold.Goals as goal

pub invariant_of-self : goal.invariant_of-self
invariant_of-self c =
    let low : c.args.held.pair < length c.self.inside.table = rw c.self.invariant.0.size c.requires in
    rw c.from.ensures (
      written-table c.self.inside.table c.args.held.pair (Some c.args.held) c.self.invariant.0 low (λ held e. cc),
      bits-hold c.self.inside.free c.self.inside.table c.args.held.pair c.args.held c.self.invariant.0 c.requires c.self.invariant.1,
    )
