-- As many bits are set as pairs are free.
use Rattle.std.proofs.Common.{◌∙◌, ap, arith}
use Rattle.channel_map.specs.Pairs.{held_count}
use Rattle.channel_map.proofs.BitLemmas.{bits-count}
use Rattle.channel_map.proofs.map.ChannelMap.held.Goals as goal

pub returns : goal.returns
returns c = bits-count c.self.inside.free c.self.inside.table c.self.invariant.0.size (omega arith) c.self.invariant.1 ∙ ap held_count c.self.view_is
