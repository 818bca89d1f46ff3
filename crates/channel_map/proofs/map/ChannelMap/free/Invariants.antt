-- The pairs whose bit is set are yet to be looked at, and their bits become fewer.
use Rattle.channel_map.proofs.ReleaseLemmas.{IsFreeing}
use Rattle.channel_map.proofs.map.ChannelMap.free.Given as goal

abbrev pub invariant-loop-pair : goal.invariant-loop-pair
invariant-loop-pair l = IsFreeing l.freed l.left l.initial.self l.self

abbrev pub decreases-loop-pair : goal.decreases-loop-pair
decreases-loop-pair l = l.left
