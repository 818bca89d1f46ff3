use Rattle.std.proofs.Common.{◌≤◌, length}
use Rattle.text_pool.proofs.pool.TextPool.keep_all.Given as goal

abbrev pub invariant-loop-text : goal.invariant-loop-text
invariant-loop-text l = l.fn.self ≤ l.self

abbrev pub decreases-loop-text : goal.decreases-loop-text
decreases-loop-text l = length l.other-inside.texts.items
