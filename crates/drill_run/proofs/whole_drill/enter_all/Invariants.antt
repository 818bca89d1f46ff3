use Rattle.std.proofs.Common.{◌≡◌}
use Rattle.drill_run.specs.Turns.{entered_below}
use Rattle.drill_run.proofs.whole_drill.enter_all.Given as goal

-- so many connections have entered
abbrev pub invariant-loop-conn : goal.invariant-loop-conn
invariant-loop-conn g l = record {
  stands : g.M.Core.stands l.core (entered_below l.conn);
  bases : g.M.Core.bases l.core ≡ g.M.Core.bases l.fn.core;
}
