use Rattle.std.proofs.Common.{◌∙◌}
use Rattle.drill_run.proofs.RunLemmas.{new_to, one_entered}
use Rattle.drill_run.proofs.whole_drill.enter_all.Goals as goal

pub enter-requires : goal.enter-requires
enter-requires g c = ∣ new_to (g.M.Core.stands c.loop-conn.core) c.loop-conn.conn c.loop-conn.invariant.stands ∣₁

pub loop-conn-preserved : goal.loop-conn-preserved
loop-conn-preserved g c = record {
  stands = one_entered (g.M.Core.stands c.loop-conn.core) (g.M.Core.stands c.enter.new.self) c.loop-conn.conn c.loop-conn.invariant.stands c.in_ok-enter.ensures.ok;
  bases = c.in_ok-enter.ensures.bases ∙ c.loop-conn.invariant.bases;
}
