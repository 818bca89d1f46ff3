use Rattle.gateway_claim.specs.Cores.{IsCoreHistory}
use Rattle.drill_run.specs.Reports.{IsDrilledHistory}
use Rattle.drill_run.proofs.EndLemmas.{ends_drill}
use Rattle.drill_run.proofs.laws.a_drill_is_written.Goals as goal

pub returns-clause-drilled : goal.returns-clause-drilled
returns-clause-drilled g c = ends_drill IsDrilledHistory

pub returns-clause-on_a_core : goal.returns-clause-on_a_core
returns-clause-on_a_core g c bases = ends_drill (IsCoreHistory g.M.Core.follows bases)
