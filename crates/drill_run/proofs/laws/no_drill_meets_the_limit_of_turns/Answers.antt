use Rattle.drill_run.proofs.LimitLemmas.{turns_few, never_met}
use Rattle.drill_run.proofs.laws.no_drill_meets_the_limit_of_turns.Goals as goal

pub returns-clause-turns : goal.returns-clause-turns
returns-clause-turns c = turns_few

pub returns-clause-limit : goal.returns-clause-limit
returns-clause-limit c = never_met
