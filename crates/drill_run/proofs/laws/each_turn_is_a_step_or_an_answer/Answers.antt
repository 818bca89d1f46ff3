use Rattle.drill_run.proofs.TurnCountLemmas.{turns_counted, ended_counted, steps_counted}
use Rattle.drill_run.proofs.laws.each_turn_is_a_step_or_an_answer.Goals as goal

pub returns-clause-going : goal.returns-clause-going
returns-clause-going c = turns_counted

pub returns-clause-over : goal.returns-clause-over
returns-clause-over c = ended_counted

pub returns-clause-steps : goal.returns-clause-steps
returns-clause-steps c = steps_counted
