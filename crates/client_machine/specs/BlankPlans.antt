-- Plans that are written over (this project's own).
use Rattle.std.specs.Prelude.{[]}
use Rattle.client_machine.specs.declared.parts.PlannedStep.{PlannedStep}
use Rattle.client_machine.specs.declared.parts.Change.TheVariants as changes
use Rattle.client_machine.specs.declared.parts.Up.TheVariants as ups

-- the plan by which nothing is done
abbrev pub blank_plan : PlannedStep
blank_plan = record { change = changes.Nothing; treated = 0; plays = []; hand = []; up = ups.Nothing }
