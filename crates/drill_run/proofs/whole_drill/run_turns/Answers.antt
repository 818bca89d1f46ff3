use Rattle.drill_run.specs.Plays.{Plays}
use Rattle.drill_run.proofs.RunLemmas.{run_more, run_ended}
use Rattle.drill_run.proofs.whole_drill.run_turns.Goals as goal

pub loop-turn-preserved : goal.loop-turn-preserved
loop-turn-preserved g c = λ number between run.
    run_more c.loop-turn._turn c.args.players number (Plays g.M.Core.stands g.M.Core.bases c.loop-turn.drill.core c.loop-turn.drill.stage between)
    (Plays g.M.Core.stands g.M.Core.bases c.turn.new.self.core c.turn.new.self.stage between) (c.loop-turn.invariant number between run)
    (let made = rw c.if-not-branch.false at c.in_ok-turn.ensures in made between)

pub returns-then-not-branch : goal.returns-then-not-branch
returns-then-not-branch g c = λ number between run.
    run_ended c.loop-turn._turn c.args.players number (Plays g.M.Core.stands g.M.Core.bases c.loop-turn.drill.core c.loop-turn.drill.stage between)
    (Plays g.M.Core.stands g.M.Core.bases c.turn.new.self.core c.turn.new.self.stage between) (c.loop-turn.invariant number between run)
    (let made = rw c.if-not-branch.true at c.in_ok-turn.ensures in made between)
