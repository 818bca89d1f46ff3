use Rattle.drill_run.specs.Plays.{Plays}
use Rattle.drill_run.proofs.PlayLemmas.{turn_made}
use Rattle.drill_run.proofs.drill_core.Drill.turn.Goals as goal

pub returns-in_ok-speak-in-Some : goal.returns-in_ok-speak-in-Some
returns-in_ok-speak-in-Some g c = λ between.
    turn_made g.M.Core.stands g.M.Core.bases c.args.self.now.core c.args.self.now.stage c.pick.new.self between
    (Plays g.M.Core.stands g.M.Core.bases c.speak.new.self.core c.speak.new.self.stage between) c.in-Some.who
    (rw c.in-Some.is at c.in_ok-who.ensures) (c.in_ok-speak-in-Some.ensures between)
