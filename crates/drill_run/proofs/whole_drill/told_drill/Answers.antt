use Rattle.drill_run.proofs.RunLemmas.{run_begins, tells}
use Rattle.drill_run.proofs.whole_drill.told_drill.Goals as goal

pub returns : goal.returns
returns g c =
    let laws = g.met.M.Core g.world.𝓛 g.world.𝓜 g.world.𝓡 ((λ s x. x), (λ x. x), (λ x. x), λ x. x) in
    let played = rw c.if-not-branch.false at c.in_ok-run_turns.ensures in
    tells g.M.Core.stands g.M.Core.bases g.M.Core.follows c.run_turns.new.drill.core c.run_turns.new.drill.stage (g.M.Core.bases c.args.core) c.args.players c.args.number _
    laws.history
    (played c.args.number (g.M.Core.bases c.args.core)
    (run_begins g.M.Core.stands g.M.Core.bases c.enter_all.new.core c.in_ok-stage.stage (g.M.Core.bases c.args.core) c.args.players c.args.number
    c.in_ok-enter_all.ensures.stands c.in_ok-enter_all.ensures.bases c.in_ok-stage.ensures))
    c.in_ok-drill_lines.ensures
