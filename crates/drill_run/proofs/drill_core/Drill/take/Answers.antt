use Rattle.std.proofs.Common.{ap, ◌∙◌}
use Rattle.rtsp_head.specs.Shapes.{shapes}
use Rattle.drill_run.proofs.PlayLemmas.{drives_one}
use Rattle.drill_run.proofs.drill_core.Drill.take.Goals as goal

pub returns : goal.returns
returns g c =
    drives_one g.M.Core.stands g.M.Core.bases c.args.self.now.core c.step.new.core c.args.self.now.stage c.take.new.self c.args.event c.in_ok-outcome.outcome
    c.requests-requests.result (shapes c.as_slice.result.now) c.in_ok-outcome.ensures.stands c.in_ok-outcome.ensures.bases c.requests-requests.ensures
    (ap shapes c.as_slice.ensures.value ∙ c.in_ok-items.ensures) c.in_ok-take.ensures
