use Rattle.std.proofs.Math.Logic.{∥∥₁_map}
use Rattle.gateway_hub.specs.Keeps.{StandsIdle}
use Rattle.gateway_hub.proofs.CloseLemmas.{closes_with}
use Rattle.gateway_hub.proofs.hub.Hub.close.Goals as goal

pub returns-clause-receipts : goal.returns-clause-receipts
returns-clause-receipts g c = λ T k.
    let stands = StandsIdle g.M.Core.stands g.M.Core.waits g.M.Core.bases in
    let state = c.args.self.state in
    rw c.close.ensures.recorder (rw c.close.ensures.receipts (closes_with (stands state.core) (g.R.Recorder.entries state.recorder) (g.R.Recorder.faults state.recorder) state.desk T k))

pub returns-clause-history : goal.returns-clause-history
returns-clause-history g c =
    let stands = StandsIdle g.M.Core.stands g.M.Core.waits g.M.Core.bases in
    let laws = g.met.M.Core g.world.𝓛 g.world.𝓜 g.world.𝓡 ((λ s x. x), (λ x. x), (λ x. x), λ x. x) in
    let state = c.args.self.state in
    ∥∥₁_map c.args.self.keeps (λ k.
    record {
      history = k.history;
      is_history = laws.history state.core k.history k.keeps.underway.stood.stood;
      closes = rw c.close.ensures.recorder (rw c.close.ensures.receipts (closes_with (stands state.core) (g.R.Recorder.entries state.recorder) (g.R.Recorder.faults state.recorder) state.desk k.history k.keeps));
    })
