use Rattle.std.proofs.Math.Logic.{∥∥₁_map}
use Rattle.gateway_hub.specs.Keeps.{StandsIdle}
use Rattle.gateway_hub.proofs.EndLemmas.{stop_ends}
use Rattle.gateway_hub.proofs.OweLemmas.{stop_keeps}
use Rattle.gateway_hub.proofs.hub.Hub.stop.Goals as goal

pub invariant_of-self : goal.invariant_of-self
invariant_of-self g c =
    let stands = StandsIdle g.M.Core.stands g.M.Core.waits g.M.Core.bases in
    let old = c.args.self.now.state in
    record {
      keeps = ∥∥₁_map c.args.self.now.keeps (λ k.
          record {
            history = k.history;
            keeps = stop_keeps (stands old.core) (g.R.Recorder.entries old.recorder) (g.R.Recorder.faults old.recorder) old.desk c.stop.new.self c.args.why c.stop.ensures (λ is. absurd (c.requires.record_fault is)) (λ is. absurd (c.requires.spent is)) k.history k.keeps;
          });
    }

pub returns-clause-stays : goal.returns-clause-stays
returns-clause-stays g c = λ T k.
    let stands = StandsIdle g.M.Core.stands g.M.Core.waits g.M.Core.bases in
    let old = c.args.self.now.state in
    stop_keeps (stands old.core) (g.R.Recorder.entries old.recorder) (g.R.Recorder.faults old.recorder) old.desk c.stop.new.self c.args.why c.stop.ensures (λ is. absurd (c.requires.record_fault is)) (λ is. absurd (c.requires.spent is)) T k

pub returns-clause-ends : goal.returns-clause-ends
returns-clause-ends g c = stop_ends _ _ _ c.stop.ensures
