use Rattle.std.proofs.Math.Logic.{∥∥₁_map}
use Rattle.gateway_hub.specs.Keeps.{Keeps, StandsIdle}
use Rattle.gateway_hub.proofs.GoLemmas.{takes_go}
use Rattle.gateway_hub.proofs.ShowLemmas.{takes_shown}
use Rattle.gateway_hub.proofs.hub.Hub.take.Goals as goal

pub invariant_of-self : goal.invariant_of-self
invariant_of-self g c =
    let stands = StandsIdle g.M.Core.stands g.M.Core.waits g.M.Core.bases in
    let old = c.args.self.now.state in
    let new = c.take.new.self in
    record {
      keeps = ∥∥₁_map c.args.self.now.keeps (λ k.
          let s = takes_go c.args.seat.now.conn (g.M.Core.is_busy (g.M.Core.bases old.core) c.args.seat.now.conn) c.take.result (Keeps (stands old.core) (g.R.Recorder.entries old.recorder) (g.R.Recorder.faults old.recorder) old.desk) (Keeps (stands new.core) (g.R.Recorder.entries new.recorder) (g.R.Recorder.faults new.recorder) new.desk) old.desk new.desk
          c.take.ensures.takes k.history k.keeps in
          record { history = s.0; keeps = s.1 });
    }

pub returns-clause-failed : goal.returns-clause-failed
returns-clause-failed g c =
    let stands = StandsIdle g.M.Core.stands g.M.Core.waits g.M.Core.bases in
    let old = c.args.self.now.state in
    let new = c.take.new.self in
    takes_shown c.args.seat.now.conn (g.M.Core.is_busy (g.M.Core.bases old.core) c.args.seat.now.conn) c.take.result (Keeps (stands old.core) (g.R.Recorder.entries old.recorder) (g.R.Recorder.faults old.recorder) old.desk) (Keeps (stands new.core) (g.R.Recorder.entries new.recorder) (g.R.Recorder.faults new.recorder) new.desk) old.desk new.desk (g.R.Recorder.faults old.recorder) (g.R.Recorder.faults new.recorder) c.take.ensures.takes c.take.ensures.shown
