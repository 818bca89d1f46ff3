use Rattle.std.proofs.Math.Logic.{∥∥₁_map}
use Rattle.gateway_hub.specs.Keeps.{Keeps, StandsIdle}
use Rattle.hub_queues.specs.Places.{line_at}
use Rattle.gateway_hub.proofs.GoLemmas.{shuts_go}
use Rattle.gateway_hub.proofs.ShowLemmas.{shuts_shown}
use Rattle.gateway_hub.proofs.hub.Hub.shut.Goals as goal

pub invariant_of-self : goal.invariant_of-self
invariant_of-self g c =
    let stands = StandsIdle g.M.Core.stands g.M.Core.waits g.M.Core.bases in
    let old = c.args.self.now.state in
    let new = c.shut.new.self in
    record {
      keeps = ∥∥₁_map c.args.self.now.keeps (λ k.
          let s = shuts_go c.args.seat.now.conn (line_at old.desk.places.items c.args.seat.now.conn) c.shut.result (Keeps (stands old.core) (g.R.Recorder.entries old.recorder) (g.R.Recorder.faults old.recorder) old.desk) (Keeps (stands new.core) (g.R.Recorder.entries new.recorder) (g.R.Recorder.faults new.recorder) new.desk) old.desk new.desk
          c.shut.ensures.shuts k.history k.keeps in
          record { history = s.0; keeps = s.1 });
    }

pub returns-clause-failed : goal.returns-clause-failed
returns-clause-failed g c =
    let stands = StandsIdle g.M.Core.stands g.M.Core.waits g.M.Core.bases in
    let old = c.args.self.now.state in
    let new = c.shut.new.self in
    shuts_shown c.args.seat.now.conn (line_at old.desk.places.items c.args.seat.now.conn) c.shut.result (Keeps (stands old.core) (g.R.Recorder.entries old.recorder) (g.R.Recorder.faults old.recorder) old.desk) (Keeps (stands new.core) (g.R.Recorder.entries new.recorder) (g.R.Recorder.faults new.recorder) new.desk) old.desk new.desk (g.R.Recorder.faults old.recorder) (g.R.Recorder.faults new.recorder) c.shut.ensures.shuts c.shut.ensures.shown
