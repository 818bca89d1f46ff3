use Rattle.std.proofs.Common.{refl}
use Rattle.std.proofs.Math.Logic.{∥∥₁_map}
use Rattle.gateway_hub.specs.Keeps.{StandsIdle}
use Rattle.gateway_hub.proofs.RoomLemmas.{looked_keeps}
use Rattle.gateway_hub.proofs.EndLemmas.{look_ends}
use Rattle.gateway_hub.proofs.hub.Hub.room.Goals as goal

pub invariant_of-self : goal.invariant_of-self
invariant_of-self g c =
    let stands = StandsIdle g.M.Core.stands g.M.Core.waits g.M.Core.bases in
    let old = c.args.self.now.state in
    let now = record old.desk { places = c.room_of.new.places } in
    record {
      keeps = ∥∥₁_map c.args.self.now.keeps (λ k.
          record {
            history = k.history;
            keeps = looked_keeps c.args.conn (stands old.core) (g.R.Recorder.entries old.recorder) (g.R.Recorder.faults old.recorder) old.desk now (record { server = refl; lines = c.room_of.ensures.line; fall = refl; ending = refl }) k.history k.keeps;
          });
    }

pub returns-clause-stays : goal.returns-clause-stays
returns-clause-stays g c =
    let stands = StandsIdle g.M.Core.stands g.M.Core.waits g.M.Core.bases in
    let old = c.args.self.now.state in
    let now = record old.desk { places = c.room_of.new.places } in
    looked_keeps c.args.conn (stands old.core) (g.R.Recorder.entries old.recorder) (g.R.Recorder.faults old.recorder) old.desk now (record { server = refl; lines = c.room_of.ensures.line; fall = refl; ending = refl })

pub returns-clause-ends : goal.returns-clause-ends
returns-clause-ends g c =
    let old = c.args.self.now.state.desk in
    look_ends c.args.conn old (record old { places = c.room_of.new.places }) (record { server = refl; lines = c.room_of.ensures.line; fall = refl; ending = refl })
