use Rattle.std.proofs.Common.{ℕ, Bool, Option, refl, subst}
use Rattle.gateway_hub.specs.Desks.{fall_heard}
use Rattle.gateway_hub.specs.Retire.{RetiresPlace}
use Rattle.gateway_hub.specs.Keeps.{StandsIdle}
use Rattle.gateway_hub.proofs.RetireLemmas.{retires_all}
use Rattle.client_ports.specs.Ends.{put_of, taken_of}
use Rattle.std.proofs.Common.{length}
use Rattle.gateway_hub.proofs.EndLemmas.{retire_ends}
use Rattle.gateway_hub.proofs.state.HubState.retire.Goals as goal

pub returns-clause-retires : goal.returns-clause-retires
returns-clause-retires g c =
    let stands = StandsIdle g.M.Core.stands g.M.Core.waits g.M.Core.bases in
    let old = c.args.self.now in
    let mid = c.end_first.new.self in
    let now = record mid.desk { places = c.retire_of.new.places } in
    let conn = c.args.conn in
    let receipt = c.retire_of.result in
    retires_all conn (length (put_of c.args.inward)) (length (taken_of c.args.outward)) receipt (stands old.core) (stands mid.core) (g.R.Recorder.entries old.recorder) (g.R.Recorder.entries mid.recorder) (g.R.Recorder.faults old.recorder) (g.R.Recorder.faults mid.recorder)
    old.desk mid.desk now c.end_first.ensures.ends
    (subst (λ (n : ℕ). RetiresPlace conn n (length (taken_of c.args.outward)) (fall_heard mid.desk.fall) mid.desk.ending receipt mid.desk.places.items now.places.items) c.count-pushed.ensures
    (subst (λ (n : ℕ). RetiresPlace conn c.count-pushed.result n (fall_heard mid.desk.fall) mid.desk.ending receipt mid.desk.places.items now.places.items) c.count-taken.ensures
    (subst (λ (f : Option Bool). RetiresPlace conn c.count-pushed.result c.count-taken.result f mid.desk.ending receipt mid.desk.places.items now.places.items) c.fall_heard.ensures c.retire_of.ensures))) refl refl refl

pub returns-clause-ends : goal.returns-clause-ends
returns-clause-ends g c =
    let mid = c.end_first.new.self.desk in
    retire_ends c.args.conn c.count-pushed.result c.count-taken.result c.fall_heard.result mid.ending c.retire_of.result c.args.self.now.desk mid (record mid { places = c.retire_of.new.places }) c.end_first.ensures.in_place refl c.retire_of.ensures
