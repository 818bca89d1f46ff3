use Rattle.std.proofs.Common.{ℕ, false, Option, subst}
use Rattle.gateway_hub.specs.Ends.{PutsFor}
use Rattle.gateway_hub.specs.Take.{SettlesOwed}
use Rattle.gateway_hub.specs.Keeps.{StandsIdle}
use Rattle.gateway_hub.proofs.OweLemmas.{lag_stopped, lag_untaken, client_as, none_owed, stops_as}
use Rattle.gateway_hub.proofs.LateLemmas.{lag_taken}
use Rattle.std.proofs.Common.{None, sym}
use Rattle.gateway_hub.proofs.EndLemmas.{ends_here, ends_twice, ends_same}
use Rattle.gateway_hub.proofs.PutLemmas.{nothing_put, puts_twice}
use Rattle.std.proofs.Common.{ap, refl, ◌∙◌}
use Rattle.gateway_hub.specs.declared.desk.Desk.{Desk}
use Rattle.std.specs.Global.{Vec}
use Rattle.hub_queues.specs.declared.line.Place.{Place}
use Rattle.gateway_hub.proofs.ShowLemmas.{shown_same, shown_twice, shown_left}
use Rattle.gateway_hub.proofs.state.HubState.lag_if_full.Goals as goal

pub returns-then-is_stopped-clause-settles : goal.returns-then-is_stopped-clause-settles
returns-then-is_stopped-clause-settles g c =
    let stands = StandsIdle g.M.Core.stands g.M.Core.waits g.M.Core.bases in
    let old = c.args.self.now in
    client_as c.args.client c.in-Some.conn c.in-Some.is (stands old.core) (stands old.core) (g.R.Recorder.entries old.recorder) (g.R.Recorder.entries old.recorder) (g.R.Recorder.faults old.recorder) (g.R.Recorder.faults old.recorder) old.desk old.desk
    (lag_stopped (stands old.core) (g.R.Recorder.entries old.recorder) (g.R.Recorder.faults old.recorder) old.desk c.in-Some.conn (sym c.if-is_stopped.ensures))

pub returns-in-Ok-clause-settles : goal.returns-in-Ok-clause-settles
returns-in-Ok-clause-settles g c =
    let stands = StandsIdle g.M.Core.stands g.M.Core.waits g.M.Core.bases in
    let old = c.args.self.now in
    let mid = c.take_one.new.self in
    let new = c.end_if_full-later.new.self in
    client_as c.args.client c.in-Some.conn c.in-Some.is (stands old.core) (stands new.core) (g.R.Recorder.entries old.recorder) (g.R.Recorder.entries new.recorder) (g.R.Recorder.faults old.recorder) (g.R.Recorder.faults new.recorder) old.desk new.desk
    (lag_taken (stands old.core) (stands mid.core) (stands new.core) (g.R.Recorder.entries old.recorder) (g.R.Recorder.entries mid.recorder) (g.R.Recorder.entries new.recorder) (g.R.Recorder.faults old.recorder) (g.R.Recorder.faults mid.recorder) (g.R.Recorder.faults new.recorder)
    old.desk mid.desk new.desk c.in-Some.conn c.in-Ok.delivery (sym c.if-is_stopped.ensures) c.in-Ok.ensures.ok c.take_one.ensures.later c.in-Ok.ensures.puts (c.end_if_full-later.ensures.settles None))

pub returns-in-Err-clause-settles : goal.returns-in-Err-clause-settles
returns-in-Err-clause-settles g c =
    let stands = StandsIdle g.M.Core.stands g.M.Core.waits g.M.Core.bases in
    let old = c.args.self.now in
    let new = c.take_one.new.self in
    client_as c.args.client c.in-Some.conn c.in-Some.is (stands old.core) (stands new.core) (g.R.Recorder.entries old.recorder) (g.R.Recorder.entries new.recorder) (g.R.Recorder.faults old.recorder) (g.R.Recorder.faults new.recorder) old.desk c.stop.new.self
    (lag_untaken c.in-Err.refused.fault (stands old.core) (stands new.core) (g.R.Recorder.entries old.recorder) (g.R.Recorder.entries new.recorder) (g.R.Recorder.faults old.recorder) (g.R.Recorder.faults new.recorder) old.desk new.desk c.leave_out.new.self c.stop.new.self
    c.in-Err.ensures.err.1 c.take_one.ensures.later c.leave_out.ensures (stops_as c.stop_of.result c.in-Err.refused.fault c.leave_out.new.self c.stop.new.self c.stop_of.ensures c.stop.ensures) c.in-Some.conn)

pub returns-in_default-clause-settles : goal.returns-in_default-clause-settles
returns-in_default-clause-settles g c =
    let stands = StandsIdle g.M.Core.stands g.M.Core.waits g.M.Core.bases in
    let old = c.args.self.now in
    subst (λ (o : Option ℕ). SettlesOwed o false None false (stands old.core) (stands old.core) (g.R.Recorder.entries old.recorder) (g.R.Recorder.entries old.recorder) (g.R.Recorder.faults old.recorder) (g.R.Recorder.faults old.recorder) old.desk old.desk) (sym c.in_default.is)
    (none_owed None (stands old.core) (g.R.Recorder.entries old.recorder) (g.R.Recorder.faults old.recorder) old.desk)

pub returns-in-Ok-clause-ends : goal.returns-in-Ok-clause-ends
returns-in-Ok-clause-ends g c = ends_twice c.args.self.now.desk c.take_one.new.self.desk c.end_if_full-later.new.self.desk c.take_one.ensures.ends c.end_if_full-later.ensures.ends

pub returns-in-Ok-clause-puts : goal.returns-in-Ok-clause-puts
returns-in-Ok-clause-puts g c = subst (λ (o : Option ℕ). PutsFor o c.args.self.now.desk.places.items c.end_if_full-later.new.self.desk.places.items) (sym c.or.ensures)
    (puts_twice c.in-Ok.delivery.landed c.end_if_full-later.result c.args.self.now.desk.places.items c.take_one.new.self.desk.places.items c.end_if_full-later.new.self.desk.places.items c.take_one.ensures.ends.lines c.in-Ok.ensures.puts c.end_if_full-later.ensures.puts)

pub returns-in-Err-clause-ends : goal.returns-in-Err-clause-ends
returns-in-Err-clause-ends g c = ends_twice c.args.self.now.desk c.take_one.new.self.desk c.stop.new.self c.take_one.ensures.ends
    (ends_same c.take_one.new.self.desk c.stop.new.self (c.stop.ensures.server ∙ c.leave_out.ensures.server) (ap (λ (v : Vec Place). v.items) (c.stop.ensures.places ∙ c.leave_out.ensures.places)))

pub returns-in-Err-clause-puts : goal.returns-in-Err-clause-puts
returns-in-Err-clause-puts g c = nothing_put _ _ (ap (λ (v : Vec Place). v.items) (c.stop.ensures.places ∙ c.leave_out.ensures.places) ∙ ap (λ (d : Desk). d.places.items) c.in-Err.ensures.err.1.same_desk)

pub returns-then-is_stopped-clause-puts : goal.returns-then-is_stopped-clause-puts
returns-then-is_stopped-clause-puts g c = nothing_put _ _ refl

pub returns-in_default-clause-puts : goal.returns-in_default-clause-puts
returns-in_default-clause-puts g c = nothing_put _ _ refl

pub returns-in_default-clause-ends : goal.returns-in_default-clause-ends
returns-in_default-clause-ends g c = ends_here c.args.self.now.desk

pub returns-then-is_stopped-clause-ends : goal.returns-then-is_stopped-clause-ends
returns-then-is_stopped-clause-ends g c = ends_here c.args.self.now.desk

pub returns-in-Ok-clause-shown : goal.returns-in-Ok-clause-shown
returns-in-Ok-clause-shown g c = shown_twice _ _ _ _ _ _ c.take_one.ensures.later c.end_if_full-later.ensures.later c.take_one.ensures.shown c.end_if_full-later.ensures.shown

pub returns-in-Err-clause-shown : goal.returns-in-Err-clause-shown
returns-in-Err-clause-shown g c =
    let stands = StandsIdle g.M.Core.stands g.M.Core.waits g.M.Core.bases in
    let old = c.args.self.now in
    let new = c.take_one.new.self in
    shown_left c.in-Err.refused.fault (stands old.core) (stands new.core) (g.R.Recorder.entries old.recorder) (g.R.Recorder.entries new.recorder) (g.R.Recorder.faults old.recorder) (g.R.Recorder.faults new.recorder) old.desk new.desk c.leave_out.new.self c.stop.new.self
    c.in-Err.ensures.err.1 c.leave_out.ensures.ending (stops_as c.stop_of.result c.in-Err.refused.fault c.leave_out.new.self c.stop.new.self c.stop_of.ensures c.stop.ensures)

pub returns-in_default-clause-shown : goal.returns-in_default-clause-shown
returns-in_default-clause-shown g c = shown_same _ _ _ _ refl

pub returns-then-is_stopped-clause-shown : goal.returns-then-is_stopped-clause-shown
returns-then-is_stopped-clause-shown g c = shown_same _ _ _ _ refl
