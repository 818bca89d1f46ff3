use Rattle.std.proofs.Common.{Bool, false, refl, sym, subst}
use Rattle.gateway_hub.specs.Take.{SettlesOwed}
use Rattle.gateway_hub.specs.Keeps.{StandsIdle}
use Rattle.gateway_hub.proofs.OweLemmas.{end_taken, end_untaken, full_as, none_owed, stops_as}
use Rattle.gateway_hub.proofs.EndLemmas.{ends_here, ends_twice, stop_ends}
use Rattle.gateway_hub.proofs.PutLemmas.{nothing_put}
use Rattle.std.proofs.Common.{ap, ◌∙◌}
use Rattle.gateway_hub.specs.declared.desk.Desk.{Desk}
use Rattle.std.specs.Global.{Vec}
use Rattle.hub_queues.specs.declared.line.Place.{Place}
use Rattle.gateway_hub.proofs.ShowLemmas.{shown_same, shown_untaken}
use Rattle.gateway_hub.proofs.state.HubState.end_if_full.Goals as goal

pub returns-in-Ok-clause-settles : goal.returns-in-Ok-clause-settles
returns-in-Ok-clause-settles g c = λ client.
    let stands = StandsIdle g.M.Core.stands g.M.Core.waits g.M.Core.bases in
    let old = c.args.self.now in
    let new = c.take_one.new.self in
    full_as c.args.full c.if-not-full.false client (stands old.core) (stands new.core) (g.R.Recorder.entries old.recorder) (g.R.Recorder.entries new.recorder) (g.R.Recorder.faults old.recorder) (g.R.Recorder.faults new.recorder) old.desk new.desk
    (end_taken (stands old.core) (stands new.core) (g.R.Recorder.entries old.recorder) (g.R.Recorder.entries new.recorder) (g.R.Recorder.faults old.recorder) (g.R.Recorder.faults new.recorder) old.desk new.desk c.in-Ok.delivery
    c.in-Ok.ensures.ok c.take_one.ensures.later c.in-Ok.ensures.puts client)

pub returns-in-Err-clause-settles : goal.returns-in-Err-clause-settles
returns-in-Err-clause-settles g c = λ client.
    let stands = StandsIdle g.M.Core.stands g.M.Core.waits g.M.Core.bases in
    let old = c.args.self.now in
    let new = c.take_one.new.self in
    full_as c.args.full c.if-not-full.false client (stands old.core) (stands new.core) (g.R.Recorder.entries old.recorder) (g.R.Recorder.entries new.recorder) (g.R.Recorder.faults old.recorder) (g.R.Recorder.faults new.recorder) old.desk c.stop.new.self
    (end_untaken c.in-Err.refused.fault (stands old.core) (stands new.core) (g.R.Recorder.entries old.recorder) (g.R.Recorder.entries new.recorder) (g.R.Recorder.faults old.recorder) (g.R.Recorder.faults new.recorder) old.desk new.desk c.stop.new.self
    c.in-Err.ensures.err.1 c.take_one.ensures.later (stops_as c.stop_of.result c.in-Err.refused.fault new.desk c.stop.new.self c.stop_of.ensures c.stop.ensures) client)

pub returns-then-not-full-clause-settles : goal.returns-then-not-full-clause-settles
returns-then-not-full-clause-settles g c = λ client.
    let stands = StandsIdle g.M.Core.stands g.M.Core.waits g.M.Core.bases in
    let old = c.args.self.now in
    subst (λ (b : Bool). SettlesOwed client b client false (stands old.core) (stands old.core) (g.R.Recorder.entries old.recorder) (g.R.Recorder.entries old.recorder) (g.R.Recorder.faults old.recorder) (g.R.Recorder.faults old.recorder) old.desk old.desk) (sym c.if-not-full.true)
    (none_owed client (stands old.core) (g.R.Recorder.entries old.recorder) (g.R.Recorder.faults old.recorder) old.desk)

pub returns-in-Err-clause-ends : goal.returns-in-Err-clause-ends
returns-in-Err-clause-ends g c = ends_twice c.args.self.now.desk c.take_one.new.self.desk c.stop.new.self c.take_one.ensures.ends (stop_ends _ _ _ c.stop.ensures)

pub returns-in-Err-clause-puts : goal.returns-in-Err-clause-puts
returns-in-Err-clause-puts g c = nothing_put _ _ (ap (λ (v : Vec Place). v.items) c.stop.ensures.places ∙ ap (λ (d : Desk). d.places.items) c.in-Err.ensures.err.1.same_desk)

pub returns-then-not-full-clause-puts : goal.returns-then-not-full-clause-puts
returns-then-not-full-clause-puts g c = nothing_put _ _ refl

pub returns-then-not-full-clause-ends : goal.returns-then-not-full-clause-ends
returns-then-not-full-clause-ends g c = ends_here c.args.self.now.desk

pub returns-in-Err-clause-shown : goal.returns-in-Err-clause-shown
returns-in-Err-clause-shown g c =
    let stands = StandsIdle g.M.Core.stands g.M.Core.waits g.M.Core.bases in
    let old = c.args.self.now in
    let new = c.take_one.new.self in
    shown_untaken c.in-Err.refused.fault (stands old.core) (stands new.core) (g.R.Recorder.entries old.recorder) (g.R.Recorder.entries new.recorder) (g.R.Recorder.faults old.recorder) (g.R.Recorder.faults new.recorder) old.desk new.desk c.stop.new.self
    c.in-Err.ensures.err.1 (stops_as c.stop_of.result c.in-Err.refused.fault new.desk c.stop.new.self c.stop_of.ensures c.stop.ensures)

pub returns-then-not-full-clause-shown : goal.returns-then-not-full-clause-shown
returns-then-not-full-clause-shown g c = shown_same _ _ _ _ refl
