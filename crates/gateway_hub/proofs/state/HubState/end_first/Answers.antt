use Rattle.std.proofs.Common.{refl, sym, ◌∙◌}
use Rattle.gateway_hub.specs.Keeps.{StandsIdle}
use Rattle.gateway_hub.proofs.RetireLemmas.{ends_kept, ends_dead, ends_taken, ends_untaken}
use Rattle.gateway_hub.proofs.OweLemmas.{stops_as}
use Rattle.gateway_hub.proofs.EndLemmas.{ends_here, ends_twice, stop_ends}
use Rattle.gateway_hub.proofs.ShowLemmas.{shown_same, shown_untaken}
use Rattle.gateway_hub.proofs.state.HubState.end_first.Goals as goal

pub returns-then-is_some-clause-ends : goal.returns-then-is_some-clause-ends
returns-then-is_some-clause-ends g c =
    let stands = StandsIdle g.M.Core.stands g.M.Core.waits g.M.Core.bases in
    let old = c.args.self.now in
    ends_kept c.args.conn (stands old.core) (g.R.Recorder.entries old.recorder) (g.R.Recorder.faults old.recorder) old.desk (sym c.if-is_some.ensures)

pub returns-then-not-alive-clause-ends : goal.returns-then-not-alive-clause-ends
returns-then-not-alive-clause-ends g c =
    let stands = StandsIdle g.M.Core.stands g.M.Core.waits g.M.Core.bases in
    let old = c.args.self.now in
    ends_dead c.args.conn (stands old.core) (g.R.Recorder.entries old.recorder) (g.R.Recorder.faults old.recorder) old.desk (λ T s. sym (c.alive.ensures T s.stood) ∙ c.if-not-alive.true)

pub returns-in-Ok-clause-ends : goal.returns-in-Ok-clause-ends
returns-in-Ok-clause-ends g c =
    let stands = StandsIdle g.M.Core.stands g.M.Core.waits g.M.Core.bases in
    let old = c.args.self.now in
    let new = c.take_event.new.self in
    ends_taken c.args.conn (stands old.core) (stands new.core) (g.R.Recorder.entries old.recorder) (g.R.Recorder.entries new.recorder) (g.R.Recorder.faults old.recorder) (g.R.Recorder.faults new.recorder) old.desk new.desk (sym c.if-is_some.ensures)
    (λ T s. sym (c.alive.ensures T s.stood) ∙ c.if-not-alive.false) c.in-Ok.ensures.ok

pub returns-in-Err-clause-ends : goal.returns-in-Err-clause-ends
returns-in-Err-clause-ends g c =
    let stands = StandsIdle g.M.Core.stands g.M.Core.waits g.M.Core.bases in
    let old = c.args.self.now in
    let new = c.take_event.new.self in
    ends_untaken c.args.conn c.in-Err.refused.fault (stands old.core) (stands new.core) (g.R.Recorder.entries old.recorder) (g.R.Recorder.entries new.recorder) (g.R.Recorder.faults old.recorder) (g.R.Recorder.faults new.recorder) old.desk new.desk c.stop.new.self
    (sym c.if-is_some.ensures) (λ T s. sym (c.alive.ensures T s.stood) ∙ c.if-not-alive.false) c.in-Err.ensures.err.1 c.take_event.ensures.later (stops_as c.stop_of.result c.in-Err.refused.fault new.desk c.stop.new.self c.stop_of.ensures c.stop.ensures)

pub returns-in-Err-clause-in_place : goal.returns-in-Err-clause-in_place
returns-in-Err-clause-in_place g c = ends_twice c.args.self.now.desk c.take_event.new.self.desk c.stop.new.self c.take_event.ensures.ends (stop_ends _ _ _ c.stop.ensures)

pub returns-then-is_some-clause-in_place : goal.returns-then-is_some-clause-in_place
returns-then-is_some-clause-in_place g c = ends_here c.args.self.now.desk

pub returns-then-not-alive-clause-in_place : goal.returns-then-not-alive-clause-in_place
returns-then-not-alive-clause-in_place g c = ends_here c.args.self.now.desk

pub returns-in-Err-clause-shown : goal.returns-in-Err-clause-shown
returns-in-Err-clause-shown g c =
    let stands = StandsIdle g.M.Core.stands g.M.Core.waits g.M.Core.bases in
    let old = c.args.self.now in
    let new = c.take_event.new.self in
    shown_untaken c.in-Err.refused.fault (stands old.core) (stands new.core) (g.R.Recorder.entries old.recorder) (g.R.Recorder.entries new.recorder) (g.R.Recorder.faults old.recorder) (g.R.Recorder.faults new.recorder) old.desk new.desk c.stop.new.self
    c.in-Err.ensures.err.1 (stops_as c.stop_of.result c.in-Err.refused.fault new.desk c.stop.new.self c.stop_of.ensures c.stop.ensures)

pub returns-then-is_some-clause-shown : goal.returns-then-is_some-clause-shown
returns-then-is_some-clause-shown g c = shown_same _ _ _ _ refl

pub returns-then-not-alive-clause-shown : goal.returns-then-not-alive-clause-shown
returns-then-not-alive-clause-shown g c = shown_same _ _ _ _ refl
