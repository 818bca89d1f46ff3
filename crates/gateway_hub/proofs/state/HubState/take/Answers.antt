use Rattle.std.proofs.Common.{Some, None, refl, rules}
use Rattle.rtsp_head.specs.Shapes.{shape_of}
use Rattle.gateway_hub.specs.Keeps.{StandsIdle}
use Rattle.gateway_hub.proofs.InwardLemmas.{in_hand, none_in_line, empty_line, client_refused}
use Rattle.gateway_hub.proofs.EndLemmas.{ends_here, ends_twice, fetch_ends, back_ends, refuse_ends}
use Rattle.gateway_hub.proofs.ShowLemmas.{shown_same, shown_refused}
use Rattle.gateway_hub.proofs.state.HubState.take.Goals as goal

pub take_event-requires : goal.take_event-requires
take_event-requires g c = (search rules, (search rules, (c.in-Ready.ensures.key, λ T s. (c.in-Ready.ensures.tells T s).1)))

pub returns-in_default-next_of-clause-takes : goal.returns-in_default-next_of-clause-takes
returns-in_default-next_of-clause-takes g c =
    let stands = StandsIdle g.M.Core.stands g.M.Core.waits g.M.Core.bases in
    let old = c.args.self.now in
    let mid = record old.desk { places = c.next_of.new.places } in (
      c.in_default.is,
      (λ T k. c.in-Ready.ensures.tells T k.underway.stood.stood),
      (λ T k. none_in_line c.args.conn (stands old.core) (g.R.Recorder.entries old.recorder) (g.R.Recorder.faults old.recorder) old.desk mid T c.in_default-next_of.ensures.line refl refl refl k),
      (λ T k. empty_line c.args.conn (stands old.core) (g.R.Recorder.entries old.recorder) (g.R.Recorder.faults old.recorder) old.desk mid T c.in_default-next_of.ensures.line c.in_default.is (c.in-Ready.ensures.tells T k.underway.stood.stood).0 k),
    )

pub returns-in-Ok-clause-takes : goal.returns-in-Ok-clause-takes
returns-in-Ok-clause-takes g c =
    let stands = StandsIdle g.M.Core.stands g.M.Core.waits g.M.Core.bases in
    let old = c.args.self.now in
    let mid = record old.desk { places = c.next_of.new.places } in
    let e = c.in-Ok.ensures.ok in (
      c.in_default.is,
      (λ T k. c.in-Ready.ensures.tells T k.underway.stood.stood),
      (
        shape_of c.in-Some-next_of.item,
        record {
          outcome = e.outcome;
          later = e.later;
          late = e.late;
          grows = λ T k. e.keeps T (in_hand c.args.conn c.in-Some-next_of.item (stands old.core) (g.R.Recorder.entries old.recorder) (g.R.Recorder.faults old.recorder) old.desk mid T c.in-Some-next_of.ensures.line refl refl refl c.in_default.is
              (c.in-Ready.ensures.tells T k.underway.stood.stood).0 k);
        },
      ),
    )

pub returns-in-Err-clause-takes : goal.returns-in-Err-clause-takes
returns-in-Err-clause-takes g c =
    let stands = StandsIdle g.M.Core.stands g.M.Core.waits g.M.Core.bases in
    let old = c.args.self.now in
    let new = c.take_event.new.self in
    let mid = record old.desk { places = c.next_of.new.places } in
    client_refused c.args.conn c.in-Some-next_of.item c.in-Err.refused.fault c.fault_of.result c.in-Err.refused.event (stands old.core) (stands new.core) (g.R.Recorder.entries old.recorder) (g.R.Recorder.entries new.recorder) (g.R.Recorder.faults old.recorder) (g.R.Recorder.faults new.recorder)
    old.desk mid new.desk c.give_back.new.self c.fault_of.new.self (λ T s. (c.in-Ready.ensures.tells T s.stood).0) c.in-Some-next_of.ensures.line refl refl refl c.in_default.is c.in-Err.ensures.err.0 c.in-Err.ensures.err.1 c.take_event.ensures.later c.give_back.ensures c.fault_of.ensures

pub returns-in_default-next_of-clause-ends : goal.returns-in_default-next_of-clause-ends
returns-in_default-next_of-clause-ends g c =
    let old = c.args.self.now.desk in
    fetch_ends c.args.conn None old (record old { places = c.next_of.new.places }) c.in_default-next_of.ensures.line refl

pub returns-in-Ok-clause-ends : goal.returns-in-Ok-clause-ends
returns-in-Ok-clause-ends g c =
    let old = c.args.self.now.desk in
    let mid = record old { places = c.next_of.new.places } in
    ends_twice old mid c.take_event.new.self.desk (fetch_ends c.args.conn (Some c.in-Some-next_of.item) old mid c.in-Some-next_of.ensures.line refl) c.take_event.ensures.ends

pub returns-in-Err-clause-ends : goal.returns-in-Err-clause-ends
returns-in-Err-clause-ends g c =
    let old = c.args.self.now.desk in
    let mid = record old { places = c.next_of.new.places } in
    let back = c.give_back.new.self in
    ends_twice old back c.fault_of.new.self
    (ends_twice old c.take_event.new.self.desk back (ends_twice old mid c.take_event.new.self.desk (fetch_ends c.args.conn (Some c.in-Some-next_of.item) old mid c.in-Some-next_of.ensures.line refl) c.take_event.ensures.ends) (back_ends _ _ _ c.give_back.ensures))
    (refuse_ends _ _ _ _ c.fault_of.ensures)

pub returns-in-Some-clause-ends : goal.returns-in-Some-clause-ends
returns-in-Some-clause-ends g c = ends_here c.args.self.now.desk

pub returns-in-Closed-clause-ends : goal.returns-in-Closed-clause-ends
returns-in-Closed-clause-ends g c = ends_here c.args.self.now.desk

pub returns-in-Busy-clause-ends : goal.returns-in-Busy-clause-ends
returns-in-Busy-clause-ends g c = ends_here c.args.self.now.desk

pub returns-in-Err-clause-shown : goal.returns-in-Err-clause-shown
returns-in-Err-clause-shown g c =
    let stands = StandsIdle g.M.Core.stands g.M.Core.waits g.M.Core.bases in
    let old = c.args.self.now in
    let new = c.take_event.new.self in
    let mid = record old.desk { places = c.next_of.new.places } in
    shown_refused c.in-Err.refused.fault c.fault_of.result (stands old.core) (stands new.core) (g.R.Recorder.entries old.recorder) (g.R.Recorder.entries new.recorder) (g.R.Recorder.faults old.recorder) (g.R.Recorder.faults new.recorder)
    mid new.desk c.give_back.new.self c.fault_of.new.self c.in-Err.ensures.err.1 c.give_back.ensures.ending c.fault_of.ensures

pub returns-in_default-next_of-clause-shown : goal.returns-in_default-next_of-clause-shown
returns-in_default-next_of-clause-shown g c = shown_same _ _ _ _ refl

pub returns-in-Some-clause-shown : goal.returns-in-Some-clause-shown
returns-in-Some-clause-shown g c = shown_same _ _ _ _ refl

pub returns-in-Closed-clause-shown : goal.returns-in-Closed-clause-shown
returns-in-Closed-clause-shown g c = shown_same _ _ _ _ refl

pub returns-in-Busy-clause-shown : goal.returns-in-Busy-clause-shown
returns-in-Busy-clause-shown g c = shown_same _ _ _ _ refl
