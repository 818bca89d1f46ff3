use Rattle.std.proofs.Common.{◌∙◌, ℕ, Option, Some, None, refl, ap}
use Rattle.std.specs.Option.{option_or}
use Rattle.rtsp_head.specs.Shapes.{shape_of}
use Rattle.gateway_hub.specs.Keeps.{StandsIdle}
use Rattle.gateway_hub.proofs.IdleLemmas.{up_in_hand, up_refused}
use Rattle.gateway_hub.proofs.EndLemmas.{ends_here, ends_twice, fetch_up_ends, back_ends, refuse_ends}
use Rattle.gateway_hub.proofs.ShowLemmas.{shown_same, shown_refused}
use Rattle.gateway_hub.proofs.state.HubState.take_up.Goals as goal

pub returns-in-Ok-clause-takes : goal.returns-in-Ok-clause-takes
returns-in-Ok-clause-takes g c =
    let stands = StandsIdle g.M.Core.stands g.M.Core.waits g.M.Core.bases in
    let old = c.args.self.now in
    let mid = record old.desk { server = c.next.new.self } in
    let e = c.in-Ok.ensures.ok in (
      c.in_default.is,
      (
        shape_of c.in-Some-next.item,
        record {
          outcome = e.outcome;
          later = e.later;
          late = e.late;
          grows = λ T k. e.keeps T (up_in_hand c.in-Some-next.item (stands old.core) (g.R.Recorder.entries old.recorder) (g.R.Recorder.faults old.recorder) old.desk mid T c.in-Some-next.ensures refl refl refl c.in_default.is k);
        },
      ),
    )

pub returns-in-Err-clause-takes : goal.returns-in-Err-clause-takes
returns-in-Err-clause-takes g c =
    let stands = StandsIdle g.M.Core.stands g.M.Core.waits g.M.Core.bases in
    let old = c.args.self.now in
    let new = c.take_event.new.self in
    let mid = record old.desk { server = c.next.new.self } in
    up_refused c.in-Some-next.item c.in-Err.refused.fault c.fault_of.result c.in-Err.refused.event (stands old.core) (stands new.core) (g.R.Recorder.entries old.recorder) (g.R.Recorder.entries new.recorder) (g.R.Recorder.faults old.recorder) (g.R.Recorder.faults new.recorder)
    old.desk mid new.desk c.give_back.new.self c.fault_of.new.self c.in-Some-next.ensures refl refl refl c.in_default.is c.in-Err.ensures.err.0 c.in-Err.ensures.err.1 c.take_event.ensures.later c.give_back.ensures c.fault_of.ensures

pub returns-in_default-next-clause-ends : goal.returns-in_default-next-clause-ends
returns-in_default-next-clause-ends g c =
    let old = c.args.self.now.desk in
    fetch_up_ends None old (record old { server = c.next.new.self }) c.in_default-next.ensures refl

pub returns-in-Ok-clause-ends : goal.returns-in-Ok-clause-ends
returns-in-Ok-clause-ends g c =
    let old = c.args.self.now.desk in
    let mid = record old { server = c.next.new.self } in
    ends_twice old mid c.take_event.new.self.desk (fetch_up_ends (Some c.in-Some-next.item) old mid c.in-Some-next.ensures refl) c.take_event.ensures.ends

pub returns-in-Err-clause-ends : goal.returns-in-Err-clause-ends
returns-in-Err-clause-ends g c =
    let old = c.args.self.now.desk in
    let mid = record old { server = c.next.new.self } in
    let back = c.give_back.new.self in
    ends_twice old back c.fault_of.new.self
    (ends_twice old c.take_event.new.self.desk back (ends_twice old mid c.take_event.new.self.desk (fetch_up_ends (Some c.in-Some-next.item) old mid c.in-Some-next.ensures refl) c.take_event.ensures.ends) (back_ends _ _ _ c.give_back.ensures))
    (refuse_ends _ _ _ _ c.fault_of.ensures)

pub returns-in-Ok-clause-last : goal.returns-in-Ok-clause-last
returns-in-Ok-clause-last g c = (c.in-Ok.landed, c.or-self.ensures ∙ ap (λ (o : Option ℕ). option_or c.in-Ok.landed o) c.take_event.ensures.last, c.in-Ok.ensures.puts)

pub returns-in-Some-clause-ends : goal.returns-in-Some-clause-ends
returns-in-Some-clause-ends g c = ends_here c.args.self.now.desk

pub returns-in-Err-clause-shown : goal.returns-in-Err-clause-shown
returns-in-Err-clause-shown g c =
    let stands = StandsIdle g.M.Core.stands g.M.Core.waits g.M.Core.bases in
    let old = c.args.self.now in
    let new = c.take_event.new.self in
    let mid = record old.desk { server = c.next.new.self } in
    shown_refused c.in-Err.refused.fault c.fault_of.result (stands old.core) (stands new.core) (g.R.Recorder.entries old.recorder) (g.R.Recorder.entries new.recorder) (g.R.Recorder.faults old.recorder) (g.R.Recorder.faults new.recorder)
    mid new.desk c.give_back.new.self c.fault_of.new.self c.in-Err.ensures.err.1 c.give_back.ensures.ending c.fault_of.ensures

pub returns-in_default-next-clause-shown : goal.returns-in_default-next-clause-shown
returns-in_default-next-clause-shown g c = shown_same _ _ _ _ refl

pub returns-in-Some-clause-shown : goal.returns-in-Some-clause-shown
returns-in-Some-clause-shown g c = shown_same _ _ _ _ refl
