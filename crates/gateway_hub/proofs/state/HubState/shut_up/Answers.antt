use Rattle.std.proofs.Common.{refl}
use Rattle.gateway_claim.specs.Happenings.{up_ends}
use Rattle.gateway_hub.specs.Keeps.{StandsIdle}
use Rattle.gateway_hub.proofs.IdleLemmas.{idle_in_hand, idle_refused}
use Rattle.gateway_hub.proofs.EndLemmas.{ends_here, ends_twice, refuse_ends}
use Rattle.gateway_hub.proofs.ShowLemmas.{shown_same, shown_refused}
use Rattle.gateway_hub.proofs.state.HubState.shut_up.Goals as goal

pub returns-in-Ok-clause-shuts : goal.returns-in-Ok-clause-shuts
returns-in-Ok-clause-shuts g c =
    let stands = StandsIdle g.M.Core.stands g.M.Core.waits g.M.Core.bases in
    let old = c.args.self.now in
    let e = c.in-Ok.ensures.ok in (
      c.in_default.is,
      record {
        outcome = e.outcome;
        later = e.later;
        late = e.late;
        grows = λ T k. e.keeps T (idle_in_hand (up_ends c.args.why) (stands old.core) (g.R.Recorder.entries old.recorder) (g.R.Recorder.faults old.recorder) old.desk T (λ i. refl) refl c.requires c.in_default.is k);
      },
    )

pub returns-in-Err-clause-shuts : goal.returns-in-Err-clause-shuts
returns-in-Err-clause-shuts g c =
    let stands = StandsIdle g.M.Core.stands g.M.Core.waits g.M.Core.bases in
    let old = c.args.self.now in
    let new = c.take_event.new.self in
    idle_refused (up_ends c.args.why) c.in-Err.refused.fault c.fault_of.result (stands old.core) (stands new.core) (g.R.Recorder.entries old.recorder) (g.R.Recorder.entries new.recorder) (g.R.Recorder.faults old.recorder) (g.R.Recorder.faults new.recorder)
    old.desk new.desk c.fault_of.new.self (λ i. refl) refl c.requires c.in_default.is c.in-Err.ensures.err.1 c.take_event.ensures.later c.fault_of.ensures

pub returns-in-Err-clause-ends : goal.returns-in-Err-clause-ends
returns-in-Err-clause-ends g c = ends_twice c.args.self.now.desk c.take_event.new.self.desk c.fault_of.new.self c.take_event.ensures.ends (refuse_ends _ _ _ _ c.fault_of.ensures)

pub returns-in-Some-clause-ends : goal.returns-in-Some-clause-ends
returns-in-Some-clause-ends g c = ends_here c.args.self.now.desk

pub returns-in-Err-clause-shown : goal.returns-in-Err-clause-shown
returns-in-Err-clause-shown g c =
    let stands = StandsIdle g.M.Core.stands g.M.Core.waits g.M.Core.bases in
    let old = c.args.self.now in
    let new = c.take_event.new.self in
    let mid = old.desk in
    shown_refused c.in-Err.refused.fault c.fault_of.result (stands old.core) (stands new.core) (g.R.Recorder.entries old.recorder) (g.R.Recorder.entries new.recorder) (g.R.Recorder.faults old.recorder) (g.R.Recorder.faults new.recorder)
    mid new.desk new.desk c.fault_of.new.self c.in-Err.ensures.err.1 refl c.fault_of.ensures

pub returns-in-Some-clause-shown : goal.returns-in-Some-clause-shown
returns-in-Some-clause-shown g c = shown_same _ _ _ _ refl
