use Rattle.std.specs.Prelude.{is_some}
use Rattle.std.proofs.Common.{inr, refl, sym, ap, ◌∙◌}
use Rattle.gateway_hub.specs.Keeps.{StandsIdle}
use Rattle.run_report.specs.Report.{report_text}
use Rattle.run_report.specs.declared.up_run.UpRun.{UpRun}
use Rattle.gateway_run.specs.WholeRun.{RunSeen}
use Rattle.gateway_run.proofs.ReceiptLemmas.{few_receipts}
use Rattle.gateway_run.proofs.EndingLemmas.{shown_last, left_last, recorder_failed, ran_to, wrote_report}
use Rattle.gateway_run.proofs.LinkLemmas.{no_link_left}
use Rattle.gateway_run.proofs.whole_run.report.Goals as goal

pub write_report-written-requires : goal.write_report-written-requires
write_report-written-requires g c =
    let hub = c.args.ran.hub in
    few_receipts (StandsIdle g.M.Core.stands g.M.Core.waits g.M.Core.bases hub.state.core) (g.W.Rec.Recorder.entries hub.state.recorder) (g.W.Rec.Recorder.entries c.close-recorder.result.0) (g.W.Rec.Recorder.faults hub.state.recorder) hub.state.desk
    c.close-recorder.result.1 hub.keeps c.close-recorder.ensures.receipts

pub returns-clause-ran : goal.returns-clause-ran
returns-clause-ran g c =
    let laws = g.met.M.Core g.world.𝓛 g.world.𝓜 g.world.𝓡 ((λ s x. x), (λ x. x), (λ x. x), λ x. x) in
    let hub = c.args.ran.hub in
    let gate = c.args.ran.gate in
    let back = c.args.ran.back in
    let seen : RunSeen = record {
      recorded = g.W.World.recorded c.give_back-flushed.new.world;
      left = g.W.World.links_left c.give_back-flushed.new.world;
      opened = g.W.World.tally c.args.world.now;
      closed = g.W.World.tally c.give_back-flushed.new.world;
      before = g.K.Sink.written c.args.sink.now;
      now = g.K.Sink.written c.write_report-written.new.sink;
      faults = g.K.Sink.faults c.args.sink.now;
      later = g.K.Sink.faults c.write_report-written.new.sink;
    } in
    record {
      says = inr (
          ran_to g.M.Core.follows (g.M.Core.bases hub.state.core) c.args.bases.now (StandsIdle g.M.Core.stands g.M.Core.waits g.M.Core.bases hub.state.core) (g.W.Rec.Recorder.entries hub.state.recorder)
          (g.W.Rec.Recorder.faults hub.state.recorder) hub.state.desk c.close-recorder.result.1 c.told-told.result c.in_ok-status.status c.after_flush.result
          c.after_report.result c.give_back-flushed.result c.write_report-written.result seen hub.keeps (λ T s. laws.history hub.state.core T s.stood) ((rw c.bases.ensures at c.if-not-are_same_bases.ensures) refl)
          (λ T k. rw c.give_back-flushed.ensures.recorded (c.close-recorder.ensures.receipts T k)) c.told-told.ensures.over c.told-told.ensures.ending c.in_ok-status.ensures.goes
          c.after_flush.ensures.ok c.after_flush.ensures.err c.after_report.ensures.ok c.after_report.ensures.err
          (wrote_report seen (report_text c.close-recorder.result.1) c.write_report-written.result c.write_report-written.ensures.bytes c.write_report-written.ensures.cause.failed)
          );
      shown =
          shown_last c.in_ok-status.status c.after_flush.result c.after_report.result c.told-told.result (is_some c.args.ran.refused) (g.W.Door.Door.faults gate.door) (g.W.Door.Door.ends gate.door)
          (g.W.UpIn.Inlet.faults back.inlet) (g.W.UpOut.Sink.faults back.outlet) (g.W.UpIn.Inlet.ends back.inlet) (g.W.Rec.Recorder.faults c.close-recorder.result.0)
          seen c.give_back-flushed.result c.write_report-written.result c.in_ok-status.ensures.goes
          (record {
            failed = λ yes. gate.fault (sym c.told-told.ensures.failed ∙ yes);
            ended = λ yes. gate.end (sym c.told-told.ensures.ended ∙ yes);
            read = λ yes. back.read (sym (ap (λ (r : UpRun). r.read_failed) c.told-told.ensures.run) ∙ yes);
            write = λ yes. back.write (sym (ap (λ (r : UpRun). r.write_failed) c.told-told.ensures.run) ∙ yes);
            up_ended = λ yes. back.end (sym (ap (λ (r : UpRun). r.ended) c.told-told.ensures.run) ∙ yes);
            refused_so = c.told-told.ensures.refused;
            recorder = λ kept.
                rw c.close-recorder.ensures.recorder
                (recorder_failed (StandsIdle g.M.Core.stands g.M.Core.waits g.M.Core.bases hub.state.core) (g.W.Rec.Recorder.entries hub.state.recorder) (g.W.Rec.Recorder.faults hub.state.recorder) hub.state.desk hub.keeps
                (sym c.told-told.ensures.ending ∙ kept));
          }) c.give_back-flushed.ensures.counts
          c.after_flush.ensures.ok c.after_flush.ensures.err c.give_back-flushed.ensures.cause c.after_report.ensures.ok c.after_report.ensures.err c.write_report-written.ensures.cause.failed;
      opens = c.give_back-flushed.ensures.counts.opens;
      none_left =
          left_last c.in_ok-status.status c.after_flush.result c.after_report.result c.told-told.result c.give_back-flushed.result c.write_report-written.result
          (g.W.World.links_left c.give_back-flushed.new.world) c.in_ok-status.ensures.goes
          (λ yes. no_link_left (g.W.Door.Door.links gate.door) (g.W.World.links_left c.give_back-flushed.new.world) (gate.none_left (sym c.told-told.ensures.ended ∙ yes)) c.give_back-flushed.ensures.left)
          c.after_flush.ensures.ok c.after_flush.ensures.err c.after_report.ensures.ok c.after_report.ensures.err;
    }
