use Rattle.std.proofs.Common.{true, ap, ◌∙◌}
use Rattle.serve_world.specs.Tallies.{after_dial, after_record}
use Rattle.gateway_run.specs.WholeRun.{RunSeen}
use Rattle.gateway_run.proofs.WholeLemmas.{served_so}
use Rattle.gateway_run.proofs.whole_run.serve.Goals as goal

pub returns-clause-served : goal.returns-clause-served
returns-clause-served g c =
    let seen : RunSeen = record {
      recorded = g.W.World.recorded c.serve_opened.new.world;
      left = g.W.World.links_left c.serve_opened.new.world;
      opened = g.W.World.tally c.args.world.now;
      closed = g.W.World.tally c.serve_opened.new.world;
      before = g.K.Sink.written c.args.sink.now;
      now = g.K.Sink.written c.serve_opened.new.sink;
      faults = g.K.Sink.faults c.args.sink.now;
      later = g.K.Sink.faults c.serve_opened.new.sink;
    } in
    served_so g.M.Core.follows c.args.options.now.bases c.serve_opened.result seen (g.W.World.tally c.dial.new.self)
    (c.in-Ok-dial.ensures.counts ∙ ap (after_dial true) (c.in-Ok-recorder.ensures.counts ∙ ap (after_record true) c.in-Ok.ensures.counts)) c.serve_opened.ensures.ran
