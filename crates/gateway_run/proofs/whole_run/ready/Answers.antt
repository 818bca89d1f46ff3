use Rattle.std.proofs.Common.{ap, length}
use Rattle.gateway_run.proofs.LinkLemmas.{tells_none, written_none}
use Rattle.gateway_run.proofs.whole_run.ready.Goals as goal

pub new-requires-clause-recorder : goal.new-requires-clause-recorder
new-requires-clause-recorder g c = λ κs outlives. tells_none (g.R.Recorder.entries c.args.opened.recorder) c.requires.recorder

pub invariant_of-upstream : goal.invariant_of-upstream
invariant_of-upstream g c = record {
  none_put = ap length c.in-Ok.ensures.put;
  none_taken = ap length c.in-Ok.ensures.taken;
  none_written = written_none (g.O.Sink.written c.args.opened.outlet) c.requires.outlet;
}
