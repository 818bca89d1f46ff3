use Rattle.std.proofs.Common.{arith}
use Rattle.gate_outside.proofs.Fronts.{half_more}
use Rattle.gate_outside.proofs.streams.write_all.Goals as goal

pub loop-rest-preserved : goal.loop-rest-preserved
loop-rest-preserved g c =
    rw c.after-rest.ensures
    (half_more c.args.bytes.now c.loop-rest.rest.now (g.K.Sink.written c.args.sink.now) (g.K.Sink.written c.loop-rest.sink) (g.K.Sink.written c.write.new.self)
    (g.K.Sink.faults c.args.sink.now) (g.K.Sink.faults c.loop-rest.sink) (g.K.Sink.faults c.write.new.self) c.in_ok-taken.taken
    c.loop-rest.invariant c.in_ok-taken.ensures.bytes.grown (omega arith))
