use Rattle.std.proofs.Common.{arith}
use Rattle.gateway_replay.proofs.OutcomeLemmas.{closes_none, closes_more, closes_fail, closes_all}
use Rattle.gateway_replay.proofs.outcomes.write_ends.Goals as goal

pub loop-conn-init : goal.loop-conn-init
loop-conn-init g c = record { so_far = closes_none c.args.living.now (g.K.Sink.written c.args.sink.now); later = omega arith }

pub loop-conn-preserved : goal.loop-conn-preserved
loop-conn-preserved g c = record {
  so_far =
      closes_more c.args.living.now c.loop-conn.living c.take_first.new.self (g.K.Sink.written c.args.sink.now) (g.K.Sink.written c.loop-conn.sink) (g.K.Sink.written c.write_close.new.sink)
      c.in-Some.conn (omega arith) c.loop-conn.invariant.so_far c.in-Some.ensures.first c.in-Some.ensures.taken c.in-Ok.ensures.bytes;
  later = omega (arith, c.loop-conn.invariant.later, c.write_close.ensures.cause.later);
}

pub returns-in_default-write_close-clause-bytes : goal.returns-in_default-write_close-clause-bytes
returns-in_default-write_close-clause-bytes g c = λ T alive.
    closes_fail c.args.living.now c.loop-conn.living (g.K.Sink.written c.args.sink.now) (g.K.Sink.written c.loop-conn.sink) (g.K.Sink.written c.write_close.new.sink)
    c.in-Some.conn T (omega arith) c.loop-conn.invariant.so_far c.in-Some.ensures.first alive c.in_default-write_close.ensures.bytes

pub returns-clause-bytes : goal.returns-clause-bytes
returns-clause-bytes g c = λ T alive.
    closes_all c.args.living.now c.loop-conn.living (g.K.Sink.written c.args.sink.now) (g.K.Sink.written c.loop-conn.sink) T c.loop-conn.invariant.so_far c.in_default.ensures.none alive
