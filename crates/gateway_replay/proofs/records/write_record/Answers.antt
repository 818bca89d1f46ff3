use Rattle.std.proofs.Common.{length, List, ℕ, subst}
use Rattle.gate_outside.specs.Contents.{GrowsByFront, Grows}
use Rattle.gateway_replay.specs.Records.{record_byte, record_head}
use Rattle.gateway_replay.proofs.RecordLemmas.{front_longer, then_writes}
use Rattle.gateway_replay.proofs.records.write_record.Goals as goal

pub returns-in_default-clause-bytes : goal.returns-in_default-clause-bytes
returns-in_default-clause-bytes g c =
    front_longer (g.K.Sink.written c.args.sink.now) (g.K.Sink.written c.write_all.new.sink) (record_head (record_byte c.args.kind) c.args.conn (length c.args.body.now)) c.args.body.now
    (subst (λ (l : List ℕ). GrowsByFront (g.K.Sink.written c.args.sink.now) (g.K.Sink.written c.write_all.new.sink) l) c.record_head-head.ensures c.in_default.ensures.bytes)

pub returns-clause-bytes : goal.returns-clause-bytes
returns-clause-bytes g c =
    then_writes (g.K.Sink.written c.args.sink.now) (g.K.Sink.written c.write_all.new.sink) (g.K.Sink.written c.write_all-2.new.sink)
    (record_head (record_byte c.args.kind) c.args.conn (length c.args.body.now)) c.args.body.now c.write_all-2.result
    (subst (λ (l : List ℕ). Grows (g.K.Sink.written c.args.sink.now) (g.K.Sink.written c.write_all.new.sink) l) c.record_head-head.ensures c.in-Ok.ensures.bytes)
    c.write_all-2.ensures.bytes
