use Rattle.gateway_replay.specs.RecordTexts.{piece_record, up_record, closed_records, fault_record}
use Rattle.gateway_replay.proofs.OutcomeLemmas.{fails_at_first, fails_at_second, fails_at_third, writes_last}
use Rattle.gateway_replay.proofs.outcomes.write_outcome.Goals as goal

pub returns-in_default-clause-bytes : goal.returns-in_default-clause-bytes
returns-in_default-clause-bytes g c = λ T s.
    fails_at_first (g.K.Sink.written c.args.sink.now) (g.K.Sink.written c.write_piece.new.sink)
    (piece_record c.args.outcome.now.to_client) (up_record c.args.outcome.now.to_up) (closed_records c.args.outcome.now.closed T) (fault_record c.args.outcome.now.fault)
    c.in_default.ensures.bytes

pub returns-in_default-write_up-clause-bytes : goal.returns-in_default-write_up-clause-bytes
returns-in_default-write_up-clause-bytes g c = λ T s.
    fails_at_second (g.K.Sink.written c.args.sink.now) (g.K.Sink.written c.write_piece.new.sink) (g.K.Sink.written c.write_up.new.sink)
    (piece_record c.args.outcome.now.to_client) (up_record c.args.outcome.now.to_up) (closed_records c.args.outcome.now.closed T) (fault_record c.args.outcome.now.fault)
    c.in-Ok.ensures.bytes c.in_default-write_up.ensures.bytes

pub returns-in_default-write_closed-clause-bytes : goal.returns-in_default-write_closed-clause-bytes
returns-in_default-write_closed-clause-bytes g c = λ T s.
    fails_at_third (g.K.Sink.written c.args.sink.now) (g.K.Sink.written c.write_piece.new.sink) (g.K.Sink.written c.write_up.new.sink) (g.K.Sink.written c.write_closed.new.sink)
    (piece_record c.args.outcome.now.to_client) (up_record c.args.outcome.now.to_up) (closed_records c.args.outcome.now.closed T) (fault_record c.args.outcome.now.fault)
    c.in-Ok.ensures.bytes c.in-Ok-write_up.ensures.bytes
    (c.in_default-write_closed.ensures.bytes T s)

pub returns-clause-bytes : goal.returns-clause-bytes
returns-clause-bytes g c = λ T s.
    writes_last (g.K.Sink.written c.args.sink.now) (g.K.Sink.written c.write_piece.new.sink) (g.K.Sink.written c.write_up.new.sink) (g.K.Sink.written c.write_closed.new.sink) (g.K.Sink.written c.write_fault.new.sink)
    (piece_record c.args.outcome.now.to_client) (up_record c.args.outcome.now.to_up) (closed_records c.args.outcome.now.closed T) (fault_record c.args.outcome.now.fault) c.write_fault.result
    c.in-Ok.ensures.bytes c.in-Ok-write_up.ensures.bytes
    (c.in-Ok-write_closed.ensures.bytes T s)
    c.write_fault.ensures.bytes
