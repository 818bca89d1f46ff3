use Rattle.std.proofs.Common.{◌≡◌, ◌++◌, length, List, ℕ, sym, ◌∙◌, ap, subst, length-append}
use Rattle.gate_outside.specs.Contents.{Grows, GrowsByFront}
use Rattle.gateway_replay.specs.Records.{record_byte, record_head}
use Rattle.gateway_replay.proofs.RecordLemmas.{head_fails, first_fails, second_writes}
use Rattle.gateway_replay.proofs.records.write_parted_record.Goals as goal

pub returns-in_default-clause-bytes : goal.returns-in_default-clause-bytes
returns-in_default-clause-bytes g c =
    let whole : List ℕ = c.args.first.now ++ c.args.second.now in
    let head : c.record_head-head.result ≡ record_head (record_byte c.args.kind) c.args.conn (length whole) =
    c.record_head-head.ensures ∙ ap (record_head (record_byte c.args.kind) c.args.conn) (sym (length-append c.args.first.now c.args.second.now)) in
    head_fails (g.K.Sink.written c.args.sink.now) (g.K.Sink.written c.write_all.new.sink) (record_head (record_byte c.args.kind) c.args.conn (length whole)) c.args.first.now c.args.second.now
    (subst (λ (l : List ℕ). GrowsByFront (g.K.Sink.written c.args.sink.now) (g.K.Sink.written c.write_all.new.sink) l) head c.in_default.ensures.bytes)

pub returns-in_default-write_all-clause-bytes : goal.returns-in_default-write_all-clause-bytes
returns-in_default-write_all-clause-bytes g c =
    let whole : List ℕ = c.args.first.now ++ c.args.second.now in
    let head : c.record_head-head.result ≡ record_head (record_byte c.args.kind) c.args.conn (length whole) =
    c.record_head-head.ensures ∙ ap (record_head (record_byte c.args.kind) c.args.conn) (sym (length-append c.args.first.now c.args.second.now)) in
    first_fails (g.K.Sink.written c.args.sink.now) (g.K.Sink.written c.write_all.new.sink) (g.K.Sink.written c.write_all-2.new.sink)
    (record_head (record_byte c.args.kind) c.args.conn (length whole)) c.args.first.now c.args.second.now
    (subst (λ (l : List ℕ). Grows (g.K.Sink.written c.args.sink.now) (g.K.Sink.written c.write_all.new.sink) l) head c.in-Ok.ensures.bytes)
    c.in_default-write_all.ensures.bytes

pub returns-clause-bytes : goal.returns-clause-bytes
returns-clause-bytes g c =
    let whole : List ℕ = c.args.first.now ++ c.args.second.now in
    let head : c.record_head-head.result ≡ record_head (record_byte c.args.kind) c.args.conn (length whole) =
    c.record_head-head.ensures ∙ ap (record_head (record_byte c.args.kind) c.args.conn) (sym (length-append c.args.first.now c.args.second.now)) in
    second_writes (g.K.Sink.written c.args.sink.now) (g.K.Sink.written c.write_all.new.sink) (g.K.Sink.written c.write_all-2.new.sink) (g.K.Sink.written c.write_all-3.new.sink)
    (record_head (record_byte c.args.kind) c.args.conn (length whole)) c.args.first.now c.args.second.now c.write_all-3.result
    (subst (λ (l : List ℕ). Grows (g.K.Sink.written c.args.sink.now) (g.K.Sink.written c.write_all.new.sink) l) head c.in-Ok.ensures.bytes)
    c.in-Ok-write_all.ensures.bytes c.write_all-3.ensures.bytes
