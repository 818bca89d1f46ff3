use Rattle.std.proofs.Common.{arith}
use Rattle.gateway_hub.specs.Receipts.{receipt_count}
use Rattle.run_report.proofs.ReportLemmas.{cut_line}
use Rattle.run_report.proofs.report.write_lines.Goals as goal

pub returns-in_default-clause-bytes : goal.returns-in_default-clause-bytes
returns-in_default-clause-bytes g c =
    cut_line c.args.receipts.now c.loop-conn.conn (receipt_count c.args.receipts.now) (g.K.Sink.written c.args.sink.now) (g.K.Sink.written c.loop-conn.sink) (g.K.Sink.written c.write_line.new.sink)
    (omega (arith, c.loop-conn-test.true, c.count-conn-end.ensures, c.requires)) c.loop-conn.invariant.grown (rw c.get.ensures at c.in_default.ensures.bytes)
