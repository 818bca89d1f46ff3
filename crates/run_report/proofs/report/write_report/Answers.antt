use Rattle.std.proofs.Common.{codes}
use Rattle.gateway_hub.specs.Receipts.{receipt_count}
use Rattle.run_report.specs.Report.{lines_below}
use Rattle.run_report.proofs.ReportLemmas.{then_writes}
use Rattle.run_report.proofs.report.write_report.Goals as goal

pub returns-clause-bytes : goal.returns-clause-bytes
returns-clause-bytes g c =
    then_writes (g.K.Sink.written c.args.sink.now) (g.K.Sink.written c.write_lines.new.sink) (g.K.Sink.written c.write_all.new.sink)
    (lines_below (receipt_count c.args.receipts.now) c.args.receipts.now) (codes "dials 1\n") c.write_all.result c.in-Ok.ensures.bytes c.write_all.ensures.bytes
