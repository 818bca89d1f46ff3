use Rattle.run_report.specs.Report.{came_text, went_text}
use Rattle.run_report.proofs.ReportLemmas.{cut_first, then_writes}
use Rattle.run_report.proofs.report.write_receipt.Goals as goal

pub returns-in_default-clause-bytes : goal.returns-in_default-clause-bytes
returns-in_default-clause-bytes g c =
    cut_first (g.K.Sink.written c.args.sink.now) (g.K.Sink.written c.write_came.new.sink) (came_text c.args.receipt.now) (went_text c.args.receipt.now) c.in_default.ensures.bytes

pub returns-clause-bytes : goal.returns-clause-bytes
returns-clause-bytes g c =
    then_writes (g.K.Sink.written c.args.sink.now) (g.K.Sink.written c.write_came.new.sink) (g.K.Sink.written c.write_went.new.sink) (came_text c.args.receipt.now) (went_text c.args.receipt.now)
    c.write_went.result c.in-Ok.ensures.bytes c.write_went.ensures.bytes
