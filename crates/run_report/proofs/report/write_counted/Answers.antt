use Rattle.std.proofs.Common.{◌∙◌}
use Rattle.std.specs.Fmt.{decimal}
use Rattle.run_report.proofs.ReportLemmas.{then_writes}
use Rattle.run_report.proofs.report.write_counted.Goals as goal

pub returns-clause-bytes : goal.returns-clause-bytes
returns-clause-bytes g c =
    then_writes (g.K.Sink.written c.args.sink.now) (g.K.Sink.written c.write_all.new.sink) (g.K.Sink.written c.write_all-2.new.sink) c.args.name.now (decimal c.args.number)
    c.write_all-2.result c.in-Ok.ensures.bytes (rw (c.as_bytes.ensures.value ∙ c.format.ensures.text) at c.write_all-2.ensures.bytes)
