use Rattle.std.proofs.Common.{◌∷◌, ◌++◌, codes}
use Rattle.gateway_claim.specs.Happenings.{close_byte}
use Rattle.run_report.specs.Report.{name_and_number}
use Rattle.run_report.proofs.ReportLemmas.{cut_first, cut_second, then_writes}
use Rattle.run_report.proofs.report.write_went.Goals as goal

pub returns-in_default-clause-bytes : goal.returns-in_default-clause-bytes
returns-in_default-clause-bytes g c =
    cut_first (g.K.Sink.written c.args.sink.now) (g.K.Sink.written c.write_counted.new.sink) (name_and_number (codes " handed ") c.args.receipt.now.handed) (name_and_number (codes " taken ") c.args.receipt.now.taken ++ (codes " cause " ++ (close_byte c.args.receipt.now.why ∷ codes "\n"))) c.in_default.ensures.bytes

pub returns-in_default-write_counted-clause-bytes : goal.returns-in_default-write_counted-clause-bytes
returns-in_default-write_counted-clause-bytes g c =
    cut_second (g.K.Sink.written c.args.sink.now) (g.K.Sink.written c.write_counted.new.sink) (g.K.Sink.written c.write_counted-2.new.sink) (name_and_number (codes " handed ") c.args.receipt.now.handed) (name_and_number (codes " taken ") c.args.receipt.now.taken ++ (codes " cause " ++ (close_byte c.args.receipt.now.why ∷ codes "\n"))) c.in-Ok.ensures.bytes
    (cut_first (g.K.Sink.written c.write_counted.new.sink) (g.K.Sink.written c.write_counted-2.new.sink) (name_and_number (codes " taken ") c.args.receipt.now.taken) ((codes " cause " ++ (close_byte c.args.receipt.now.why ∷ codes "\n"))) c.in_default-write_counted.ensures.bytes)

pub returns-clause-bytes : goal.returns-clause-bytes
returns-clause-bytes g c =
    then_writes (g.K.Sink.written c.args.sink.now) (g.K.Sink.written c.write_counted.new.sink) (g.K.Sink.written c.write_cause.new.sink) (name_and_number (codes " handed ") c.args.receipt.now.handed) (name_and_number (codes " taken ") c.args.receipt.now.taken ++ (codes " cause " ++ (close_byte c.args.receipt.now.why ∷ codes "\n"))) c.write_cause.result c.in-Ok.ensures.bytes
    (then_writes (g.K.Sink.written c.write_counted.new.sink) (g.K.Sink.written c.write_counted-2.new.sink) (g.K.Sink.written c.write_cause.new.sink) (name_and_number (codes " taken ") c.args.receipt.now.taken) ((codes " cause " ++ (close_byte c.args.receipt.now.why ∷ codes "\n"))) c.write_cause.result
    c.in-Ok-write_counted.ensures.bytes c.write_cause.ensures.bytes)
