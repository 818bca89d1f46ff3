use Rattle.std.proofs.Common.{◌∷◌, codes}
use Rattle.gateway_claim.specs.Happenings.{close_byte}
use Rattle.run_report.proofs.ReportLemmas.{cut_first, then_writes}
use Rattle.run_report.proofs.report.write_cause.Goals as goal

pub returns-in_default-clause-bytes : goal.returns-in_default-clause-bytes
returns-in_default-clause-bytes g c =
    cut_first (g.K.Sink.written c.args.sink.now) (g.K.Sink.written c.write_all.new.sink) (codes " cause ") (close_byte c.args.why ∷ codes "\n") c.in_default.ensures.bytes

pub returns-clause-bytes : goal.returns-clause-bytes
returns-clause-bytes g c =
    then_writes (g.K.Sink.written c.args.sink.now) (g.K.Sink.written c.write_all.new.sink) (g.K.Sink.written c.write_all-2.new.sink) (codes " cause ") (close_byte c.args.why ∷ codes "\n")
    c.write_all-2.result c.in-Ok.ensures.bytes (rw c.close_byte.ensures at c.write_all-2.ensures.bytes)
