use Rattle.std.proofs.Common.{◌≤◌}
use Rattle.gate_outside.specs.Contents.{Grows}
use Rattle.run_report.specs.Report.{lines_below}
use Rattle.run_report.proofs.report.write_lines.Given as goal

-- the lines of the connections below this number were written
abbrev pub invariant-loop-conn : goal.invariant-loop-conn
invariant-loop-conn g l = record {
  grown : Grows (g.K.Sink.written l.fn.sink) (g.K.Sink.written l.sink) (lines_below l.conn l.receipts);
  faults : g.K.Sink.faults l.fn.sink ≤ g.K.Sink.faults l.sink;
}
