use Rattle.std.proofs.Common.{Ok, ◌-◌, length, ◌∙◌, sym, ap, arith}
use Rattle.rtsp_head.specs.Lines.{and_then, head_lines}
use Rattle.rtsp_head.specs.Tallies.{tally_lines}
use Rattle.rtsp_head.proofs.TallyLemmas.{ends_so, stops_so}
use Rattle.rtsp_head.specs.Marks.{marks_known}
use Rattle.rtsp_head.proofs.PassLemmas.{passed_more}
use Rattle.rtsp_head.proofs.MarkLemmas.{known_all, known_short, known_more, begun_more}
use Rattle.rtsp_head.proofs.facts.check_headers.Goals as goal

pub returns-in-Err-clause-length : goal.returns-in-Err-clause-length
returns-in-Err-clause-length g c =
    stops_so c.loop-line.tally c.in-Some.line (head_lines c.in-Some.after.now) (head_lines c.loop-line.rest.now) (head_lines c.args.bytes.now) c.in-Err.fault
    c.in-Some.ensures.line c.in-Err.ensures.tally c.loop-line.invariant.tally

pub returns-in-Err-clause-passed : goal.returns-in-Err-clause-passed
returns-in-Err-clause-passed g c = passed_more c.args.bytes.now c.loop-line.rest.now c.in-Some.after.now c.loop-line.invariant.passed c.in-Some.ensures.passed

pub returns-clause-length : goal.returns-clause-length
returns-clause-length g c = ap Ok c.length.ensures ∙ ends_so c.loop-line.tally (head_lines c.loop-line.rest.now) (head_lines c.args.bytes.now) c.in_default.ensures.line c.loop-line.invariant.tally

pub returns-clause-marks : goal.returns-clause-marks
returns-clause-marks g c =
    known_all c.args.bytes.now c.loop-line.rest.now (marks_known c.loop-line.marks) c.loop-line.invariant.marks c.in_default.ensures.line

pub returns-clause-short : goal.returns-clause-short
returns-clause-short g c =
    known_short c.args.bytes.now c.loop-line.rest.now (marks_known c.loop-line.marks) c.loop-line.invariant.marks c.loop-line.invariant.passed

pub loop-line-preserved : goal.loop-line-preserved
loop-line-preserved g c =
    let after = head_lines c.in-Some.after.now in
    record {
      tally = ap (and_then (λ next. tally_lines next after)) c.in-Ok.ensures.tally ∙ ap (tally_lines c.loop-line.tally) (sym c.in-Some.ensures.line) ∙ c.loop-line.invariant.tally;
      marks = known_more c.args.bytes.now c.loop-line.rest.now c.in-Some.line c.in-Some.after.now (marks_known c.loop-line.marks) (marks_known c.with_line.new.marks)
          c.loop-line.invariant.marks c.in-Some.ensures.line c.in-Some.ensures.first c.in-Ok.ensures.marks;
      begun = begun_more (marks_known c.args.marks.now) (marks_known c.loop-line.marks) (marks_known c.with_line.new.marks) c.args.marks.now.start c.loop-line.marks.start c.with_line.new.marks.start
          c.in-Some.line (length c.loop-line.rest.now - length c.in-Some.after.now) c.loop-line.invariant.begun c.in-Ok.ensures.marks c.in-Ok.ensures.start;
      passed = passed_more c.args.bytes.now c.loop-line.rest.now c.in-Some.after.now c.loop-line.invariant.passed c.in-Some.ensures.passed;
      steps = omega (arith, c.loop-line.invariant.steps, c.in-Some.ensures.some);
    }
