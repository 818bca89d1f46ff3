use Rattle.std.proofs.Common.{◌≡◌, ◌≤◌, ◌+◌, ◌*◌, length}
use Rattle.rtsp_head.specs.Lines.{head_lines}
use Rattle.rtsp_head.specs.LineWalk.{IsPassed}
use Rattle.rtsp_head.specs.Tallies.{tally_lines, empty_tally}
use Rattle.std.specs.Prelude.{IfSome}
use Rattle.rtsp_head.specs.Marks.{marks_known, IsBegun}
use Rattle.rtsp_head.proofs.MarkLemmas.{IsMarkedTo}
use Rattle.rtsp_head.proofs.facts.check_headers.Given as goal

-- the lines that are left bring the tally to where all lines bring an empty one, and four steps a byte pay for them
abbrev pub invariant-loop-line : goal.invariant-loop-line
invariant-loop-line g l = record {
  tally : tally_lines l.tally (head_lines l.rest) ≡ tally_lines empty_tally (head_lines l.bytes);
  marks : IfSome (marks_known l.marks) (IsMarkedTo l.bytes l.rest);
  begun : IsBegun (marks_known l.fn.marks) l.fn.marks.start (marks_known l.marks) l.marks.start;
  passed : IsPassed l.bytes l.rest;
  steps : l.steps + 4 * length l.rest ≤ l.fn.steps + 4 * length l.bytes;
}

abbrev pub decreases-loop-line : goal.decreases-loop-line
decreases-loop-line g l = length l.rest
