use Rattle.std.proofs.Common.{◌≡◌, length}
use Rattle.rtsp_head.specs.Lines.{head_lines}
use Rattle.rtsp_head.specs.Headers.{header_limit, after_lines, no_headers}
use Rattle.rtsp_head.specs.Views.{so_far, IsClosed}
use Rattle.rtsp_head.proofs.head.read_headers.Given as goal

-- the lines that are left bring the headers so far to where all lines bring none
abbrev pub invariant-loop-line : goal.invariant-loop-line
invariant-loop-line l = record {
  lines : after_lines header_limit (so_far l.reading) (head_lines l.rest) ≡ after_lines header_limit no_headers (head_lines l.bytes);
  closed : IsClosed l.reading;
}

abbrev pub decreases-loop-line : goal.decreases-loop-line
decreases-loop-line l = length l.rest
