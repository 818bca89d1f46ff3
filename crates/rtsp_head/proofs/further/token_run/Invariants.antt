use Rattle.std.proofs.Common.{◌≡◌, ◌+◌, length}
use Rattle.rtsp_head.specs.Names.{token_len}
use Rattle.rtsp_head.proofs.further.token_run.Given as goal

-- the bytes so far, and those that are left
abbrev pub invariant-loop-left : goal.invariant-loop-left
invariant-loop-left l = record {
  counted : l.count + token_len l.left ≡ token_len l.line;
  whole : l.count + length l.left ≡ length l.line;
}

abbrev pub decreases-loop-left : goal.decreases-loop-left
decreases-loop-left l = length l.left
