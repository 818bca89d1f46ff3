use Rattle.std.proofs.Common.{◌≡◌, ◌++◌, length}
use Rattle.rtsp_uri.specs.Descriptions.{rewritten}
use Rattle.rtsp_uri.proofs.description.rewrite_sdp.Given as goal

-- what is written, and what is left rewritten, are the whole rewritten
abbrev pub invariant-loop-line : goal.invariant-loop-line
invariant-loop-line l = l.text ++ rewritten l.from.text l.to.text l.rest ≡ rewritten l.fn.from.text l.fn.to.text l.fn.body

abbrev pub decreases-loop-line : goal.decreases-loop-line
decreases-loop-line l = length l.rest
