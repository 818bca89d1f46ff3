use Rattle.std.proofs.Common.{◌≡◌, length}
use Rattle.rtsp_range.specs.Meaning.{has_time_parameter}
use Rattle.rtsp_range.proofs.unit.has_time_parameter.Given as goal

-- what is left tells the same
abbrev pub invariant-loop-text : goal.invariant-loop-text
invariant-loop-text l = has_time_parameter l.text ≡ has_time_parameter l.fn.text

abbrev pub decreases-loop-text : goal.decreases-loop-text
decreases-loop-text l = length l.text
