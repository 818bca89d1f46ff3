use Rattle.std.proofs.Common.{◌≡◌}
use Rattle.rtsp_range.specs.RangeText.{padded, without_zeros}
use Rattle.rtsp_range.proofs.range_text.without_zeros.Given as goal

-- what is left gives the same once its zeros are gone
abbrev pub invariant-loop-width : goal.invariant-loop-width
invariant-loop-width l = without_zeros (padded l.width l.number) ≡ without_zeros (padded 9 l.fn.nanos)

abbrev pub decreases-loop-width : goal.decreases-loop-width
decreases-loop-width l = l.width
