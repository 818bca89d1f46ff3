use Rattle.std.proofs.Common.{◌≡◌, length}
use Rattle.rtsp_range.specs.Meaning.{without_spaces}
use Rattle.rtsp_range.proofs.unit.without_spaces.Given as goal

-- what is left gives the same once its spaces are gone
abbrev pub invariant-loop-text : goal.invariant-loop-text
invariant-loop-text l = without_spaces l.text ≡ without_spaces l.fn.text

abbrev pub decreases-loop-text : goal.decreases-loop-text
decreases-loop-text l = length l.text
