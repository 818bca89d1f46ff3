use Rattle.std.proofs.Common.{◌≡◌, length}
use Rattle.gate_bytes.specs.Tokens.{without_end}
use Rattle.gate_bytes.proofs.token.trim_end.Given as goal

-- what is left gives the same once its blanks are gone
abbrev pub invariant-loop-text : goal.invariant-loop-text
invariant-loop-text l = without_end l.text ≡ without_end l.fn.text

abbrev pub decreases-loop-text : goal.decreases-loop-text
decreases-loop-text l = length l.text
