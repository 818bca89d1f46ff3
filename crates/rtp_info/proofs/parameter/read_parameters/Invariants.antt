use Rattle.std.proofs.Common.{◌≡◌}
use Rattle.std.specs.Option.{option_map}
use Rattle.std.specs.Option.{option_copied}
use Rattle.gate_bytes.proofs.Measures.{left_size}
use Rattle.rtp_info.specs.Views.{noted_seen}
use Rattle.rtp_info.specs.Parameters.{read_parameters}
use Rattle.rtp_info.proofs.Lefts.{joined, parameters_left}
use Rattle.rtp_info.proofs.parameter.read_parameters.Given as goal

-- what was noted and what is left say what all parameters say
abbrev pub invariant-loop-left : goal.invariant-loop-left
invariant-loop-left l = option_map (joined (noted_seen l.noted)) (parameters_left (option_copied l.left)) ≡ read_parameters l.text

abbrev pub decreases-loop-left : goal.decreases-loop-left
decreases-loop-left l = left_size (option_copied l.left)
