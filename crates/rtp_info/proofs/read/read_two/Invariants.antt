use Rattle.std.proofs.Common.{◌≡◌}
use Rattle.std.specs.Option.{option_copied}
use Rattle.gate_bytes.proofs.Measures.{left_size}
use Rattle.rtp_info.specs.Infos.{info_of}
use Rattle.rtp_info.proofs.Lefts.{entries_with}
use Rattle.rtp_info.proofs.read.read_two.Given as goal

-- the entries so far and what is left say what all specs say
abbrev pub invariant-loop-left : goal.invariant-loop-left
invariant-loop-left l = entries_with l.info (option_copied l.left) ≡ info_of l.value

abbrev pub decreases-loop-left : goal.decreases-loop-left
decreases-loop-left l = left_size (option_copied l.left)
