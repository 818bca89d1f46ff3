use Rattle.std.proofs.Common.{◌≡◌}
use Rattle.std.specs.Option.{option_map, option_and_then}
use Rattle.std.specs.Option.{option_copied}
use Rattle.gate_bytes.specs.Ascii.{colon}
use Rattle.gate_bytes.specs.Places.{parts_at}
use Rattle.gate_bytes.proofs.Measures.{left_size}
use Rattle.rtp_info.specs.Views.{noted_seen}
use Rattle.rtp_info.specs.Parts.{remaining_parts}
use Rattle.rtp_info.specs.Groups.{each_group, first_group}
use Rattle.rtp_info.proofs.Lefts.{first_among}
use Rattle.rtp_info.proofs.group.read_pieces.Given as goal

-- what was first and what is left say what all groups say
abbrev pub invariant-loop-left : goal.invariant-loop-left
invariant-loop-left l = option_and_then (first_among (option_map noted_seen l.first)) (each_group (remaining_parts colon (option_copied l.left))) ≡ first_group (parts_at colon l.text)

abbrev pub decreases-loop-left : goal.decreases-loop-left
decreases-loop-left l = left_size (option_copied l.left)
