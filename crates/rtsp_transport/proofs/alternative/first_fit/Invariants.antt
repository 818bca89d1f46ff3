use Rattle.std.proofs.Common.{◌≡◌}
use Rattle.std.specs.Option.{option_copied}
use Rattle.gate_bytes.specs.Ascii.{comma}
use Rattle.gate_bytes.proofs.Measures.{left_size}
use Rattle.rtsp_transport.specs.Splits.{unquoted_parts, unquoted_left}
use Rattle.rtsp_transport.specs.Wants.{first_fit}
use Rattle.rtsp_transport.proofs.alternative.first_fit.Given as goal

-- the alternative is among those that are left
abbrev pub invariant-loop-left : goal.invariant-loop-left
invariant-loop-left l = first_fit (unquoted_left comma (option_copied l.left)) ≡ first_fit (unquoted_parts comma l.value)

abbrev pub decreases-loop-left : goal.decreases-loop-left
decreases-loop-left l = left_size (option_copied l.left)
