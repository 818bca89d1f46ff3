use Rattle.std.proofs.Common.{◌≡◌, ℕ, ◌||◌, codes, List, option_map}
use Rattle.std.specs.List.{list_any}
use Rattle.std.specs.Option.{option_copied, option_or}
use Rattle.gate_bytes.proofs.Measures.{left_size}
use Rattle.rtsp_transport.specs.declared.parameters.Parameters.{Parameters}
use Rattle.rtsp_transport.specs.Parameters.{parameters_left, value_of, is_multicast}
use Rattle.rtsp_transport.specs.Sources.{first_source}
use Rattle.rtsp_transport.proofs.parameters.Parameters.read.Given as goal

-- What was said so far, and then what is left, say what all parameters say.
abbrev pub AllSay : Parameters → List (List ℕ) → List (List ℕ) → Type 0
AllSay said left all =
    ((said.multicast || list_any is_multicast left) ≡ list_any is_multicast all)
    × (option_or (option_map option_copied said.mode) (value_of (codes "mode") left) ≡ value_of (codes "mode") all)
    × (option_or (option_map option_copied said.interleaved) (value_of (codes "interleaved") left) ≡ value_of (codes "interleaved") all)
    × (option_or said.ssrc (first_source left) ≡ first_source all)

abbrev pub invariant-loop-left : goal.invariant-loop-left
invariant-loop-left l = AllSay l.said (parameters_left (option_copied l.left)) (parameters_left (option_copied l.parameters))

abbrev pub decreases-loop-left : goal.decreases-loop-left
decreases-loop-left l = left_size (option_copied l.left)
