-- What is let through by its channels and its range alone.
use Rattle.std.specs.Prelude.{ℕ, [], ◌∷◌, Result}
use Rattle.rtsp_small.specs.declared.method.Method.{Method}
use Rattle.head_one.specs.Refusals.{rule, first_code}
use Rattle.translate_up.specs.declared.rule.Admission.{Admission}
use Rattle.translate_up.specs.Fields.{Said}
use Rattle.translate_up.specs.Rules.{has_no_channels, has_bad_range, admission, unless_code}

-- the two rules that look at them, and what these let through
abbrev pub channels_and_range : Method → Said → Result Admission ℕ
channels_and_range method said =
    unless_code (first_code (rule (has_no_channels method said) 461 ∷ rule (has_bad_range method said.range) 457 ∷ [])) (admission method said)
