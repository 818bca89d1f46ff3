use Rattle.std.proofs.Common.{◌<◌, length, sym, ◌∙◌, arith}
use Rattle.gate_bytes.proofs.EndLemmas.{front_kept, all_kept}
use Rattle.gate_bytes.proofs.token.trim_end.Goals as goal

pub loop-text-preserved : goal.loop-text-preserved
loop-text-preserved c =
    let some : 0 < length c.loop-text.text.now = omega arith in
    front_kept c.loop-text.text.now some (sym c.is_blank.ensures ∙ c.if-not-is_blank.false) ∙ c.loop-text.invariant

pub returns-then-not-is_blank : goal.returns-then-not-is_blank
returns-then-not-is_blank c =
    let some : 0 < length c.loop-text.text.now = omega arith in
    sym (all_kept c.loop-text.text.now some (sym c.is_blank.ensures ∙ c.if-not-is_blank.true)) ∙ c.loop-text.invariant
