use Rattle.std.proofs.Common.{◌≡◌, length, sym, ◌∙◌, ap}
use Rattle.gate_bytes.specs.Tokens.{trimmed}
use Rattle.rtsp_head.proofs.TrimLemmas.{trimmed_same}
use Rattle.rtsp_head.proofs.field_value.close.Goals as goal

pub returns-then-value-len : goal.returns-then-value-len
returns-then-value-len c =
    let seen : c.trim-value.result.now ≡ trimmed c.args.text = c.trim-value.ensures ∙ ap trimmed c.as_bytes.ensures in
    sym (trimmed_same c.args.text (ap length (sym seen) ∙ c.if-value-len.true ∙ c.len.ensures))
