use Rattle.std.proofs.Common.{sym, ◌∙◌, arith}
use Rattle.rtsp_transport.proofs.SourceLemmas.{hex_step}
use Rattle.rtsp_transport.proofs.ssrc.read_source.Goals as goal

pub overflow_mul-number : goal.overflow_mul-number
overflow_mul-number c =
    let step = hex_step c.args.text.now c.loop-byte.byte-index c.loop-byte-test.true c.if-text-ne-SSRC_DIGITS.false c.loop-byte.invariant.digits (sym c.is_ascii_hexdigit.ensures.value ∙ c.if-not-is_ascii_hexdigit.false) in
    omega (arith, step.value, step.small, c.loop-byte.invariant.value)

pub overflow_add-number : goal.overflow_add-number
overflow_add-number c =
    let step = hex_step c.args.text.now c.loop-byte.byte-index c.loop-byte-test.true c.if-text-ne-SSRC_DIGITS.false c.loop-byte.invariant.digits (sym c.is_ascii_hexdigit.ensures.value ∙ c.if-not-is_ascii_hexdigit.false) in
    omega (arith, step.value, step.small, c.loop-byte.invariant.value, c.hex_value.ensures)

pub loop-byte-preserved : goal.loop-byte-preserved
loop-byte-preserved c =
    let step = hex_step c.args.text.now c.loop-byte.byte-index c.loop-byte-test.true c.if-text-ne-SSRC_DIGITS.false c.loop-byte.invariant.digits (sym c.is_ascii_hexdigit.ensures.value ∙ c.if-not-is_ascii_hexdigit.false) in
    record { digits = step.digits; value = omega (arith, step.value, c.loop-byte.invariant.value, c.hex_value.ensures) }
