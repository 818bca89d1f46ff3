use Rattle.std.proofs.Common.{sym, ◌∙◌, arith}
use Rattle.gate_bytes.proofs.DigitLemmas.{digit_step}
use Rattle.gate_bytes.proofs.decimal.read_decimal.Goals as goal

pub overflow_mul-value : goal.overflow_mul-value
overflow_mul-value c =
    let step = digit_step c.args.text.now c.loop-byte.byte-index c.loop-byte-test.true (omega arith) c.loop-byte.invariant.digits (sym c.is_ascii_digit.ensures.value ∙ c.if-not-is_ascii_digit.false) in
    omega (arith, step.value, step.small, c.loop-byte.invariant.value)

pub overflow_add-value : goal.overflow_add-value
overflow_add-value c =
    let step = digit_step c.args.text.now c.loop-byte.byte-index c.loop-byte-test.true (omega arith) c.loop-byte.invariant.digits (sym c.is_ascii_digit.ensures.value ∙ c.if-not-is_ascii_digit.false) in
    omega (arith, step.value, step.small, c.loop-byte.invariant.value, c.from.ensures)

pub loop-byte-preserved : goal.loop-byte-preserved
loop-byte-preserved c =
    let step = digit_step c.args.text.now c.loop-byte.byte-index c.loop-byte-test.true (omega arith) c.loop-byte.invariant.digits (sym c.is_ascii_digit.ensures.value ∙ c.if-not-is_ascii_digit.false) in
    record { digits = step.digits; value = omega (arith, step.value, c.loop-byte.invariant.value, c.from.ensures) }
