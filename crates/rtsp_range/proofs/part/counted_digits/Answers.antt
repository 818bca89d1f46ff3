use Rattle.std.proofs.Common.{◌∙◌, ap, arith}
use Rattle.std.specs.Str.Parse.{digits_value}
use Rattle.rtsp_range.proofs.DigitLemmas.{nine_step, nine_whole}
use Rattle.rtsp_range.proofs.part.counted_digits.Goals as goal

pub overflow_mul-number : goal.overflow_mul-number
overflow_mul-number c =
    let step = nine_step c.args.digits.now c.loop-place.place c.requires c.loop-place-test.true in
    omega (arith, step.value, step.small, c.loop-place.invariant)

pub overflow_add-number : goal.overflow_add-number
overflow_add-number c =
    let step = nine_step c.args.digits.now c.loop-place.place c.requires c.loop-place-test.true in
    omega (arith, step.value, step.small, c.loop-place.invariant, c.digit_or_zero.ensures)

pub loop-place-preserved : goal.loop-place-preserved
loop-place-preserved c =
    let step = nine_step c.args.digits.now c.loop-place.place c.requires c.loop-place-test.true in
    omega (arith, step.value, c.loop-place.invariant, c.digit_or_zero.ensures)

pub returns : goal.returns
returns c = c.loop-place.invariant ∙ ap (digits_value 10) (nine_whole c.args.digits.now c.loop-place.place c.loop-place-test.false)
