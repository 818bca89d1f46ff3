use Rattle.std.proofs.Common.{◌+◌, ◌*◌, min, sym, ◌∙◌, ap}
use Rattle.rtsp_range.specs.CappedTimes.{most_seconds}
use Rattle.rtsp_range.proofs.DigitLemmas.{digit_step}
use Rattle.rtsp_range.proofs.npt.whole_number.Goals as goal

pub loop-byte-preserved : goal.loop-byte-preserved
loop-byte-preserved c =
    let step = digit_step c.args.text.now c.loop-byte.byte-index c.loop-byte.number c.loop-byte-test.true c.loop-byte.invariant.digits c.loop-byte.invariant.value (sym c.is_ascii_digit.ensures.value ∙ c.if-not-is_ascii_digit.false) in
    record {
      digits = step.digits;
      value = c.min-number.ensures ∙ ap (λ d. min (c.loop-byte.number * 10 + d) most_seconds) c.from.ensures ∙ step.value;
    }
