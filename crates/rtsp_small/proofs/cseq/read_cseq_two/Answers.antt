use Rattle.std.proofs.Common.{◌<◌, ◌^◌, arith}
use Rattle.std.specs.Prelude.{IfSome}
use Rattle.gate_bytes.specs.Numbers.{number_in}
use Rattle.gate_bytes.proofs.DigitLemmas.{number_small}
use Rattle.rtsp_small.specs.declared.cseq.TheConstants.{CSEQ_TWO_DIGITS}
use Rattle.rtsp_small.proofs.cseq.read_cseq_two.Goals as goal

pub overflow_cast-result : goal.overflow_cast-result
overflow_cast-result c =
    let small : IfSome (number_in CSEQ_TWO_DIGITS c.args.value.now) (λ n. n < 10 ^ CSEQ_TWO_DIGITS) = number_small CSEQ_TWO_DIGITS c.args.value.now in
    grind (arith, small)
