use Rattle.std.proofs.Common.{◌<◌, arith}
use Rattle.rtsp_head.proofs.DigitLemmas.{number_small}
use Rattle.rtsp_head.proofs.start.read_code.Goals as goal

pub overflow_cast-result : goal.overflow_cast-result
overflow_cast-result c =
    let small : c.in_ok-code.code < 1000 = number_small c.args.text.now c.in_ok-code.code (grind arith) in
    omega arith
