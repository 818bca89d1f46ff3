use Rattle.std.proofs.Common.{rules, ◌≡◌, length, slice_index}
use Rattle.gate_bytes.specs.Ascii.{cr}
use Rattle.rtsp_frame.proofs.RestLemmas.{lone_return}
use Rattle.rtsp_frame.proofs.extent.first_span.Goals as goal

pub returns-then-bytes-eq1-clause-found : goal.returns-then-bytes-eq1-clause-found
returns-then-bytes-eq1-clause-found g c =
    let begins : slice_index c.args.bytes.now 0 ≡ cr = search rules in
    let lone : length c.args.bytes.now ≡ 1 = search rules in
    lone_return c.args.bytes.now begins lone
