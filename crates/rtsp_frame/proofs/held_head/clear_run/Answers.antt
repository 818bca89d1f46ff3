use Rattle.std.proofs.Common.{sym}
use Rattle.gate_bytes.specs.Ascii.{lf}
use Rattle.rtsp_frame.proofs.RestLemmas.{none_before}
use Rattle.rtsp_frame.proofs.held_head.clear_run.Goals as goal

pub returns-in-Some-clause-clear : goal.returns-in-Some-clause-clear
returns-in-Some-clause-clear g c = none_before lf c.args.bytes.now c.in-Some.at (sym c.in-Some.ensures.place)
