use Rattle.std.proofs.Common.{◌≡◌, length}
use Rattle.gate_bytes.specs.Ascii.{semicolon}
use Rattle.gate_bytes.specs.Places.{parts_at}
use Rattle.rtsp_small.specs.Sessions.{first_timeout}
use Rattle.rtsp_small.proofs.session.first_timeout.Given as goal

-- the timeout is among the parameters that are left
abbrev pub invariant-loop-parameter : goal.invariant-loop-parameter
invariant-loop-parameter l = first_timeout (parts_at semicolon l.rest) ≡ first_timeout (parts_at semicolon l.parameters)

abbrev pub decreases-loop-parameter : goal.decreases-loop-parameter
decreases-loop-parameter l = length l.rest
