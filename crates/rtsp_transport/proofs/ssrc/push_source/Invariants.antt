use Rattle.std.proofs.Common.{◌≡◌, ◌++◌, ◌/◌, ◌%◌, take, map}
use Rattle.rtsp_transport.specs.declared.ssrc.TheConstants.{HEX_PLACES}
use Rattle.rtsp_transport.specs.Sources.{hex_digit}
use Rattle.rtsp_transport.proofs.ssrc.push_source.Given as goal

-- the digits so far
abbrev pub invariant-loop-place : goal.invariant-loop-place
invariant-loop-place l = l.text ≡ l.fn.text ++ map (λ place. hex_digit (l.source / place % 16)) (take l.place-index HEX_PLACES)
