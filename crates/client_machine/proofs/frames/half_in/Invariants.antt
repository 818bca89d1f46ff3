use Rattle.std.proofs.Common.{◌≡◌, drop}
use Rattle.client_machine.specs.Frames.{half_for}
use Rattle.client_machine.proofs.frames.half_in.Given as goal

-- no stream so far has the channel
abbrev pub invariant-loop-track : goal.invariant-loop-track
invariant-loop-track l = half_for l.channel (drop l.track-index l.tracks) ≡ half_for l.channel l.tracks
