-- No session before has it.
use Rattle.std.proofs.Common.{◌≡◌, drop}
use Rattle.client_slot.specs.Places.{tracks_of}
use Rattle.client_machine.specs.Frames.{half_for}
use Rattle.client_machine.proofs.frames.half_for.Given as goal

abbrev pub invariant-loop-place : goal.invariant-loop-place
invariant-loop-place l = half_for l.channel (tracks_of (drop l.place l.slot.sessions)) ≡ half_for l.channel (tracks_of l.slot.sessions)
