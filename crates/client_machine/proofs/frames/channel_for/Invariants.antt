-- No session before has it.
use Rattle.std.proofs.Common.{◌≡◌, drop}
use Rattle.client_slot.specs.Places.{tracks_of}
use Rattle.client_machine.specs.Frames.{channel_for}
use Rattle.client_machine.proofs.frames.channel_for.Given as goal

abbrev pub invariant-loop-place : goal.invariant-loop-place
invariant-loop-place l = channel_for l.pair l.half (tracks_of (drop l.place l.slot.sessions)) ≡ channel_for l.pair l.half (tracks_of l.slot.sessions)
