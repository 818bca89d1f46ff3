use Rattle.std.proofs.Common.{◌≡◌, length}
use Rattle.client_machine.specs.Step.{after_plays}
use Rattle.client_machine.specs.Plans.{ArePlaced}
use Rattle.client_machine.proofs.commit.queue_all.Given as goal

abbrev pub invariant-loop-play : goal.invariant-loop-play
invariant-loop-play l = (after_plays l.plays l.slot ≡ after_plays l.initial.plays l.initial.slot) × ArePlaced l.slot.sessions l.plays

abbrev pub decreases-loop-play : goal.decreases-loop-play
decreases-loop-play l = length l.plays
