-- The sessions before this place have no PLAY that waits.
use Rattle.std.proofs.Common.{◌≡◌}
use Rattle.client_slot.specs.SessionChanges.{when_unqueued}
use Rattle.client_slot.proofs.PlaceLemmas.{front_changed}
use Rattle.client_slot.proofs.at_place.unqueue_all.Given as goal

abbrev pub invariant-loop-place : goal.invariant-loop-place
invariant-loop-place l = l.sessions.items ≡ front_changed l.place when_unqueued l.initial.sessions.items
