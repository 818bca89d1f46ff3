-- No session before this place passes.
use Rattle.std.proofs.Common.{◌≡◌, drop}
use Rattle.client_slot.specs.Places.{has_due, first_place}
use Rattle.client_slot.proofs.slot.places.first_due.Given as goal

abbrev pub invariant-loop-place : goal.invariant-loop-place
invariant-loop-place l = first_place has_due l.place (drop l.place l.sessions) ≡ first_place has_due 0 l.sessions
