-- No session before this place passes.
use Rattle.std.proofs.Common.{◌≡◌, drop}
use Rattle.client_slot.specs.Places.{is_session, first_place}
use Rattle.client_slot.proofs.slot.places.place_with.Given as goal

abbrev pub invariant-loop-place : goal.invariant-loop-place
invariant-loop-place l = first_place (λ session. is_session l.id session.id) l.place (drop l.place l.sessions) ≡ first_place (λ session. is_session l.id session.id) 0 l.sessions
