-- No session before this place passes.
use Rattle.std.proofs.Common.{◌≡◌, drop}
use Rattle.std.specs.Prelude.{is_none}
use Rattle.client_slot.specs.Places.{first_place}
use Rattle.client_slot.proofs.slot.places.empty_place.Given as goal

abbrev pub invariant-loop-place : goal.invariant-loop-place
invariant-loop-place l = first_place (λ session. is_none session.id) l.place (drop l.place l.sessions) ≡ first_place (λ session. is_none session.id) 0 l.sessions
