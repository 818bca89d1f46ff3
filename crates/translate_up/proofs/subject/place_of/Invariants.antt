-- No session before this place has the id.
use Rattle.std.proofs.Common.{◌≡◌, drop, map}
use Rattle.translate_up.specs.Views.{session_shown, place_from}
use Rattle.translate_up.proofs.subject.place_of.Given as goal

abbrev pub invariant-loop-place : goal.invariant-loop-place
invariant-loop-place l = place_from l.id l.place (map session_shown (drop l.place l.sessions)) ≡ place_from l.id 0 (map session_shown l.sessions)
