-- So many places are empty, and need no room.
use Rattle.std.proofs.Common.{◌≡◌, false, replicate}
use Rattle.client_slot.specs.Session.{new_session}
use Rattle.client_slot.specs.Bounds.{rooms_left}
use Rattle.client_slot.proofs.slot.Slot.new.Given as goal

abbrev pub invariant-loop-place : goal.invariant-loop-place
invariant-loop-place l = (l.sessions.items ≡ replicate l._place new_session) × (rooms_left l.rooms.items ≡ replicate l._place false)
