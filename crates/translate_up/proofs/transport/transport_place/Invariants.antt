use Rattle.std.proofs.Common.{◌≡◌, ◌+◌, drop}
use Rattle.translate_up.specs.Upward.{transport_place}
use Rattle.translate_up.proofs.transport.transport_place.Given as goal

-- the formats of times do not stand before this place
abbrev pub invariant-loop-place : goal.invariant-loop-place
invariant-loop-place l = transport_place (drop l.place l.headers) + l.place ≡ transport_place l.headers
