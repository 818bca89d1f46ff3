-- So many are copied.
use Rattle.std.proofs.Common.{◌≡◌, take}
use Rattle.client_machine.proofs.sight.with_one_more.Given as goal

abbrev pub invariant-loop-track : goal.invariant-loop-track
invariant-loop-track l = l.all.items ≡ take l.track-index l.tracks
