use Rattle.std.proofs.Common.{◌≡◌, ◌-◌, ◌*◌}
use Rattle.translate_up.specs.Views.{tracks_shown}
use Rattle.translate_up.specs.Channels.{free_from}
use Rattle.translate_up.proofs.channels.free_pair.Given as goal

-- no lower pair is free
abbrev pub invariant-loop-half : goal.invariant-loop-half
invariant-loop-half l = free_from (127 - l.half) (tracks_shown l.sessions) (2 * l.half) ≡ free_from 127 (tracks_shown l.sessions) 0
