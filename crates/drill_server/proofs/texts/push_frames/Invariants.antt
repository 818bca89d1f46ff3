use Rattle.std.proofs.Common.{◌≡◌, ◌++◌, take}
use Rattle.drill_server.specs.Texts.{frames_of}
use Rattle.drill_server.proofs.texts.push_frames.Given as goal

-- the frames of the tracks so far
abbrev pub invariant-loop-track : goal.invariant-loop-track
invariant-loop-track l = l.text ≡ l.fn.text ++ frames_of l.id (take l.track-index l.tracks)
