use Rattle.std.proofs.Common.{ℕ}
use Rattle.rtsp_uri.specs.declared.base.Bases.{Bases}
use Rattle.drill_run.specs.Plays.{Plays, HasRun}
use Rattle.drill_run.proofs.whole_drill.run_turns.Given as goal

-- a part of the drill was played, of as many turns
abbrev pub invariant-loop-turn : goal.invariant-loop-turn
invariant-loop-turn g l = (number : ℕ) (between : Bases) → HasRun 0 l.players number (Plays g.M.Core.stands g.M.Core.bases l.fn.drill.core l.fn.drill.stage between) →
    HasRun l._turn l.players number (Plays g.M.Core.stands g.M.Core.bases l.drill.core l.drill.stage between)
