-- What the command that serves players says.
use Rattle.std.proofs.Common.{ℕ, List, inl, inr, sym, subst}
use Rattle.run_status.specs.declared.status.Status.{Status}
use Rattle.command_line.specs.declared.options.ServeOptions.{ServeOptions}
use Rattle.command_line.specs.Words.{NamesServe}
use Rattle.gateway_run.specs.WholeRun.{RunSeen}
use Rattle.rtspgate.specs.ServeAnswers.{SaysServed, ServesWords, IsNoRun}

-- what is said of the options is said of the words that name them
pub serves_named : (words : List (List ℕ)) (options : ServeOptions) (status : Status) (seen : RunSeen) →
    NamesServe options words → SaysServed options status seen → ServesWords words status seen
serves_named words options status seen names (inl so) = inl (record { options = options; names = names; served = so })
serves_named words options status seen names (inr none) =
    inr (record { status_is = subst IsNoRun (sym none.0) tt; world = none.1.0; sink = none.1.1 })
