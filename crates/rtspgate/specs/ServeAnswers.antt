-- What the command that serves players says (this project's own).
use Rattle.std.specs.Prelude.{◌≡◌, ℕ, List, ◌⊎◌}
use Rattle.gateway_claim.specs.Follows.{Follows}
use Rattle.run_status.specs.declared.status.Status.{Status}
use Rattle.run_status.specs.declared.status.Status.TheVariants.{Usage, Memory}
use Rattle.command_line.specs.declared.options.ServeOptions.{ServeOptions}
use Rattle.command_line.specs.Words.{NamesServe}
use Rattle.gateway_run.specs.WholeRun.{RunSeen, ServedSo}

-- words were refused, or memory was wanting
abbrev pub IsNoRun : Status → Type 0
IsNoRun (Usage place) = Unit {0}
IsNoRun Memory = Unit {0}
IsNoRun other = ⊥

-- No player was served: nothing was opened, and nothing written.
pub record ServedNone (status : Status) (seen : RunSeen) : Type 0 where
  pub status_is : IsNoRun status
  pub world : seen.closed ≡ seen.opened
  pub sink : seen.now ≡ seen.before

-- What the answer to options says: players were served with them through the multiplexer, or memory was wanting before that.
abbrev pub SaysServed : ServeOptions → Status → RunSeen → Type 0
SaysServed options status seen =
    ServedSo Follows options.bases status seen
    ⊎ ((status ≡ Memory) × ((seen.closed ≡ seen.opened) × (seen.now ≡ seen.before)))

-- Players were served with the options that the words name.
pub record ServesNamed (words : List (List ℕ)) (status : Status) (seen : RunSeen) : Type 0 where
  pub options : ServeOptions
  pub names : NamesServe options words
  pub served : ServedSo Follows options.bases status seen

-- What the answer to words that ask for players to be served says.
abbrev pub ServesWords : List (List ℕ) → Status → RunSeen → Type 0
ServesWords words status seen = ServesNamed words status seen ⊎ ServedNone status seen
