-- How a refusal of words is told (this project's own).
use Rattle.std.specs.Prelude.{◌≡◌, ℕ, Bool, true, false, List, Option, Some, None, ◌⊎◌}
use Rattle.run_status.specs.declared.status.Status.{Status}
use Rattle.run_status.specs.declared.status.Status.TheVariants.{Usage, Memory, SinkFault}
use Rattle.command_line.specs.Words.{asks_to_serve, word_fault}

-- the place of a refusal; and the first place where there is none, but players are to be served
abbrev pub fault_or_serve : Option ℕ → Bool → Option ℕ
fault_or_serve (Some place) serves = Some place
fault_or_serve None true = Some 0
fault_or_serve None false = None

-- the place that is told where no player can be served: also that of the command, where it is `serve`
abbrev pub plain_fault : List (List ℕ) → Option ℕ
plain_fault words = fault_or_serve (word_fault words) (asks_to_serve words)

-- A refusal of words is told with this place; and where there is one, it is told, but where memory ran out.
pub record TellsUsage (status : Status) (fault : Option ℕ) : Type 0 where
  pub only : (place : ℕ) → status ≡ Usage place → fault ≡ Some place
  pub always : (place : ℕ) → fault ≡ Some place → (status ≡ Usage place) ⊎ (status ≡ Memory)

-- The same of a run whose sink was flushed at the end: a flush that fails stands before every other answer.
pub record TellsUsageAfterFlush (status : Status) (fault : Option ℕ) : Type 0 where
  pub only : (place : ℕ) → status ≡ Usage place → fault ≡ Some place
  pub always : (place : ℕ) → fault ≡ Some place → (status ≡ Usage place) ⊎ ((status ≡ Memory) ⊎ (status ≡ SinkFault))
