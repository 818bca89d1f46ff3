-- A turn that is to be planned (this project's own).
use Rattle.std.specs.Prelude.{ℕ, false, None}
use Rattle.client_machine.specs.declared.parts.PlannedStep.{PlannedStep}
use Rattle.gateway_mux.specs.declared.turn.PlannedTurn.{PlannedTurn}

-- the turn of a connection that settles nothing, with a plan
abbrev pub blank_turn : ℕ → ℕ → ℕ → ℕ → PlannedStep → PlannedTurn
blank_turn conn key number next plan = record { conn = conn; key = key; number = number; next = next; settled = None; plan = plan; asks = false }
