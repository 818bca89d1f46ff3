-- A plan that was carried out for a connection (this project's own).
use Rattle.std.specs.Prelude.{ℕ, Option, Some, None}
use Rattle.rtsp_uri.specs.declared.base.Bases.{Bases}
use Rattle.client_slot.specs.Client.{Client}
use Rattle.client_machine.specs.declared.parts.PlannedStep.{PlannedStep}
use Rattle.client_machine.specs.declared.parts.Done.{Done}
use Rattle.client_machine.specs.Plans.{Comes, effect_by, IsPlan, Does}

-- By the connection before it, the plan, the numbers of the open and of the next request, the connection after it, and what
-- was done: whatever it was the plan for, that is done.
abbrev pub IsCarried : Client → PlannedStep → ℕ → ℕ → Client → Done → Type 0
IsCarried before plan number next after done =
    (bases : Bases) (pair : Option ℕ) (comes : Comes) → IsPlan bases next pair before comes plan → Does next pair after done (effect_by bases number pair before comes)

-- a plan was carried out for the connection that is there
abbrev pub IsCarriedAt : Option Client → Option Client → PlannedStep → ℕ → ℕ → Done → Type 0
IsCarriedAt None after plan number next done = ⊥
IsCarriedAt (Some before) None plan number next done = ⊥
IsCarriedAt (Some before) (Some after) plan number next done = IsCarried before plan number next after done
