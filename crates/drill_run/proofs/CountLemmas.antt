-- Connections that enter add nothing to the counts.
use Rattle.std.proofs.Common.{◌≡◌, ℕ, zero, suc, refl, ap, ◌∙◌, add-zero}
use Rattle.gateway_claim.specs.Happenings.{entering}
use Rattle.drill_run.specs.declared.counts.Counts.{Counts}
use Rattle.drill_run.specs.CountSteps.{counts_of, counts_in, counts_none, counts_sum}
use Rattle.drill_run.specs.Turns.{entered_below}

sum_none : (counts : Counts) → counts_sum counts counts_none ≡ counts
sum_none counts = simp add-zero

pub counts_entered : (n : ℕ) → counts_of (entered_below n) ≡ counts_none
counts_entered zero = refl
counts_entered (suc n) = ap (λ (counts : Counts). counts_sum counts (counts_in (entering n))) (counts_entered n) ∙ sum_none counts_none
