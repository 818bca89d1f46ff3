-- What passes know, as a list by their numbers, when one of them changes or a new one comes.
use Rattle.std.proofs.Common.{◌≡◌, ◌≢◌, ℕ, zero, suc, List, [], ◌∷◌, ◌++◌, length, set, sym, refl, ap, subst, ⊎_elim}
use mathlib.Core.Option.{some, some-ne-none}
use lib.ListN.{get_elem?}
use Rattle.crossbeam_queue.proofs.Lists.{at_set}
use Rattle.client_ports.specs.declared.rule.Knowledge.{Knowledge}

-- all that any pass knows is so
abbrev pub EachPass : (ℕ → Knowledge → Type 0) → List Knowledge → Type 0
EachPass F views = (pass : ℕ) (known : Knowledge) → get_elem? views pass ≡ some known → F pass known

-- where this view stands behind the others and not among them, it has the number that was free
pub at_end : (views : List Knowledge) (new known : Knowledge) (pass : ℕ) → get_elem? views pass ≢ some known → get_elem? (views ++ new ∷ []) pass ≡ some known → pass ≡ length views
at_end [] new known zero n e = refl
at_end [] new known (suc pass) n e = absurd (some-ne-none known (sym e))
at_end (v ∷ views) new known zero n e = absurd (n e)
at_end (v ∷ views) new known (suc pass) n e = ap suc (at_end views new known pass n e)

-- one pass learns something new
pub each_set : (F : ℕ → Knowledge → Type 0) (views : List Knowledge) (pass : ℕ) (w : Knowledge) → F pass w → ((j : ℕ) (u : Knowledge) → j ≢ pass → get_elem? views j ≡ some u → F j u) → EachPass F (set views pass w)
each_set F views pass w mine others j u e = ⊎_elim (λ (x : (j ≡ pass) × (w ≡ u)). subst (λ (y : ℕ × Knowledge). F y.0 y.1) (λ i. (sym x.0 i, x.1 i)) mine)
    (λ (x : (j ≢ pass) × (get_elem? views j ≡ some u)). others j u x.0 x.1) (at_set views pass j w u e)
