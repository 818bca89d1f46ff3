-- A drill of the multiplexer does not meet the limit of turns.
use Rattle.std.proofs.Common.{◌≡◌, ℕ, ◌+◌, ◌*◌, ◌^◌, ◌≤◌, ◌<◌, ap, ◌∙◌, arith}
use Rattle.rtsp_uri.specs.declared.base.Bases.{Bases}
use Rattle.gateway_mux.specs.declared.mux.Mux.{Mux}
use Rattle.gateway_mux.specs.Stands.{Stands, bases_of}
use Rattle.drill_run.specs.CountSteps.{counts_of}
use Rattle.drill_run.specs.declared.stage.DrillStage.{DrillStage}
use Rattle.drill_run.specs.Plays.{Plays, HasRun}
use Rattle.drill_run.specs.Reports.{IsDrilledHistory, drilled_front, drilled_up}
use Rattle.drill_run.specs.Turns.{Drilled, DrillRun}
use Rattle.drill_run.proofs.RequestCountLemmas.{requests_few}
use Rattle.drill_run.proofs.EnterLemmas.{run_enters}
use Rattle.drill_run.proofs.GrantLemmas.{own_granted, run_grants}
use Rattle.drill_run.proofs.HearLemmas.{heard_few}
use Rattle.drill_run.proofs.MostCountLemmas.{brought_few}
use Rattle.drill_run.proofs.TurnCountLemmas.{turns_counted, steps_counted}
use Rattle.drill_run.proofs.UpstreamLemmas.{upstream_few, upstream_most}

-- A first limit, whatever the server answers: it keeps the numbers of the server's sessions and notifies small, so that its
-- answers can be written and read.
turns_small : (players number : ℕ) (drilled : Drilled) → players < 2 ^ 32 → DrillRun players number drilled → IsDrilledHistory drilled.history → drilled.turns < 2 ^ 63
turns_small players number drilled small ran made =
    let counted = turns_counted players number drilled ran in
    let steps = steps_counted players number drilled ran in
    let heard = heard_few made.bases players number drilled ran made.is_history in
    let up = upstream_few made.bases drilled.history players made.is_history (run_enters players number drilled ran) in
    let asked = requests_few players number drilled small ran in
    omega (arith, small, counted, steps, heard, up, asked)

pub upstream_six : (players number : ℕ) (drilled : Drilled) → players < 2 ^ 32 → DrillRun players number drilled → IsDrilledHistory drilled.history → (counts_of drilled.history).upstream ≤ 6 * players
upstream_six players number drilled small ran made =
    let grants = run_grants players number drilled ran (turns_small players number drilled small ran made) in
    let up = upstream_most made.bases drilled.history players made.is_history (run_enters players number drilled ran) (λ i. own_granted made.bases drilled.history i grants) in
    let brought = brought_few players number drilled small ran in
    omega (arith, up, brought)

pub turns_few : (players number : ℕ) (drilled : Drilled) → players < 2 ^ 32 → DrillRun players number drilled → IsDrilledHistory drilled.history → drilled.turns ≤ 14 * players
turns_few players number drilled small ran made =
    let counted = turns_counted players number drilled ran in
    let steps = steps_counted players number drilled ran in
    let heard = heard_few made.bases players number drilled ran made.is_history in
    let up = upstream_six players number drilled small ran made in
    omega (arith, counted, steps, heard, up)

pub never_met : (players number : ℕ) (mux : Mux) (stage : DrillStage) (between : Bases) → players < 2 ^ 32 → between.front.text ≡ drilled_front → between.up.text ≡ drilled_up
    → HasRun (14 * players + 1) players number (Plays Stands bases_of mux stage between) → ⊥
never_met players number mux stage between small front up run =
    let made : IsDrilledHistory run.drilled.history = record {
      bases = bases_of mux;
      front = ap (λ (b : Bases). b.front.text) run.stands.based ∙ front;
      up = ap (λ (b : Bases). b.up.text) run.stands.based ∙ up;
      is_history = run.stands.stood.is_history;
    } in
    let few = turns_few players number run.drilled small run.ran made in
    let many = run.many in
    omega (arith, few, many)
