-- No player enters in a drill but at its beginning.
use Rattle.std.proofs.Common.{◌≡◌, ℕ, Bool, true, false, ◌||◌, List, [], ◌∷◌, ◌++◌, map, refl, sym, subst}
use Rattle.rtsp_head.specs.Items.{Shape, items_of}
use Rattle.gateway_claim.specs.Happenings.{Happening, takes, hears, HistoryEntry, enters_here, happened}
use Rattle.gateway_claim.specs.Cores.{ever_entered}
use Rattle.drill_server.specs.ServerSteps.{next_answer}
use Rattle.drill_run.specs.declared.turn.Who.{Who}
use Rattle.drill_run.specs.declared.turn.Who.TheVariants.{Client, Server}
use Rattle.drill_run.specs.Players.{player_at, player_said}
use Rattle.drill_run.specs.Steps.{end_told}
use Rattle.drill_run.specs.Turns.{Drilled, DrillRun, begins, goes_on, turn_told}
use Rattle.drill_run.proofs.OneDrillLemmas.{turn_history}
use Rattle.drill_run.proofs.RunLemmas.{never_entered}
use Rattle.drill_run.proofs.UpstreamLemmas.{EntersBelow}

-- In what happens this connection does not enter.
abbrev EntersNot : ℕ → List Happening → Type 0
EntersNot i [] = Unit {0}
EntersNot i (happening ∷ more) = (enters_here i happening ≡ false) × EntersNot i more

not_both : (i : ℕ) (one other : List Happening) → EntersNot i one → EntersNot i other → EntersNot i (one ++ other)
not_both i [] other so too = too
not_both i (happening ∷ one) other so too = (so.0, not_both i one other so.1 too)

not_last : (i : ℕ) (one : List Happening) (happening : Happening) → EntersNot i (one ++ happening ∷ []) → EntersNot i one × (enters_here i happening ≡ false)
not_last i [] happening so = (tt, so.0)
not_last i (first ∷ one) happening so = let rest = not_last i one happening so.1 in ((so.0, rest.0), rest.1)

not_taken : (i conn : ℕ) (items : List Shape) → EntersNot i (map (λ shape. takes conn shape) items)
not_taken i conn [] = tt
not_taken i conn (shape ∷ items) = (refl, not_taken i conn items)

not_heard : (i : ℕ) (items : List Shape) → EntersNot i (map (λ shape. hears shape) items)
not_heard i [] = tt
not_heard i (shape ∷ items) = (refl, not_heard i items)

not_ended : (i conn : ℕ) (last : Bool) → EntersNot i (end_told last conn)
not_ended i conn true = (refl, tt)
not_ended i conn false = tt

not_told : (i : ℕ) (who : Who) (drilled : Drilled) → EntersNot i (turn_told who drilled)
not_told i (Client conn) drilled =
    let said = player_said conn (player_at conn drilled.players) in
    not_both i (map (λ shape. takes conn shape) (items_of said.text)) (end_told said.last conn) (not_taken i conn (items_of said.text)) (not_ended i conn said.last)
not_told i Server drilled = not_heard i (items_of (next_answer drilled.server).text)

neither_so : (one other : Bool) → one ≡ false → other ≡ false → (one || other) ≡ false
neither_so one other so too = cc

not_entered : (i : ℕ) (more earlier : List HistoryEntry) → EntersNot i (happened more) → ever_entered i earlier ≡ false → ever_entered i (more ++ earlier) ≡ false
not_entered i [] earlier so never = never
not_entered i (e ∷ more) earlier so never =
    let parts = not_last i (happened more) e.happening so in
    neither_so (enters_here i e.happening) (ever_entered i (more ++ earlier)) parts.1 (not_entered i more earlier parts.0 never)

pub run_enters : (players number : ℕ) (drilled : Drilled) → DrillRun players number drilled → EntersBelow players drilled.history
run_enters players number drilled begins i above = never_entered players i above
run_enters players number drilled (goes_on before next ran turn) i above =
    subst (λ (l : List HistoryEntry). ever_entered i l ≡ false) (sym (turn_history before next turn))
    (not_entered i turn.more before.history (subst (EntersNot i) (sym turn.told) (not_told i turn.who before)) (run_enters players number before ran i above))
