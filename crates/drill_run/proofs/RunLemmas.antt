-- A whole drill, turn by turn.
use Rattle.std.proofs.Common.{◌≡◌, ℕ, zero, suc, ◌+◌, ◌≤◌, ◌==◌, ◌||◌, true, false, Option, List, ◌∷◌, ap, ◌∙◌, subst, refl, arith}
use Rattle.std.proofs.lemmas.Bool.Decides.{nat_tests}
use Rattle.rtsp_uri.specs.declared.base.Bases.{Bases}
use Rattle.gateway_claim.specs.Happenings.{HistoryEntry, entering}
use Rattle.gateway_claim.specs.Cores.{IsCoreHistory, IsNewTo, ever_entered}
use Rattle.drill_run.specs.declared.stage.DrillStage.{DrillStage}
use Rattle.drill_run.specs.CountSteps.{counts_of}
use Rattle.drill_run.specs.Stages.{IsStage}
use Rattle.drill_run.specs.Turns.{entered_below, started, begins, goes_on}
use Rattle.drill_run.proofs.OneDrillLemmas.{turn_turns}
use Rattle.drill_run.specs.Plays.{Drills, Plays, TurnMade, HasRun, HasPlayedOut}
use Rattle.run_status.specs.declared.status.Status.{Status}
use Rattle.run_status.specs.declared.status.Status.TheVariants.{Done, Usage, SourceFault, SinkFault, BadTranscript, TooLong, Memory, Upstream, ListenFault, RecordFault, CrewRefused, AcceptFault, DialFault, NumbersSpent}
use Rattle.drill_run.specs.Reports.{drill_lines, TellsDrill, DrillSays}

-- numbers from n on have not entered
pub never_entered : (n i : ℕ) → n ≤ i → ever_entered i (entered_below n) ≡ false
never_entered zero i above = refl
never_entered (suc n) i above =
    let other : (n == i) ≡ false = grind (arith, nat_tests) in
    ap (λ b. b || ever_entered i (entered_below n)) other ∙ never_entered n i (omega arith)

pub new_to : (stands : List HistoryEntry → Type 0) (n : ℕ) → stands (entered_below n) → IsNewTo stands n
new_to stands n stood = record { history = entered_below n; stood = stood; never = never_entered n n (omega arith) }

-- one turn more
pub run_more : (least players number : ℕ) (before now : Drills) → HasRun least players number before → TurnMade true before now → HasRun (least + 1) players number now
run_more least players number before now run made =
    let next = made run.drilled run.stands in
    let turns = turn_turns run.drilled next.next next.turn in
    let many = run.many in
    record { drilled = next.next; ran = goes_on run.drilled next.next run.ran next.turn; many = omega (arith, turns, many); stands = next.stands }

-- no turn is left
pub run_ended : (least players number : ℕ) (before now : Drills) → HasRun least players number before → TurnMade false before now → HasPlayedOut players number now
run_ended least players number before now run made =
    let ended = made run.drilled run.stands in
    record { drilled = run.drilled; ran = run.ran; ended = ended.0; stands = ended.1 }

-- the beginning
pub run_begins : {M : Type 0} (stands : M → List HistoryEntry → Type 0) (bases_of : M → Bases) (core : M) (stage : DrillStage) (between : Bases) (players number : ℕ)
    → stands core (entered_below players) → bases_of core ≡ between → IsStage stage (started players number)
    → HasRun 0 players number (Plays stands bases_of core stage between)
run_begins stands bases_of core stage between players number stood based staged = record {
  drilled = started players number;
  ran = begins;
  many = omega arith;
  stands = record { stood = stood; based = based; staged = staged };
}

-- what is told at the end
pub tells : {M : Type 0} (stands : M → List HistoryEntry → Type 0) (bases_of : M → Bases) (follows : Bases → List HistoryEntry → HistoryEntry → Type 0) (core : M) (stage : DrillStage) (between : Bases) (players number : ℕ) (text : List ℕ)
    → ((core : M) (T : List HistoryEntry) → stands core T → IsCoreHistory follows (bases_of core) T)
    → HasPlayedOut players number (Plays stands bases_of core stage between) → text ≡ drill_lines players stage.counts stage.turns
    → TellsDrill (IsCoreHistory follows between) players number text
tells stands bases_of follows core stage between players number text law ended told = record {
  drilled = ended.drilled;
  ran = ended.ran;
  ended = ended.ended;
  history = subst (λ (bases : Bases). IsCoreHistory follows bases ended.drilled.history) ended.stands.based (law core ended.drilled.history ended.stands.stood);
  told =
      told
      ∙ ap (λ counts. drill_lines players counts stage.turns) ended.stands.staged.counts
      ∙ ap (λ turns. drill_lines players (counts_of ended.drilled.history) turns) ended.stands.staged.turns;
}

-- one connection more
pub one_entered : (before now : List HistoryEntry → Type 0) (n : ℕ) → before (entered_below n)
    → ((T : List HistoryEntry) → before T → ever_entered n T ≡ false → now (entering n ∷ T)) → now (entered_below (n + 1))
one_entered before now n stood enters =
    let next : entering n ∷ entered_below n ≡ entered_below (n + 1) = ap entered_below (let same : suc n ≡ n + 1 = omega arith in same) in
    subst now next (enters (entered_below n) stood (never_entered n n (omega arith)))

tells_more : (made other : List HistoryEntry → Type 0) → ((T : List HistoryEntry) → made T → other T) → (players number : ℕ) (text : List ℕ) → TellsDrill made players number text → TellsDrill other players number text
tells_more made other widens players number text tells = record { drilled = tells.drilled; ran = tells.ran; ended = tells.ended; history = widens tells.drilled.history tells.history; told = tells.told }

-- What is said of some histories holds of others that they are.
pub says_more : (made other : List HistoryEntry → Type 0) → ((T : List HistoryEntry) → made T → other T) → (players number : ℕ) (status : Status) (before now : Option (List ℕ))
    → DrillSays made players number status before now → DrillSays other players number status before now
says_more made other widens players number Done before now says = record { text = says.text; tells = tells_more made other widens players number says.text says.tells; grown = says.grown }
says_more made other widens players number SinkFault before now says = record { text = says.text; tells = tells_more made other widens players number says.text says.tells; grown = says.grown }
says_more made other widens players number Memory before now says = says
says_more made other widens players number (Usage place) before now says = says
says_more made other widens players number SourceFault before now says = says
says_more made other widens players number (BadTranscript place fault) before now says = says
says_more made other widens players number TooLong before now says = says
says_more made other widens players number (Upstream cause) before now says = says
says_more made other widens players number ListenFault before now says = says
says_more made other widens players number RecordFault before now says = says
says_more made other widens players number CrewRefused before now says = says
says_more made other widens players number AcceptFault before now says = says
says_more made other widens players number DialFault before now says = says
says_more made other widens players number NumbersSpent before now says = says
