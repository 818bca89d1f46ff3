-- What a drill prints, and what is said of it (this project's own).
use Rattle.std.specs.Prelude.{◌≡◌, ℕ, codes, decimal, List, [], ◌++◌, Option}
use Rattle.gate_outside.specs.Contents.{Grows, GrowsByFront}
use Rattle.rtsp_uri.specs.declared.base.Bases.{Bases}
use Rattle.gateway_claim.specs.Follows.{IsHistory}
use Rattle.gateway_claim.specs.Happenings.{HistoryEntry}
use Rattle.run_status.specs.declared.status.Status.{Status}
use Rattle.run_status.specs.declared.status.Status.TheVariants.{Done, SinkFault, Memory}
use Rattle.drill_run.specs.declared.counts.Counts.{Counts}
use Rattle.drill_run.specs.CountSteps.{counts_of}
use Rattle.drill_run.specs.Turns.{Drilled, DrillRun, candidates}

-- a name, a space, and a number
abbrev pub named_number : List ℕ → ℕ → List ℕ
named_number name number = name ++ codes " " ++ decimal number

-- The eight lines of a drill with so many players, these counts, and so many turns.
abbrev pub drill_lines : ℕ → Counts → ℕ → List ℕ
drill_lines players counts turns =
    named_number (codes "clients") players
    ++ named_number (codes "\nrequests") counts.requests
    ++ named_number (codes "\nreplies") counts.replies
    ++ named_number (codes "\nframes") counts.frames_down
    ++ named_number [] counts.frames_up
    ++ named_number (codes "\nnotifies") counts.notifies
    ++ named_number (codes "\nupstream") counts.upstream
    ++ named_number (codes "\nturns") turns
    ++ named_number (codes "\nbytes") counts.bytes
    ++ codes "\n"

-- the eight lines of a drill
abbrev pub drill_text : ℕ → Drilled → List ℕ
drill_text players drilled = drill_lines players (counts_of drilled.history) drilled.turns

-- The text is that of a whole drill, whose history is one of these.
pub record TellsDrill (made : List HistoryEntry → Type 0) (players number : ℕ) (text : List ℕ) : Type 0 where
  pub drilled : Drilled
  pub ran : DrillRun players number drilled
  pub ended : candidates drilled ≡ []
  pub history : made drilled.history
  pub told : text ≡ drill_text players drilled

-- its text was written
pub record WritesDrill (made : List HistoryEntry → Type 0) (players number : ℕ) (before now : Option (List ℕ)) : Type 0 where
  pub text : List ℕ
  pub tells : TellsDrill made players number text
  pub grown : Grows before now text

-- a front of its text was written
pub record WritesDrillFront (made : List HistoryEntry → Type 0) (players number : ℕ) (before now : Option (List ℕ)) : Type 0 where
  pub text : List ℕ
  pub tells : TellsDrill made players number text
  pub grown : GrowsByFront before now text

-- What the answer to a drill says. Where memory ran out nothing was written.
abbrev pub DrillSays : (List HistoryEntry → Type 0) → ℕ → ℕ → Status → Option (List ℕ) → Option (List ℕ) → Type 0
DrillSays made players number Done before now = WritesDrill made players number before now
DrillSays made players number SinkFault before now = WritesDrillFront made players number before now
DrillSays made players number Memory before now = now ≡ before
DrillSays made players number other before now = ⊥

-- How a drill ends where the sink does not fail: its text was written, or memory was wanting.
abbrev pub EndsDrill : (List HistoryEntry → Type 0) → ℕ → ℕ → Status → Option (List ℕ) → Option (List ℕ) → Type 0
EndsDrill made players number Done before now = WritesDrill made players number before now
EndsDrill made players number Memory before now = now ≡ before
EndsDrill made players number other before now = ⊥

-- the addresses between which a drill is played
abbrev pub drilled_front : List ℕ
drilled_front = codes "gate.example"

-- the server's address in a drill
abbrev pub drilled_up : List ℕ
drilled_up = codes "media.example"

-- a history of the multiplexer between them
pub record IsDrilledHistory (history : List HistoryEntry) : Type 0 where
  pub bases : Bases
  pub front : bases.front.text ≡ drilled_front
  pub up : bases.up.text ≡ drilled_up
  pub is_history : IsHistory bases history
