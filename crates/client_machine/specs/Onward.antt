-- What goes up for a connection with no open request, as it is planned (this project's own).
use Rattle.std.specs.Prelude.{◌≡◌, ℕ, is_some, List, ◌++◌, map, Option, Some, None}
use Rattle.rtsp_uri.specs.declared.base.Bases.{Bases}
use Rattle.session_one.specs.declared.parts.Play.{Play}
use Rattle.head_two.specs.Requests.{request_text}
use Rattle.translate_up.specs.QueuedPlay.{play_up}
use Rattle.client_slot.specs.Client.{Client}
use Rattle.client_machine.specs.declared.parts.Change.{Change}
use Rattle.client_machine.specs.declared.parts.Up.{Up}
use Rattle.client_machine.specs.declared.parts.Up.TheVariants as ups
use Rattle.client_machine.specs.declared.parts.PlannedStep.{PlannedStep}
use Rattle.client_machine.specs.Progresses.{Progress, progressed, sessions_then, IsTreated}
use Rattle.client_machine.specs.Treatment.{Going, decision_on}
use Rattle.rtsp_head.specs.Items.{Shape}
use Rattle.translate_up.specs.Views.{SeenSession, Given}
use Rattle.client_machine.specs.Events.{Effect}
use Rattle.client_machine.specs.Step.{track_of, pair_if_wanted, after_plays, go}
use Rattle.client_machine.specs.Plans.{ArePlaced, IsReadyUp, without, risen, risen_text, is_up}
use Rattle.client_machine.specs.Sights.{Sight, sight, sight_at, due_seen}
use Rattle.client_machine.specs.UpTexts.{text_up, spelled}

-- The closing TEARDOWN goes up where a session is left.
abbrev pub leave_up : Option ℕ → Up
leave_up None = ups.Nothing
leave_up (Some place) = ups.Leave

-- a request that goes up, with its text
abbrev pub up_for : ℕ → Option ℕ → Option Going → Up
up_for next pair None = ups.Nothing
up_for next pair (Some one) = ups.Ask (text_up next pair (pair_if_wanted one.channels pair) one.request) one.asked (track_of one.asked.uri pair one.channels)

-- the PLAY that is due at a place, with its text
abbrev pub due_with : ℕ → Option Play → Option (List ℕ) → Option Up
due_with next None id = None
due_with next (Some play) id = Some (ups.Due (request_text next (play_up id play)))

-- that of the first place that has one due
abbrev pub due_at : ℕ → Option ℕ → List Sight → Option Up
due_at next None sights = None
due_at next (Some place) sights = due_with next (sight_at place sights).first (sight_at place sights).id

-- the PLAY that is due, where one is
abbrev pub due_for : ℕ → List Sight → Option Up
due_for next sights = due_at next (due_seen sights) sights

-- what became of requests, as a plan
pub record IsFinished (next : ℕ) (pair : Option ℕ) (first : Change) (progress : Progress) (plan : PlannedStep) : Type 0 where
  pub change : plan.change ≡ first
  pub treated : plan.treated ≡ progress.treated
  pub plays : plan.plays ≡ progress.plays
  pub hand : plan.hand ≡ progress.hand
  pub up : plan.up ≡ up_for next pair progress.going

-- One request more is treated, which is judged by this, and what the next one is judged by is known.
pub record IsNextTreated (next : ℕ) (pair : Option ℕ) (given : Given) (shape : Shape) (old new : PlannedStep) (sessions : List SeenSession) : Type 0 where
  pub progress : (change : Change) (before : Progress) → IsFinished next pair change before old → IsFinished next pair change (progressed (decision_on given shape) before) new
  pub found : sessions ≡ sessions_then (decision_on given shape) given.sessions

-- Requests that wait are treated until one goes up, as a plan says that makes this change.
pub record IsTreatedBy (next : ℕ) (pair : Option ℕ) (first_given given : Given) (waiting : List Shape) (first : List ℕ) (change : Change) (plan : PlannedStep) : Type 0 where
  pub progress : Progress
  pub finished : IsFinished next pair change progress plan
  pub treated : IsTreated first_given given waiting first progress

-- a connection without an open request that shows this
pub record IsShown (lives : Client) (seen : List Sight) (described : Option (List ℕ)) (client : Client) : Type 0 where
  pub alive : client.alive ≡ lives.alive
  pub idle : client.pending ≡ None
  pub waiting : client.waiting ≡ lives.waiting
  pub sessions : map sight client.sessions ≡ seen
  pub about : client.described ≡ described

-- A plan does this effect for a connection that its change leaves, after these bytes.
pub record Onward (next : ℕ) (pair : Option ℕ) (client : Client) (first : List ℕ) (plan : PlannedStep) (effect : Effect) : Type 0 where
  pub client_then : risen plan.up (after_plays plan.plays (without plan.treated client)) ≡ effect.client
  pub hand : plan.hand ≡ first ++ effect.hand
  pub request : risen_text next plan.up (after_plays plan.plays (without plan.treated client)) ≡ spelled next pair effect.message
  pub asks : is_up plan.up ≡ is_some effect.message
  pub close : effect.close ≡ None
  pub plays : ArePlaced client.sessions plan.plays
  pub up : IsReadyUp (after_plays plan.plays (without plan.treated client)) plan.up

-- A plan makes this change, and does what the machine does for a connection that shows this then.
pub record GoesOnward (bases : Bases) (next : ℕ) (pair : Option ℕ) (lives : Client) (seen : List Sight) (described : Option (List ℕ)) (first : List ℕ) (change : Change) (plan : PlannedStep) : Type 0 where
  pub change_is : plan.change ≡ change
  pub onward : (client : Client) → IsShown lives seen described client → Onward next pair client first plan (go bases pair client)
