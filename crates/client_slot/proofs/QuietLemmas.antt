-- A reply to DESCRIBE leaves a session as it is.
use Rattle.std.proofs.Common.{◌≡◌, ◌∙◌, ℕ, Bool, true, false, cond, List, Option, refl, ap}
use Rattle.std.specs.Prelude.{is_some}
use Rattle.rtsp_small.specs.declared.method.Method.{Method}
use Rattle.rtsp_small.specs.declared.method.Method.TheVariants as methods
use Rattle.session_one.specs.declared.table.State.{State}
use Rattle.session_one.specs.declared.table.State.TheVariants.{Init, Ready, Playing}
use Rattle.session_one.specs.declared.parts.Asked.{Asked}
use Rattle.session_one.specs.declared.parts.Track.{Track}
use Rattle.session_one.specs.Table.{is_success, state_after}
use Rattle.client_slot.specs.declared.purpose.Purpose.TheVariants as purposes
use Rattle.client_slot.specs.Session.{PlayerSession}
use Rattle.client_slot.specs.SessionTurns.{moved_turn, granted_turn, brought_by, turned}
use Rattle.client_slot.specs.Changes.{session_after}

state_same : (state : State) (success : Bool) → cond success state state ≡ state
state_same state true = refl
state_same state false = refl

described_state : (state : State) (code : ℕ) → state_after state methods.Describe code ≡ state
described_state Init code = state_same Init (is_success code)
described_state Ready code = state_same Ready (is_success code)
described_state Playing code = state_same Playing (is_success code)

pub described_same : (number code : ℕ) (described id : Option (List ℕ)) (asked : Asked) (track : Option Track) → asked.method ≡ methods.Describe → (session : PlayerSession)
    → session_after (purposes.Client asked track) number code described id session ≡ session
described_same number code described id asked track is session =
    ap (λ (one : Method). turned (cond (is_success code) (granted_turn one (is_some id) (state_after session.state one code)) (moved_turn session.state)) (brought_by (purposes.Client asked track) number described id) session) is
    ∙ ap (λ (state : State). turned (cond (is_success code) (moved_turn state) (moved_turn session.state)) (brought_by (purposes.Client asked track) number described id) session) (described_state session.state code)
    ∙ by (is_success code)
  where
    by : (success : Bool) → turned (cond success (moved_turn session.state) (moved_turn session.state)) (brought_by (purposes.Client asked track) number described id) session ≡ session
    by true = refl
    by false = refl
