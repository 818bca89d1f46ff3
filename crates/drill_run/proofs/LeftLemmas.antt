-- The sessions of a connection that are still to be torn down, and what the reply to its open request makes of them.
use Rattle.std.proofs.Common.{◌≡◌, ℕ, zero, suc, ◌+◌, ◌≤◌, Bool, true, false, cond, ◌&&◌, List, [], ◌∷◌, map, Option, Some, None, refl, ap, arith}
use Rattle.std.specs.Prelude.{is_some}
use Rattle.std.specs.Option.{option_or}
use Rattle.rtsp_small.specs.declared.method.Method.{Method}
use Rattle.rtsp_small.specs.declared.method.Method.TheVariants.{Options, Describe, Setup, Play, Pause, Teardown, GetParameter, SetParameter}
use Rattle.session_one.specs.declared.parts.Asked.{Asked}
use Rattle.session_one.specs.declared.table.State.{State}
use Rattle.session_one.specs.Table.{same_method, is_success, state_after}
use Rattle.translate_down.specs.Replies.{Told}
use Rattle.translate_down.specs.Sessions.{sets_up}
use Rattle.client_slot.specs.declared.purpose.Purpose.{Purpose}
use Rattle.client_slot.specs.declared.purpose.Purpose.TheVariants as purposes
use Rattle.client_slot.specs.declared.session_turn.PartTurn.TheVariants.{Keeps}
use Rattle.client_slot.specs.declared.session_turn.SessionTurn.{SessionTurn}
use Rattle.client_slot.specs.Session.{PlayerSession}
use Rattle.client_slot.specs.SessionChanges.{when_unqueued}
use Rattle.client_slot.specs.SessionTurns.{Brought, brought_by, granted_turn, released_turn, moved_turn, turned}
use Rattle.client_slot.specs.Places.{empty_place, changed_where}
use Rattle.client_slot.specs.Changes.{session_after, sessions_after}
use Rattle.client_machine.specs.Step.{new_id_at, new_id}
use Rattle.drill_run.proofs.SessionSumLemmas.{total, total_but, where_most, where_but, emptied_most}
use Rattle.drill_run.proofs.MostLemmas.{made_of, total_where, ended_by, made_by, left_asked}

-- the place of the session that the success of the open request ends, and whether it makes one
abbrev pub ended_at : Option Purpose → Option ℕ
ended_at None = None
ended_at (Some (purposes.Client asked track)) = ended_by asked.method asked.place
ended_at (Some (purposes.Released play)) = None
ended_at (Some (purposes.Closing place)) = Some place

abbrev pub made_at : Option Purpose → ℕ
made_at None = 0
made_at (Some (purposes.Client asked track)) = made_by asked.method asked.place
made_at (Some (purposes.Released play)) = 0
made_at (Some (purposes.Closing place)) = 0

-- How many sessions are still to be torn down, once the server grants the open request. It is so before the reply comes, so
-- that a TEARDOWN takes its session with it when it goes up.
abbrev pub left_at : Option Purpose → List PlayerSession → ℕ
left_at pending sessions = total_where (ended_at pending) sessions + made_at pending

-- A change at a place that makes no session leaves no more of them.
pub where_left : (ended place : Option ℕ) (change : PlayerSession → PlayerSession) (sessions : List PlayerSession) → ((one : PlayerSession) → made_of (change one) ≤ made_of one)
    → total_where ended (changed_where place change sessions) ≤ total_where ended sessions
where_left None place change sessions each = let less = where_most made_of 0 place change sessions (λ one. let here = each one in omega (arith, here)) in omega (arith, less)
where_left (Some ended) place change sessions each = where_but made_of ended place change sessions each

total_unqueued : (sessions : List PlayerSession) → total made_of (map when_unqueued sessions) ≡ total made_of sessions
total_unqueued [] = refl
total_unqueued (one ∷ more) = let rest = total_unqueued more in omega (arith, rest)

but_unqueued : (place : ℕ) (sessions : List PlayerSession) → total_but made_of place (map when_unqueued sessions) ≡ total_but made_of place sessions
but_unqueued place [] = refl
but_unqueued zero (one ∷ more) = total_unqueued more
but_unqueued (suc place) (one ∷ more) = let rest = but_unqueued place more in omega (arith, rest)

pub left_unqueued : (ended : Option ℕ) (sessions : List PlayerSession) → total_where ended (map when_unqueued sessions) ≡ total_where ended sessions
left_unqueued None sessions = total_unqueued sessions
left_unqueued (Some place) sessions = but_unqueued place sessions

made_most : (session : PlayerSession) → made_of session ≤ 1
made_most session = grind arith

-- one that keeps its id
kept_made : (turn : SessionTurn) (brought : Brought) (session : PlayerSession) → turn.id ≡ Keeps → made_of (turned turn brought session) ≤ made_of session
kept_made turn brought session is = grind (arith, is)

released_keeps : (success : Bool) (state : State) → (released_turn success state).id ≡ Keeps
released_keeps true state = refl
released_keeps false state = refl

-- The success of a request of the player leaves its sessions, but for the one that it ends, and one that it makes.
module _ (state : State → State) (brought : Brought) (sessions : List PlayerSession) where
  abbrev GrantLeaves : Method → Option ℕ → Bool → Option ℕ → Type 0
  GrantLeaves method place made at = total made_of (changed_where at (λ one. turned (granted_turn method made (state one.state)) brought one) sessions) ≤ left_asked method place sessions

  kept_left : (method : Method) (made : Bool) (at : Option ℕ) → ((one : State) → (granted_turn method made one).id ≡ Keeps)
      → total made_of (changed_where at (λ one. turned (granted_turn method made (state one.state)) brought one) sessions) ≤ total made_of sessions
  kept_left method made at keeps =
      where_left None at (λ one. turned (granted_turn method made (state one.state)) brought one) sessions
      (λ one. kept_made (granted_turn method made (state one.state)) brought one (keeps (state one.state)))

  setup_left : (made : Bool) (at : Option ℕ) → GrantLeaves Setup None made at
  setup_left made at =
      where_most made_of 1 at (λ one. turned (granted_turn Setup made (state one.state)) brought one) sessions
      (λ one. let most = made_most (turned (granted_turn Setup made (state one.state)) brought one) in omega (arith, most))

  granted_left : (method : Method) (place : Option ℕ) (told : Told) (empty : Option ℕ)
      → GrantLeaves method place (is_some (new_id_at (sets_up method) place told)) (option_or place (cond (same_method method Setup && is_some (new_id_at (sets_up method) place told)) empty None))
  granted_left Options place told empty = let kept = kept_left Options false (option_or place None) (λ one. refl) in omega (arith, kept)
  granted_left Describe place told empty = let kept = kept_left Describe false (option_or place None) (λ one. refl) in omega (arith, kept)
  granted_left Setup None told empty = setup_left (is_some (new_id_at true None told)) (cond (is_some (new_id_at true None told)) empty None)
  granted_left Setup (Some place) told empty = let kept = kept_left Setup false (Some place) (λ one. refl) in omega (arith, kept)
  granted_left Play place told empty = let kept = kept_left Play false (option_or place None) (λ one. refl) in omega (arith, kept)
  granted_left Pause place told empty = let kept = kept_left Pause false (option_or place None) (λ one. refl) in omega (arith, kept)
  granted_left Teardown None told empty = omega arith
  granted_left Teardown (Some place) told empty =
      let less = emptied_most made_of place (λ one. turned (granted_turn Teardown false (state one.state)) brought one) sessions (λ one. refl) in omega (arith, less)
  granted_left GetParameter place told empty = let kept = kept_left GetParameter false (option_or place None) (λ one. refl) in omega (arith, kept)
  granted_left SetParameter place told empty = let kept = kept_left SetParameter false (option_or place None) (λ one. refl) in omega (arith, kept)

success_left : (success : Bool) (asked : Asked) (state : State → State) (brought : Brought) (told : Told) (empty : Option ℕ) (sessions : List PlayerSession) → success ≡ true
    → total made_of (changed_where (option_or asked.place (cond (same_method asked.method Setup && is_some (new_id_at (sets_up asked.method) asked.place told)) empty None))
    (λ one. turned (cond success (granted_turn asked.method (is_some (new_id_at (sets_up asked.method) asked.place told)) (state one.state)) (moved_turn one.state)) brought one) sessions)
    ≤ left_asked asked.method asked.place sessions
success_left true asked state brought told empty sessions granted = granted_left state brought sessions asked.method asked.place told empty
success_left false asked state brought told empty sessions granted = cc

pub settle_left : (purpose : Purpose) (number : ℕ) (described : Option (List ℕ)) (told : Told) (sessions : List PlayerSession) → told.code ≡ 200
    → total made_of (sessions_after purpose number told.code described (new_id purpose told) sessions) ≤ left_at (Some purpose) sessions
settle_left (purposes.Client asked track) number described told sessions granted =
    success_left (is_success told.code) asked (λ one. state_after one asked.method told.code) (brought_by (purposes.Client asked track) number described (new_id (purposes.Client asked track) told)) told
    (empty_place sessions) sessions (ap is_success granted)
settle_left (purposes.Released play) number described told sessions granted =
    let turn = released_turn (is_success told.code) in
    let brought = brought_by (purposes.Released play) number described None in
    let less = where_left None play.place (λ one. turned (turn one.state) brought one) sessions (λ one. kept_made (turn one.state) brought one (released_keeps (is_success told.code) one.state)) in
    omega (arith, less)
settle_left (purposes.Closing place) number described told sessions granted =
    let less = emptied_most made_of place (session_after (purposes.Closing place) number told.code described None) sessions (λ one. refl) in omega (arith, less)
