-- What goes up for a connection with no open request is what the machine does.
use Rattle.std.proofs.Common.{◌≡◌, ◌∙◌, ◌≤◌, ℕ, Bool, true, false, List, [], ◌++◌, ◌∷◌, length, drop, map, Option, None, Some, IsSome, refl, sym, ap, subst, arith}
use Rattle.std.specs.Prelude.{is_none, is_some, not}
use Rattle.std.proofs.lemmas.List.{append-nil}
use Rattle.rtsp_head.specs.declared.item.TheConstants.{MOST_HEAD}
use Rattle.rtsp_head.specs.Items.{Shape}
use Rattle.rtsp_uri.specs.declared.base.Bases.{Bases}
use Rattle.session_one.specs.declared.parts.TheConstants.{MOST_SESSIONS}
use Rattle.session_one.specs.declared.parts.Play.{Play}
use Rattle.translate_up.specs.Views.{SeenSession, Given}
use Rattle.client_slot.specs.declared.purpose.Purpose.{Purpose}
use Rattle.client_slot.specs.Places.{session_at, has_due, queued_at, filled_place}
use Rattle.client_slot.specs.Client.{Client}
use Rattle.client_slot.specs.Changes as changes
use Rattle.client_slot.proofs.PlaceLemmas.{place_is}
use Rattle.client_slot.proofs.LimitLemmas.{due_waits}
use Rattle.std.proofs.Math.Seq.{drop-length}
use Rattle.std.proofs.lemmas.List.{drop-append-le}
use Rattle.client_machine.specs.declared.parts.Change.{Change}
use Rattle.client_machine.specs.declared.parts.Up.{Up}
use Rattle.client_machine.specs.declared.parts.Change.TheVariants as own_changes
use Rattle.client_machine.specs.declared.parts.Up.TheVariants as ups
use Rattle.client_machine.specs.declared.parts.PlannedStep.{PlannedStep}
use Rattle.client_machine.specs.Events.{Effect}
use Rattle.client_machine.specs.Step as going
use Rattle.client_machine.specs.Treatment.{session_found, given, decision_on, Going, Treated, treated, ahead, given_shown}
use Rattle.client_machine.specs.Progresses.{IsFilled, begun, Progress, progressed, given_then, with_progress, sessions_queued, IsAskedIn, IsTreated}
use Rattle.client_machine.specs.Sights.{Sight, sight, sight_at, due_seen, filled_seen, given_by, session_in_sight}
use Rattle.client_machine.specs.Onward.{IsTreatedBy, leave_up, due_with, due_at, due_for, IsFinished, Onward, GoesOnward}
use Rattle.client_machine.proofs.EachLemmas.{by_option}
use Rattle.client_machine.proofs.HoldLemmas.{plays_kept}
use Rattle.client_machine.proofs.SightLemmas.{shown_at, due_shown, filled_shown, found_shown}
use Rattle.client_machine.proofs.TreatLemmas.{seen_in, same_treated, one_on}

-- nothing but this goes up
abbrev pub still : Change → List ℕ → Up → PlannedStep
still change hand up = record { change = change; treated = 0; plays = []; hand = hand; up = up }

-- A plan by which nothing goes up yet and no request is treated, with what goes up.
pub begun_still : (next : ℕ) (pair : Option ℕ) (plan : PlannedStep) (up : Up) → IsFinished next pair plan.change (begun plan.hand) plan → record plan { up = up } ≡ still plan.change plan.hand up
begun_still next pair plan up is = grind arith

pub begun_is : (next : ℕ) (pair : Option ℕ) (plan : PlannedStep) → IsFinished next pair plan.change (begun plan.hand) plan → plan ≡ still plan.change plan.hand ups.Nothing
begun_is next pair plan is = begun_still next pair plan plan.up is ∙ ap (λ (up : Up). still plan.change plan.hand up) is.up

-- nothing goes up
pub still_onward : (next : ℕ) (pair : Option ℕ) (client : Client) (change : Change) (first : List ℕ) → Onward next pair client first (still change first ups.Nothing) (record { client = client; hand = []; message = None; close = None })
still_onward next pair client change first = record { client_then = refl; hand = sym (append-nil first); request = refl; asks = refl; close = refl; plays = tt; up = tt }

-- The PLAY that is due goes up.
released_onward : (next : ℕ) (pair : Option ℕ) (client : Client) (change : Change) (first : List ℕ) (queued : Option Play) (id : Option (List ℕ)) (up : Up) → due_with next queued id ≡ Some up →
    Onward next pair client first (still change first up) (going.released_with queued id client)
released_onward next pair client change first queued id up is = grind (arith, append-nil)

-- The place that is due is seen, with what it shows.
due_found : (client : Client) (seen : List Sight) → client.pending ≡ None → map sight client.sessions ≡ seen → due_seen seen ≡ changes.due_place client
due_found client seen idle shows = ap due_seen (sym shows) ∙ due_shown client.sessions ∙ sym (ap (λ (purpose : Option Purpose). changes.due_place_at purpose client.sessions) idle)

due_here : (next : ℕ) (client : Client) (seen : List Sight) (k : ℕ) → client.pending ≡ None → map sight client.sessions ≡ seen → changes.due_place client ≡ Some k → due_for next seen ≡ due_with next (queued_at k client.sessions) (session_at k client.sessions).id
due_here next client seen k idle shows is =
    ap (λ (one : Option ℕ). due_at next one seen) (due_found client seen idle shows ∙ is) ∙ ap (λ (one : Sight). due_with next one.first one.id) (ap (sight_at k) (sym shows) ∙ shown_at k client.sessions)

pub due_onward : (bases : Bases) (next : ℕ) (pair : Option ℕ) (client : Client) (seen : List Sight) (change : Change) (first : List ℕ) (up : Up) → client.pending ≡ None → map sight client.sessions ≡ seen → due_for next seen ≡ Some up →
    (place : Option ℕ) → changes.due_place client ≡ place → (goes : Option ℕ → Client → Effect) → ((k : ℕ) → goes (Some k) client ≡ going.released_at (Some k) client) → Onward next pair client first (still change first up) (goes place client)
due_onward bases next pair client seen change first up idle shows due None at goes same = let wrong = sym (ap (λ (one : Option ℕ). due_at next one seen) (due_found client seen idle shows ∙ at)) ∙ due in cc
due_onward bases next pair client seen change first up idle shows due (Some k) at goes same =
    subst (Onward next pair client first (still change first up)) (sym (same k))
    (released_onward next pair client change first (queued_at k client.sessions) (session_at k client.sessions).id up (sym (due_here next client seen k idle shows at) ∙ due))

-- Where none is seen to be due, none is.
pub none_due : (next : ℕ) (client : Client) (seen : List Sight) → client.pending ≡ None → map sight client.sessions ≡ seen → due_for next seen ≡ None → changes.due_place client ≡ None
none_due next client seen idle shows none = by_option (changes.due_place client) (λ place. place ≡ None) (λ is. refl) (λ k is.
    let there = place_is has_due k client.sessions (sym (due_shown client.sessions) ∙ ap due_seen shows ∙ due_found client seen idle shows ∙ is) in
    absurd (by_option (queued_at k client.sessions) (λ queued. due_with next queued (session_at k client.sessions).id ≡ None → ⊥)
    (λ gone empty. due_waits (session_at k client.sessions) there.passes gone) (λ play found empty. cc) (sym (due_here next client seen k idle shows is) ∙ none)))

pub is_due : (next : ℕ) (client : Client) (seen : List Sight) → client.pending ≡ None → map sight client.sessions ≡ seen → IsSome (changes.due_place client) → due_for next seen ≡ None → ⊥
is_due next client seen idle shows some none = let bad : changes.due_place client ≡ None = none_due next client seen idle shows none in grind arith

-- The closing TEARDOWN of the first session that is left.
leaves : (client : Client) → client.alive ≡ false → client.pending ≡ None → changes.closing_place client ≡ filled_place client.sessions
leaves client closed idle = ap (λ b. changes.closing_place_at b client.pending client.sessions) closed ∙ ap (λ (purpose : Option Purpose). changes.closing_place_at false purpose client.sessions) idle

left_onward : (next : ℕ) (pair : Option ℕ) (client : Client) (change : Change) (first : List ℕ) (place : ℕ) (id : Option (List ℕ)) → changes.closing_place client ≡ Some place → (session_at place client.sessions).id ≡ id → is_some id ≡ true →
    Onward next pair client first (still change first ups.Leave) (going.leave_with id (session_at place client.sessions).control client)
left_onward next pair client change first place id at is some = grind (arith, append-nil)

pub leave_onward : (next : ℕ) (pair : Option ℕ) (client : Client) (left : Option ℕ) (change : Change) (first : List ℕ) → client.alive ≡ false → client.pending ≡ None → left ≡ filled_place client.sessions →
    Onward next pair client first (still change first (leave_up left)) (going.leave client)
leave_onward next pair client None change first closed idle shows =
    subst (Onward next pair client first (still change first ups.Nothing)) (sym (ap (λ (one : Option ℕ). going.leave_at one client) (leaves client closed idle ∙ sym shows))) (still_onward next pair client change first)
leave_onward next pair client (Some k) change first closed idle shows =
    subst (Onward next pair client first (still change first ups.Leave)) (sym (ap (λ (one : Option ℕ). going.leave_at one client) (leaves client closed idle ∙ sym shows)))
    (left_onward next pair client change first k (session_at k client.sessions).id (leaves client closed idle ∙ sym shows) refl (place_is (λ session. is_some session.id) k client.sessions (sym shows)).passes)

-- What goes up, by what is known of the connection.
pub go_alive : (bases : Bases) (pair : Option ℕ) (client : Client) → client.pending ≡ None → client.alive ≡ true → going.go bases pair client ≡ going.go_due bases pair (changes.due_place client) client
go_alive bases pair client idle lives = ap (λ (purpose : Option Purpose). going.go_at bases pair purpose client) idle ∙ ap (λ b. going.go_idle bases pair b client) lives

pub go_closed : (bases : Bases) (pair : Option ℕ) (client : Client) → client.pending ≡ None → client.alive ≡ false → going.go bases pair client ≡ going.leave client
go_closed bases pair client idle closed = ap (λ (purpose : Option Purpose). going.go_at bases pair purpose client) idle ∙ ap (λ b. going.go_idle bases pair b client) closed

-- Requests were treated to the end, or until one goes up.
abbrev ended : List ℕ → List Play → Option Going → List Shape → Treated
ended hand plays one left = record { hand = hand; plays = plays; going = one; left = left }

-- the sessions once PLAYs wait
pub plays_sessions : (plays : List Play) (client : Client) → (going.after_plays plays client).sessions ≡ sessions_queued plays client.sessions
plays_sessions [] client = refl
plays_sessions (play ∷ plays) client = plays_sessions plays (changes.after_queueing play client)

-- What is known of requests that were treated, by the connection that they were treated for.
pub record IsDoneWith (base : Client) (judged last : Given) (all : List Shape) (first : List ℕ) (progress : Progress) : Type 0 where
  pub leads : with_progress progress last (drop progress.treated base.waiting) ≡ ahead first [] (treated all judged)
  pub none : progress.going ≡ None → drop progress.treated base.waiting ≡ []
  pub filled : IsFilled base.sessions last progress
  pub few : length last.sessions ≤ MOST_SESSIONS
  pub asked : IsAskedIn last.sessions progress.going

-- It is what the machine does with all requests that wait.
pub treat_onward : (bases : Bases) (next : ℕ) (pair : Option ℕ) (base : Client) (last : Given) (all : List Shape) (first : List ℕ) (progress : Progress) (change : Change) (plan : PlannedStep) → base.alive ≡ true → base.pending ≡ None → changes.due_place base ≡ None →
    IsDoneWith base (given bases (is_none pair) base) last all first progress → IsFinished next pair change progress plan → Onward next pair base first plan (going.go bases pair (record base { waiting = all }))
treat_onward bases next pair base last all first progress change plan lives idle due done finished = grind (arith, append-nil, go_alive, seen_in, plays_kept, plays_sessions)

-- Those that wait were treated.
pub done_with : (base : Client) (judged last : Given) (first : List ℕ) (progress : Progress) → judged.sessions ≡ map session_found base.sessions → IsTreated judged last base.waiting first progress → IsDoneWith base judged last base.waiting first progress
done_with base judged last first progress same all =
    record {
      leads =
          ap (λ (left : List Shape). with_progress progress last left) (sym (append-nil (drop progress.treated base.waiting)))
          ∙ all.way.leads []
          ∙ ap (λ (waiting : List Shape). ahead first [] (treated waiting judged)) (append-nil base.waiting);
      none = λ none. ap (λ n. drop n base.waiting) (all.all none) ∙ drop-length base.waiting;
      filled = all.way.filled base.sessions same;
      few = all.way.few;
      asked = all.way.asked;
    }

-- A request that comes waits behind one that goes up.
pub done_before : (client : Client) (judged last : Given) (shape : Shape) (progress : Progress) → judged.sessions ≡ map session_found client.sessions → IsTreated judged last client.waiting [] progress → is_some progress.going ≡ true
    → IsDoneWith (changes.after_waiting (shape ∷ []) client) judged last (client.waiting ++ shape ∷ []) [] progress
done_before client judged last shape progress same all goes = grind (arith, drop-append-le)

-- A request that comes is treated with those that waited.
pub done_and : (client : Client) (judged last next : Given) (shape : Shape) (progress more : Progress) → judged.sessions ≡ map session_found client.sessions → IsTreated judged last client.waiting [] progress → progress.going ≡ None
    → shape.head ≤ MOST_HEAD → more ≡ progressed (decision_on last shape) progress → next ≡ given_then (decision_on last shape) last → IsDoneWith client judged next (client.waiting ++ shape ∷ []) [] more
done_and client judged last next shape progress more same all none head is then =
    let on = one_on judged last next progress more shape none all.way.few all.way.known head is then in
    let empty : drop progress.treated client.waiting ≡ [] = ap (λ n. drop n client.waiting) (all.all none) ∙ drop-length client.waiting in
    let gone : drop more.treated client.waiting ≡ [] = ap (λ n. drop n client.waiting) (same_treated last progress more shape is) ∙ empty in
    record {
      leads =
          ap (λ (left : List Shape). with_progress more next left) gone
          ∙ on.leads []
          ∙ ap (λ (left : List Shape). with_progress progress last (left ++ shape ∷ [])) (sym empty)
          ∙ all.way.leads (shape ∷ []);
      none = λ finished. gone;
      filled = on.filled client.sessions (all.way.filled client.sessions same);
      few = on.few;
      asked = on.asked;
    }

-- Plans for a connection that is as it is seen.
pub closed_goes : (bases : Bases) (next : ℕ) (pair : Option ℕ) (lives : Client) (seen : List Sight) (described : Option (List ℕ)) (first : List ℕ) (change : Change) (plan : PlannedStep) → lives.alive ≡ false → plan ≡ still change first (leave_up (filled_seen seen))
    → GoesOnward bases next pair lives seen described first change plan
closed_goes bases next pair lives seen described first change plan closed is = subst (GoesOnward bases next pair lives seen described first change) (sym is) (record {
  change_is = refl;
  onward = λ client shown.
      subst (Onward next pair client first (still change first (leave_up (filled_seen seen)))) (sym (go_closed bases pair client shown.idle (shown.alive ∙ closed)))
      (leave_onward next pair client (filled_seen seen) change first (shown.alive ∙ closed) shown.idle (ap filled_seen (sym shown.sessions) ∙ filled_shown client.sessions));
})

pub due_goes : (bases : Bases) (next : ℕ) (pair : Option ℕ) (lives : Client) (seen : List Sight) (described : Option (List ℕ)) (first : List ℕ) (change : Change) (up : Up) (plan : PlannedStep) → lives.alive ≡ true → due_for next seen ≡ Some up → plan ≡ still change first up
    → GoesOnward bases next pair lives seen described first change plan
due_goes bases next pair lives seen described first change up plan alive due is = subst (GoesOnward bases next pair lives seen described first change) (sym is) (record {
  change_is = refl;
  onward = λ client shown.
      subst (Onward next pair client first (still change first up)) (sym (go_alive bases pair client shown.idle (shown.alive ∙ alive)))
      (due_onward bases next pair client seen change first up shown.idle shown.sessions due (changes.due_place client) refl (going.go_due bases pair) (λ k. refl));
})

-- whether none is free
pub none_is : (pair : Option ℕ) (full : Bool) → is_some pair ≡ not full → full ≡ is_none pair
none_is pair full is = grind arith

-- what requests find in a connection that is as it is
pub judged_now : (bases : Bases) (pair : Option ℕ) (full : Bool) (client : Client) (found : List SeenSession) (described : Option (List ℕ)) → found ≡ map session_in_sight (map sight client.sessions) → described ≡ client.described → full ≡ is_none pair
    → given_shown bases full found described ≡ given bases (is_none pair) client
judged_now bases pair full client found described same about is = grind (arith, found_shown)

pub treated_goes : (bases : Bases) (next : ℕ) (pair : Option ℕ) (full : Bool) (lives : Client) (seen : List Sight) (described : Option (List ℕ)) (first : List ℕ) (change : Change) (last : Given) (progress : Progress) (plan : PlannedStep) → lives.alive ≡ true
    → due_for next seen ≡ None → full ≡ is_none pair → IsTreated (given_by bases full seen described) last lives.waiting first progress → IsFinished next pair change progress plan → GoesOnward bases next pair lives seen described first change plan
treated_goes bases next pair full lives seen described first change last progress plan alive due is all finished = record {
  change_is = finished.change;
  onward = λ client shown.
      let here : IsTreated (given_by bases full seen described) last client.waiting first progress = subst (λ (waiting : List Shape). IsTreated (given_by bases full seen described) last waiting first progress) (sym shown.waiting) all in
      let judged = subst (λ (one : Given). IsTreated one last client.waiting first progress) (judged_now bases pair full client (map session_in_sight seen) described (ap (map session_in_sight) (sym shown.sessions)) (sym shown.about) is) here in
      treat_onward bases next pair client last client.waiting first progress change plan (shown.alive ∙ alive) shown.idle (none_due next client seen shown.idle shown.sessions due)
      (done_with client (given bases (is_none pair) client) last first progress refl judged) finished;
}

-- what becomes of those that wait, by a plan that began so
pub treated_by_goes : (bases : Bases) (next : ℕ) (pair : Option ℕ) (lives : Client) (seen : List Sight) (described : Option (List ℕ)) (first : List ℕ) (change : Change) (last : Given) (begins plan : PlannedStep) → lives.alive ≡ true → due_for next seen ≡ None
    → begins ≡ still change first ups.Nothing → IsTreatedBy next pair (given_by bases (is_none pair) seen described) last lives.waiting begins.hand begins.change plan → GoesOnward bases next pair lives seen described first change plan
treated_by_goes bases next pair lives seen described first change last begins plan alive due is all =
    let by = subst (λ (one : PlannedStep). IsTreatedBy next pair (given_by bases (is_none pair) seen described) last lives.waiting one.hand one.change plan) is all in
    treated_goes bases next pair (is_none pair) lives seen described first change last by.progress plan alive due refl by.treated by.finished

-- by what is judged now, where nothing is handed out before
pub treated_by_now : (next : ℕ) (pair : Option ℕ) (view judged last : Given) (waiting : List Shape) (begins plan : PlannedStep) → view ≡ judged → begins ≡ still own_changes.Nothing [] ups.Nothing → IsTreatedBy next pair view last waiting begins.hand begins.change plan
    → IsTreatedBy next pair judged last waiting [] own_changes.Nothing plan
treated_by_now next pair view judged last waiting begins plan same is all = grind arith
