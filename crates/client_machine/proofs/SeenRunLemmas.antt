-- A whole run of a connection alone walks the table of each of its sessions.
use Rattle.std.proofs.Common.{◌≡◌, ◌∙◌, ◌+◌, ◌&&◌, ℕ, Bool, true, false, not, List, [], ◌∷◌, ◌++◌, map, Option, Some, refl, sym, ap, subst, arith}
use Rattle.std.proofs.lemmas.List.{append-nil, map-append}
use Rattle.rtsp_head.specs.Items.{Shape}
use Rattle.rtsp_uri.specs.declared.base.Bases.{Bases}
use Rattle.head_one.specs.declared.reply.Reply1.{Reply1}
use Rattle.session_one.specs.declared.table.State.{State}
use Rattle.session_one.specs.declared.table.State.TheVariants.{Init}
use Rattle.client_slot.specs.Client.{Client}
use Rattle.client_slot.specs.Places.{session_where, new_sessions}
use Rattle.client_machine.specs.Alone.{Private, is_live, pair_alone, effect_alone, is_up_end, or_else, private_next, private_after, piece, hand}
use Rattle.client_machine.specs.Events.{Effect, PrivateEvent}
use Rattle.client_machine.specs.Step.{rests, step}
use Rattle.client_machine.specs.SeenRun.{SeenStep, IsTableRun, replies_handed}
use Rattle.client_machine.proofs.KeepLemmas.{or_true}
use Rattle.client_machine.proofs.WayLemmas.{alone_by}
use Rattle.client_machine.proofs.PlaceLemmas.{IsInPlace, alone_placed}
use Rattle.client_machine.proofs.SeenWalkLemmas.{IsWalked, none_walked, walked_more, walked_and, handed_more, handed_frame}
use Rattle.client_machine.proofs.SeenGoLemmas.{IsSound, IsStanding, IsDead}
use Rattle.client_machine.proofs.SeenSettleLemmas.{AreDistinct}
use Rattle.client_machine.proofs.SeenHearLemmas.{asked_by, IsReadableEvent, IsFreshEvent, IsHeard, walked, died, shown, step_stepped, step_dead}

abbrev replies_of : List SeenStep → List Reply1
replies_of steps = map (λ (step : SeenStep). step.reply) steps

-- A connection that is live stands where the walks have come to.
abbrev IsKeptAt : Bool → (List ℕ → State) → Client → List Shape → Type 0
IsKeptAt true at client left = IsStanding at client left
IsKeptAt false at client left = Unit {0}

-- no session is in a state yet
abbrev all_init : List ℕ → State
all_init id = Init

pub record IsRun (bases : Bases) (events : List PrivateEvent) (requests : List Shape) : Type 0 where
  pub text : List ℕ
  pub now : List ℕ → State
  pub left : List Shape
  pub walked : IsWalked all_init requests text now left
  pub replies_are : replies_handed (hand bases events) ≡ Some (replies_of walked.steps)
  pub kept : IsKeptAt (is_live (private_after bases events)) now (private_after bases events).client left

pub seen_run : (bases : Bases) (events : List PrivateEvent) (requests : List Shape) → IsRun bases events requests → IsTableRun requests (hand bases events)
seen_run bases events requests run = record {
  steps = run.walked.steps;
  unanswered = run.left;
  requests_are = run.walked.requests_are;
  replies_are = run.replies_are;
  numbers = run.walked.numbers;
  walk = λ id. (run.now id, run.walked.walks id);
}

-- a connection that entered
new_sound : (place : Option ℕ) → IsSound (session_where place new_sessions)
new_sound place = grind arith

pub run_begins : (bases : Bases) → IsRun bases [] []
run_begins bases = record {
  text = [];
  now = all_init;
  left = [];
  walked = none_walked all_init [] [] refl;
  replies_are = refl;
  kept = record { alive = refl; became = λ id. refl; each = new_sound; owed = []; is_open = refl; requests_are = refl };
}

-- What one event does, in walks that have come to states: what it answers, whether the connection is live then, and what
-- stands.
record IsNext (at : List ℕ → State) (left extra : List Shape) (live : Bool) (effect : Effect) (pieces : List (List ℕ)) (before : List Reply1) : Type 0 where
  pub text : List ℕ
  pub now : List ℕ → State
  pub more : List Shape
  pub walked : IsWalked at (left ++ extra) text now more
  pub replies_are : replies_handed (piece effect.hand ++ pieces) ≡ Some (before ++ replies_of walked.steps)
  pub kept : IsKeptAt live now effect.client more

nothing_handed : (text : List ℕ) (pieces : List (List ℕ)) (before : List Reply1) → text ≡ [] → replies_handed pieces ≡ Some before → replies_handed (piece text ++ pieces) ≡ Some (before ++ [])
nothing_handed text pieces before none e = ap (λ t. replies_handed (piece t ++ pieces)) none ∙ handed_more [] pieces before tt e

-- where nothing is handed and the connection is not live
ends_next : (at : List ℕ → State) (left extra : List Shape) (live : Bool) (effect : Effect) (pieces : List (List ℕ)) (before : List Reply1) → live ≡ false → effect.hand ≡ [] → replies_handed pieces ≡ Some before → IsNext at left extra live effect pieces before
ends_next at left extra live effect pieces before closed none e = record {
  text = [];
  now = at;
  more = left ++ extra;
  walked = none_walked at (left ++ extra) [] refl;
  replies_are = nothing_handed effect.hand pieces before none e;
  kept = subst (λ b. IsKeptAt b at effect.client (left ++ extra)) (sym closed) tt;
}

-- where it goes on
steps_next : (at : List ℕ → State) (left extra asked : List Shape) (live : Bool) (effect : Effect) (pieces : List (List ℕ)) (before : List Reply1) → live ≡ effect.client.alive → (live ≡ true → extra ≡ asked)
    → replies_handed pieces ≡ Some before → IsHeard at (left ++ asked) rests effect → IsNext at left extra live effect pieces before
steps_next at left extra asked live effect pieces before same all e (walked one) =
    let alive : live ≡ true = same ∙ one.stands.alive in
    let here : IsWalked at (left ++ extra) effect.hand one.now one.left = subst (λ (l : List Shape). IsWalked at (left ++ l) effect.hand one.now one.left) (sym (all alive)) one.walked in
    record {
      text = effect.hand;
      now = one.now;
      more = one.left;
      walked = here;
      replies_are = ap (λ t. replies_handed (piece t ++ pieces)) here.text_is ∙ handed_more here.steps pieces before here.readable e;
      kept = subst (λ b. IsKeptAt b one.now effect.client one.left) (sym alive) one.stands;
    }
steps_next at left extra asked live effect pieces before same all e (died dead) = ends_next at left extra live effect pieces before (same ∙ dead.closed) dead.none e
steps_next at left extra asked live effect pieces before same all e (shown channel rest whole text quiet st) =
    let alive : live ≡ true = same ∙ st.alive in
    record {
      text = [];
      now = at;
      more = left ++ extra;
      walked = none_walked at (left ++ extra) [] refl;
      replies_are = ap (λ t. replies_handed (piece t ++ pieces)) text ∙ handed_frame channel rest pieces before whole e ∙ ap (λ (l : List Reply1). Some l) (sym (append-nil before));
      kept = subst (λ b. IsKeptAt b at effect.client (left ++ extra)) (sym alive) (subst (λ (l : List Shape). IsStanding at effect.client (left ++ l)) (sym (all alive)) st);
    }

-- What is known of a live connection before an event: no two sessions have one id, and the event makes none that is there.
pub record IsUnmixed (client : Client) (event : PrivateEvent) : Type 0 where
  pub distinct : AreDistinct client.sessions
  pub fresh : IsFreshEvent client event

-- the step of a connection while the connection to the server stands
step_next : (bases : Bases) (p : Private) (event : PrivateEvent) (at : List ℕ → State) (left extra : List Shape) (pieces : List (List ℕ)) (before : List Reply1) (alive live : Bool) → p.client.alive ≡ alive → live ≡ (step bases p.count (pair_alone event (p.count + 1)) p.client event).client.alive
    → IsReadableEvent event → (alive ≡ true → IsUnmixed p.client event) → IsInPlace p.client → IsKeptAt alive at p.client left → (live ≡ true → extra ≡ asked_by event) → replies_handed pieces ≡ Some before
    → IsNext at left extra live (step bases p.count (pair_alone event (p.count + 1)) p.client event) pieces before
step_next bases p event at left extra pieces before true live is same readable unmixed placed st all e =
    steps_next at left extra (asked_by event) live (step bases p.count (pair_alone event (p.count + 1)) p.client event) pieces before same all e
    (step_stepped bases p.count (pair_alone event (p.count + 1)) at left p.client event readable (unmixed refl).fresh (unmixed refl).distinct placed st)
step_next bases p event at left extra pieces before false live is same readable unmixed placed st all e =
    let dead : IsDead (step bases p.count (pair_alone event (p.count + 1)) p.client event) = step_dead bases p.count (pair_alone event (p.count + 1)) p.client event is in
    ends_next at left extra live (step bases p.count (pair_alone event (p.count + 1)) p.client event) pieces before (same ∙ dead.closed) dead.none e

-- Whatever the connection was.
event_next : (bases : Bases) (p : Private) (event : PrivateEvent) (at : List ℕ → State) (left extra : List Shape) (pieces : List (List ℕ)) (before : List Reply1) → IsReadableEvent event → (is_live p ≡ true → IsUnmixed p.client event) → IsInPlace p.client → IsKeptAt (is_live p) at p.client left
    → (is_live (private_next p event (effect_alone bases p event)) ≡ true → extra ≡ asked_by event) → replies_handed pieces ≡ Some before
    → IsNext at left extra (is_live (private_next p event (effect_alone bases p event))) (effect_alone bases p event) pieces before
event_next bases p event at left extra pieces before readable unmixed placed kept all e =
    alone_by (λ effect. (is_live (private_next p event effect) ≡ true → extra ≡ asked_by event) → IsNext at left extra (is_live (private_next p event effect)) effect pieces before) bases p event
    (λ over all. ends_next at left extra _ _ pieces before (ap (λ b. not b && p.client.alive) (ap (or_else (is_up_end event)) over ∙ or_true (is_up_end event))) refl e)
    (λ over up all. ends_next at left extra _ _ pieces before (ap (λ b. not (or_else b p.over) && p.client.alive) up) refl e)
    (λ over other all.
    let after = step bases p.count (pair_alone event (p.count + 1)) p.client event in
    let live : is_live p ≡ p.client.alive = ap (λ b. not b && p.client.alive) over in
    let same : is_live (private_next p event after) ≡ after.client.alive = ap (λ b. not (or_else b p.over) && after.client.alive) other ∙ ap (λ b. not b && after.client.alive) over in
    step_next bases p event at left extra pieces before p.client.alive (is_live (private_next p event after)) refl same readable (λ alive. unmixed (live ∙ alive)) placed
    (subst (λ b. IsKeptAt b at p.client left) live kept) all e)
    all

-- A run with one event more, and with what requests it brings: those count while the connection is live after it.
pub run_more : (bases : Bases) (events : List PrivateEvent) (requests extra : List Shape) (event : PrivateEvent) → IsReadableEvent event → (is_live (private_after bases events) ≡ true → IsUnmixed (private_after bases events).client event)
    → (is_live (private_after bases (event ∷ events)) ≡ true → extra ≡ asked_by event) → IsRun bases events requests → IsRun bases (event ∷ events) (requests ++ extra)
run_more bases events requests extra event readable unmixed all run =
    let p : Private = private_after bases events in
    let next : IsNext run.now run.left extra (is_live (private_next p event (effect_alone bases p event))) (effect_alone bases p event) (hand bases events) (replies_of run.walked.steps) =
    event_next bases p event run.now run.left extra (hand bases events) (replies_of run.walked.steps) readable unmixed (alone_placed bases events) run.kept all run.replies_are in
    record {
      text = run.text ++ next.text;
      now = next.now;
      left = next.more;
      walked = walked_more all_init run.now next.now (requests ++ extra) (run.left ++ extra) next.more run.text next.text (walked_and all_init run.now requests run.left extra run.text run.walked) next.walked;
      replies_are = next.replies_are ∙ ap (λ (l : List Reply1). Some l) (sym (map-append (λ (step : SeenStep). step.reply) run.walked.steps next.walked.steps));
      kept = next.kept;
    }
