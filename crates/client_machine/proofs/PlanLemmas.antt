-- Plans do what the machine does.
use Rattle.std.proofs.Common.{◌≡◌, ◌∙◌, ◌≤◌, ℕ, Bool, true, false, cond, nat_lt, List, [], ◌∷◌, ◌++◌, length, map, Option, None, Some, ◌<◌, refl, sym, ap, subst, arith}
use Rattle.std.specs.Prelude.{IfSome, IsSome, is_some, is_none, ◌&&◌}
use Rattle.std.specs.Option.{option_or}
use Rattle.rtsp_head.specs.declared.item.TheConstants.{MOST_HEAD}
use Rattle.rtsp_head.specs.Items.{Shape}
use Rattle.rtsp_head.specs.declared.item.ItemKind.TheVariants as kinds
use Rattle.rtsp_uri.specs.declared.base.Bases.{Bases}
use Rattle.head_two.specs.declared.reply.Reply2.{Reply2}
use Rattle.translate_down.specs.Replies.{told_by}
use Rattle.client_slot.specs.declared.new_session.MadeSession.{MadeSession}
use Rattle.client_slot.specs.declared.purpose.Purpose.{Purpose}
use Rattle.client_slot.specs.NewSessions.{id_made, described_made}
use Rattle.client_slot.specs.Session.{PlayerSession}
use Rattle.client_slot.specs.Places.{session_at, session_where, changed_where, place_with, empty_place, filled_place}
use Rattle.client_slot.specs.SessionChanges.{when_ended, when_unqueued}
use Rattle.client_slot.specs.Client.{Client}
use Rattle.client_slot.specs.Changes.{settled_place, sessions_after, described_after, due_place, after_waiting, after_note, after_close}
use Rattle.client_slot.specs.declared.limits.TheConstants.{MOST_WAITING}
use Rattle.client_slot.proofs.PlaceLemmas.{place_is, first_mapped}
use Rattle.client_machine.specs.declared.why.CloseWhy.{CloseWhy}
use Rattle.client_machine.specs.declared.parts.Change.{Change}
use Rattle.client_machine.specs.declared.parts.Change.TheVariants as changes
use Rattle.client_machine.specs.declared.parts.PlannedStep.{PlannedStep}
use Rattle.client_machine.specs.Events.{Effect, stays}
use Rattle.client_machine.specs.Step.{released_at, release, go_due, go, new_id, reply_hand}
use Rattle.client_machine.specs.Plans.{Comes, requests, replies, notes, shuts, effect_by, changed, shut_by, ripe, IsReadyChange, IsCarriedOut, IsPlan}
use Rattle.client_machine.specs.Sights.{Sight, sight, filled_seen}
use Rattle.client_machine.specs.Onward.{leave_up, due_for, IsFinished, Onward, GoesOnward}
use Rattle.translate_up.specs.Views.{Given}
use Rattle.client_machine.specs.declared.parts.Up.{Up}
use Rattle.client_machine.specs.declared.parts.Up.TheVariants as ups
use Rattle.client_machine.specs.Treatment.{given, decision_on}
use Rattle.client_machine.specs.Progresses.{Progress, progressed, given_then, IsTreated}
use Rattle.rtsp_small.specs.declared.notify.NotifyReason.TheVariants.{EndOfStream}
use Rattle.session_one.specs.declared.parts.TheConstants.{MOST_SESSIONS}
use Rattle.session_two.specs.declared.names.Names.{Names}
use Rattle.client_machine.proofs.TreatLemmas.{not_going}
use Rattle.client_machine.proofs.SightLemmas.{filled_shown}
use Rattle.client_machine.proofs.OnwardLemmas.{still, still_onward, due_onward, none_due, leave_onward, go_alive, go_closed, treat_onward, done_before, done_and}

-- What the event does by itself is this change and these bytes, and what goes on then is this.
pub record IsStep (bases : Bases) (next : ℕ) (pair : Option ℕ) (client : Client) (comes : Comes) (first : List ℕ) (change : Change) (plan : PlannedStep) (number : ℕ) : Type 0 where
  pub later : Effect
  pub onward : Onward next pair (changed number change client) first plan later
  pub same : effect_by bases number pair client comes ≡ record { client = later.client; hand = first ++ later.hand; message = later.message; close = option_or (shut_by change) later.close }

step_done : (bases : Bases) (next : ℕ) (pair : Option ℕ) (client : Client) (comes : Comes) (first : List ℕ) (plan : PlannedStep) (number : ℕ) → IsStep bases next pair client comes first plan.change plan number →
    IsCarriedOut next pair (ripe number client plan) plan (effect_by bases number pair client comes)
step_done bases next pair client comes first plan number step = grind arith

pub plan_from : (bases : Bases) (next : ℕ) (pair : Option ℕ) (client : Client) (comes : Comes) (first : List ℕ) (change : Change) (plan : PlannedStep) → plan.change ≡ change → IsReadyChange client change →
    ((number : ℕ) → IsStep bases next pair client comes first change plan number) → IsPlan bases next pair client comes plan
plan_from bases next pair client comes first change plan is ready steps =
    let step : (number : ℕ) → IsStep bases next pair client comes first plan.change plan number = λ number. subst (λ (one : Change). IsStep bases next pair client comes first one plan number) (sym is) (steps number) in
    record {
      ready = λ number. record { change = subst (IsReadyChange client) (sym is) ready; plays = (step number).onward.plays; up = (step number).onward.up };
      does = λ number. step_done bases next pair client comes first plan number (step number);
    }

-- the final reply
by_code : (early : Bool) (code : ℕ) → nat_lt code 200 ≡ early → 200 ≤ code → nat_lt code 200 ≡ false
by_code early code e last = grind arith

-- The session that a SETUP is for, where the server made none, is none.
made_place : (place : Option ℕ) (sets made : Bool) (sessions after : List PlayerSession) → (place ≡ None → made ≡ false → after ≡ sessions)
    → (session_where (option_or place (cond (sets && made) (empty_place sessions) None)) after).id ≡ (session_where (option_or place (cond sets (empty_place sessions) None)) after).id
made_place (Some place) sets made sessions after same = refl
made_place None true true sessions after same = refl
made_place None false made sessions after same = refl
made_place None true false sessions after same = by (empty_place sessions) refl
  where
    none_there : (id : Option (List ℕ)) → is_none id ≡ true → ◌≡◌ {A = Option (List ℕ)} None id
    none_there None e = refl
    none_there (Some id) e = cc

    by : (place : Option ℕ) → empty_place sessions ≡ place → ◌≡◌ {A = Option (List ℕ)} None (session_where place after).id
    by None e = refl
    by (Some place) e =
        subst (λ (all : List PlayerSession). ◌≡◌ {A = Option (List ℕ)} None (session_at place all).id) (sym (same refl refl)) (none_there (session_at place sessions).id (place_is (λ session. is_none session.id) place sessions e).passes)

-- A final reply settles, by the code and the id as they were read, and then what may go up does.
pub settle_from : (bases : Bases) (next : ℕ) (pair : Option ℕ) (client lives : Client) (reply : Reply2) (ssrc : Option ℕ) (purpose : Purpose) (code : ℕ) (id own : Option (List ℕ)) (made : Option MadeSession) (seen : List Sight) (described : Option (List ℕ)) (hand : List ℕ) (plan : PlannedStep) →
    client.pending ≡ Some purpose → 200 ≤ reply.code → code ≡ reply.code → id_made made ≡ id → id ≡ new_id purpose (told_by reply) → (IsSome made → described_made made ≡ client.described) → lives ≡ client →
    ((number : ℕ) → seen ≡ map sight (sessions_after purpose number code client.described id client.sessions)) →
    ((number : ℕ) → described ≡ described_after purpose code (sessions_after purpose number code client.described id client.sessions) client.described) →
    ((number : ℕ) → own ≡ (session_where (settled_place purpose id client.sessions) (sessions_after purpose number code client.described id client.sessions)).id) →
    hand ≡ reply_hand bases client.alive purpose (told_by reply) ssrc own → GoesOnward bases next pair lives seen described hand (changes.Settles code made) plan → IsPlan bases next pair client (replies reply ssrc) plan
settle_from bases next pair client lives reply ssrc purpose code id own made seen described hand plan open_for last same makes is about there shows tells owns handed goes =
    let then : ℕ → ℕ → Option (List ℕ) → List PlayerSession = λ number k one. sessions_after purpose number k client.described one client.sessions in
    (grind (arith, plan_from, by_code, nat_lt, made_place))

-- The plans for a request that comes.
pub plan_waits : (bases : Bases) (next : ℕ) (pair : Option ℕ) (client : Client) (shape : Shape) (change : Change) (up : Up) (plan : PlannedStep) → shape.kind ≡ kinds.Request → length client.waiting < MOST_WAITING → client.alive ≡ true → client.pending ≡ None →
    due_for next (map sight client.sessions) ≡ Some up → change ≡ changes.Waits (shape ∷ []) → plan ≡ still change [] up → IsPlan bases next pair client (requests shape) plan
plan_waits bases next pair client shape change up plan kind space lives idle due waits is =
    let waiting : Client = after_waiting (shape ∷ []) client in
    plan_from bases next pair client (requests shape) [] (changes.Waits (shape ∷ [])) plan (ap (λ (one : PlannedStep). one.change) is ∙ waits) space
    (λ number. record {
      later = go bases pair waiting;
      onward =
          subst (λ (one : PlannedStep). Onward next pair waiting [] one (go bases pair waiting)) (sym is)
          (subst (Onward next pair waiting [] (still change [] up)) (sym (go_alive bases pair waiting idle lives))
          (due_onward bases next pair waiting (map sight client.sessions) change [] up idle refl due (due_place waiting) refl (go_due bases pair) (λ k. refl)));
      same = (grind arith);
    })

pub plan_before : (bases : Bases) (next : ℕ) (pair : Option ℕ) (client : Client) (last : Given) (shape : Shape) (progress : Progress) (change : Change) (plan : PlannedStep) → shape.kind ≡ kinds.Request → length client.waiting < MOST_WAITING →
    client.alive ≡ true → client.pending ≡ None → due_place client ≡ None → IsTreated (given bases (is_none pair) client) last client.waiting [] progress → is_some progress.going ≡ true → change ≡ changes.Waits (shape ∷ []) →
    IsFinished next pair change progress plan → IsPlan bases next pair client (requests shape) plan
plan_before bases next pair client last shape progress change plan kind space lives idle due all goes waits finished =
    plan_from bases next pair client (requests shape) [] (changes.Waits (shape ∷ [])) plan (finished.change ∙ waits) space
    (λ number. record {
      later = go bases pair (after_waiting (shape ∷ []) client);
      onward =
          treat_onward bases next pair (after_waiting (shape ∷ []) client) last (client.waiting ++ shape ∷ []) [] progress change plan lives idle due
          (done_before client (given bases (is_none pair) client) last shape progress refl all goes) finished;
      same = (grind arith);
    })

pub plan_with : (bases : Bases) (next : ℕ) (pair : Option ℕ) (client : Client) (last then : Given) (shape : Shape) (progress more : Progress) (plan : PlannedStep) → shape.kind ≡ kinds.Request → client.alive ≡ true → client.pending ≡ None → due_place client ≡ None →
    IsTreated (given bases (is_none pair) client) last client.waiting [] progress → is_some progress.going ≡ false → shape.head ≤ MOST_HEAD → more ≡ progressed (decision_on last shape) progress → then ≡ given_then (decision_on last shape) last →
    IsFinished next pair changes.Nothing more plan → IsPlan bases next pair client (requests shape) plan
plan_with bases next pair client last then shape progress more plan kind lives idle due all goes head is after finished =
    plan_from bases next pair client (requests shape) [] changes.Nothing plan finished.change tt
    (λ number. record {
      later = go bases pair (after_waiting (shape ∷ []) client);
      onward =
          treat_onward bases next pair client then (client.waiting ++ shape ∷ []) [] more changes.Nothing plan lives idle due
          (done_and client (given bases (is_none pair) client) last then shape progress more refl all (not_going progress.going goes) head is after) finished;
      same = (grind arith);
    })

-- The end of what plays was told.
ended_steps : (bases : Bases) (next : ℕ) (pair : Option ℕ) (client : Client) (id : List ℕ) (names : Names) (place : Option ℕ) (plan : PlannedStep) → place ≡ place_with id client.sessions → IfSome place (λ one. one < MOST_SESSIONS) → plan.change ≡ changes.Ends place names →
    Onward next pair (after_note place names client) [] plan (release (after_note place names client)) → IsPlan bases next pair client (notes id EndOfStream names) plan
ended_steps bases next pair client id names place plan found within change onward = grind arith

-- nothing goes up where none is due
none_released : (client : Client) (place : Option ℕ) → due_place client ≡ place → place ≡ None → stays client ≡ release client
none_released client place is none = sym (ap (λ (one : Option ℕ). released_at one client) (is ∙ none))

pub idle_is : (pending : Option Purpose) → is_some pending ≡ false → pending ≡ None
idle_is pending e = grind arith

pub is_idle : (client : Client) → false ≡ is_some client.pending → client.pending ≡ None
is_idle client e = idle_is client.pending (sym e)

pub end_due : (bases : Bases) (next : ℕ) (pair : Option ℕ) (client : Client) (id : List ℕ) (names : Names) (place : Option ℕ) (seen : List Sight) (up : Up) (first : List ℕ) (plan : PlannedStep) → place ≡ place_with id client.sessions → IfSome place (λ one. one < MOST_SESSIONS) → client.pending ≡ None →
    seen ≡ map sight (changed_where place (when_ended names) client.sessions) → due_for next seen ≡ Some up → first ≡ [] → plan ≡ still (changes.Ends place names) first up → IsPlan bases next pair client (notes id EndOfStream names) plan
end_due bases next pair client id names place seen up first plan found within idle shows due empty is =
    let after : Client = after_note place names client in
    let same : plan ≡ still (changes.Ends place names) [] up = is ∙ ap (λ bytes. still (changes.Ends place names) bytes up) empty in
    ended_steps bases next pair client id names place plan found within (ap (λ (one : PlannedStep). one.change) is)
    (subst (λ (one : PlannedStep). Onward next pair after [] one (release after)) (sym same)
    (due_onward bases next pair after seen (changes.Ends place names) [] up idle (sym shows) due (due_place after) refl released_at (λ k. refl)))

pub end_none : (bases : Bases) (next : ℕ) (pair : Option ℕ) (client : Client) (id : List ℕ) (names : Names) (place : Option ℕ) (seen : List Sight) (first : List ℕ) (plan : PlannedStep) → place ≡ place_with id client.sessions → IfSome place (λ one. one < MOST_SESSIONS) → client.pending ≡ None →
    seen ≡ map sight (changed_where place (when_ended names) client.sessions) → due_for next seen ≡ None → first ≡ [] → plan ≡ still (changes.Ends place names) first ups.Nothing → IsPlan bases next pair client (notes id EndOfStream names) plan
end_none bases next pair client id names place seen first plan found within idle shows none empty is =
    let after : Client = after_note place names client in
    let same : plan ≡ still (changes.Ends place names) [] ups.Nothing = is ∙ ap (λ bytes. still (changes.Ends place names) bytes ups.Nothing) empty in
    ended_steps bases next pair client id names place plan found within (ap (λ (one : PlannedStep). one.change) is)
    (subst (λ (one : PlannedStep). Onward next pair after [] one (release after)) (sym same)
    (subst (Onward next pair after [] (still (changes.Ends place names) [] ups.Nothing)) (none_released after (due_place after) refl (none_due next after seen idle (sym shows) none)) (still_onward next pair after (changes.Ends place names) [])))

-- A connection closes.
close_steps : (bases : Bases) (next : ℕ) (pair : Option ℕ) (client : Client) (why : CloseWhy) (plan : PlannedStep) → client.alive ≡ true → plan.change ≡ changes.Closes why →
    Onward next pair (after_close client) [] plan (go bases pair (after_close client)) → IsPlan bases next pair client (shuts why) plan
close_steps bases next pair client why plan lives change onward = grind arith

pub close_idle : (bases : Bases) (next : ℕ) (pair : Option ℕ) (client : Client) (why : CloseWhy) (sights : List Sight) (up : Up) (first : List ℕ) (plan : PlannedStep) → client.alive ≡ true → client.pending ≡ None → sights ≡ map sight client.sessions → up ≡ leave_up (filled_seen sights) → first ≡ [] →
    plan ≡ still (changes.Closes why) first up → IsPlan bases next pair client (shuts why) plan
close_idle bases next pair client why sights up first plan lives idle shows leaves empty is =
    let after : Client = after_close client in
    let same : plan ≡ still (changes.Closes why) [] (leave_up (filled_seen sights)) = is ∙ ap (λ bytes. still (changes.Closes why) bytes up) empty ∙ ap (λ one. still (changes.Closes why) [] one) leaves in
    let left : filled_seen sights ≡ filled_place after.sessions =
    ap filled_seen shows ∙ filled_shown client.sessions ∙ sym (first_mapped (λ session. is_some session.id) when_unqueued 0 client.sessions (λ session. refl)) in
    close_steps bases next pair client why plan lives (ap (λ (one : PlannedStep). one.change) is)
    (subst (λ (one : PlannedStep). Onward next pair after [] one (go bases pair after)) (sym same)
    (subst (Onward next pair after [] (still (changes.Closes why) [] (leave_up (filled_seen sights)))) (sym (go_closed bases pair after idle refl)) (leave_onward next pair after (filled_seen sights) (changes.Closes why) [] refl idle left)))
