-- A connection asks the server no more than its player asked, and once more for each session that it leaves behind.
use Rattle.std.proofs.Common.{◌≡◌, ◌∙◌, ℕ, zero, suc, ◌+◌, ◌-◌, ◌≤◌, Bool, true, false, cond, List, [], ◌∷◌, length, map, Option, Some, None, refl, sym, ap, subst, arith}
use Rattle.std.specs.Prelude.{is_some}
use Rattle.std.proofs.lemmas.List.{length-append}
use Rattle.rtsp_head.specs.Items.{Shape}
use Rattle.rtsp_uri.specs.declared.base.Bases.{Bases}
use Rattle.session_one.specs.declared.parts.Play.{Play}
use Rattle.session_two.specs.declared.names.Names.{Names}
use Rattle.translate_up.specs.Views.{Given}
use Rattle.translate_up.specs.declared.decision.Decision.{Decision}
use Rattle.client_slot.specs.declared.purpose.Purpose.{Purpose}
use Rattle.client_slot.specs.declared.purpose.Purpose.TheVariants as purposes
use Rattle.client_slot.specs.Session.{PlayerSession, new_session}
use Rattle.client_slot.specs.SessionChanges.{when_ended, when_queued, when_unqueued}
use Rattle.client_slot.specs.Places.{session_at, changed_at, changed_where, place_with}
use Rattle.client_slot.specs.Client.{Client}
use Rattle.client_slot.specs.Changes.{after_queueing, settled_place, session_after, sessions_after, settle_with, after_note, after_close}
use Rattle.client_slot.proofs.PlaceLemmas.{where_length, mapped_length, kept_each}
use Rattle.client_machine.specs.Alone.{pair_alone, asked_in, effect_alone, private_after}
use Rattle.client_machine.specs.Events.{Effect, PrivateEvent}
use Rattle.client_machine.specs.Treatment.{given, decision_on, Going, Treated, treated_first, treated}
use Rattle.client_machine.specs.Step.{after_plays, NextPart, hear, going_on, step, new_id}
use Rattle.client_machine.specs.AskCounts.{request_arrived, request_brought, requests_brought}
use Rattle.client_machine.proofs.BelowLemmas.{hear_mute, mute_asked}
use Rattle.client_machine.proofs.PlaceLemmas.{IsInPlace, alone_placed}
use Rattle.client_machine.proofs.WayLemmas.{hear_as, going_as, alone_as}

-- the sum over sessions
abbrev total : (PlayerSession → ℕ) → List PlayerSession → ℕ
total f [] = 0
total f (one ∷ more) = f one + total f more

-- A change at a place changes the sum by no more than what it makes of that session.
changed_total : (f : PlayerSession → ℕ) (place : ℕ) (change : PlayerSession → PlayerSession) (sessions : List PlayerSession) → f new_session ≡ 0
    → total f (changed_at place change sessions) + f (session_at place sessions) ≤ total f sessions + f (change (session_at place sessions))
changed_total f place change [] none = omega (arith, none)
changed_total f zero change (one ∷ more) none = omega arith
changed_total f (suc place) change (one ∷ more) none = omega (arith, changed_total f place change more none)

where_most : (f : PlayerSession → ℕ) (most : ℕ) (place : Option ℕ) (change : PlayerSession → PlayerSession) (sessions : List PlayerSession) → f new_session ≡ 0 → ((one : PlayerSession) → f (change one) ≤ f one + most)
    → total f (changed_where place change sessions) ≤ total f sessions + most
where_most f most place change sessions none each = grind (arith, changed_total)

-- the PLAYs that wait in a session, and whether it is one
abbrev queue_of : PlayerSession → ℕ
queue_of session = length session.queue

abbrev made_of : PlayerSession → ℕ
made_of session = cond (is_some session.id) 1 0

made_few : (sessions : List PlayerSession) → total made_of sessions ≤ length sessions
made_few [] = omega arith
made_few (one ∷ more) = grind (arith, made_few more)

unqueued_none : (sessions : List PlayerSession) → total queue_of (map when_unqueued sessions) ≡ 0
unqueued_none [] = refl
unqueued_none (one ∷ more) = omega (arith, unqueued_none more)

-- How many closing TEARDOWNs may still go up: one for each session, once a connection has closed and what was open is settled.
abbrev left_by : Bool → Option Purpose → List PlayerSession → ℕ
left_by false None sessions = total made_of sessions
left_by false (Some (purposes.Closing place)) sessions = total made_of sessions - made_of (session_at place sessions)
left_by alive pending sessions = 4

few_left : (alive : Bool) (pending : Option Purpose) (sessions : List PlayerSession) → length sessions ≤ 4 → left_by alive pending sessions ≤ 4
few_left alive pending sessions few = grind (arith, made_few)

-- All that went up, that waits, and that closing may need, is no more than what came, and four.
record Owes (came count : ℕ) (client : Client) : Type 0 where
  all : count + length client.waiting + total queue_of client.sessions + left_by client.alive client.pending client.sessions ≤ came + 4
  closed : client.alive ≡ false → total queue_of client.sessions ≡ 0

owes_on : (came more count now : ℕ) (client : Client) → came ≤ more → now ≤ count → Owes came count client → Owes more now client
owes_on came more count now client later fewer owes = record { all = let all = owes.all in omega (arith, all, later, fewer); closed = owes.closed }

-- It closes.
close_owes : (came count : ℕ) (client : Client) → client.alive ≡ true → length client.sessions ≤ 4 → Owes came count client → Owes came count (after_close client)
close_owes came count client alive few owes =
    let none = unqueued_none client.sessions in
    let left = few_left false client.pending (map when_unqueued client.sessions) (omega (arith, few, mapped_length when_unqueued client.sessions)) in
    record {
      all =
          let all = owes.all in
          let before : left_by client.alive client.pending client.sessions ≡ 4 = ap (λ b. left_by b client.pending client.sessions) alive in
          omega (arith, all, none, left, before);
      closed = λ dead. none;
    }

-- A final reply comes.
settled_left : (alive : Bool) (purpose : Purpose) (number code : ℕ) (described id : Option (List ℕ)) (sessions : List PlayerSession) → length sessions ≤ 4
    → left_by alive None (sessions_after purpose number code described id sessions) ≤ left_by alive (Some purpose) sessions
settled_left true purpose number code described id sessions few = omega arith
settled_left false (purposes.Closing place) number code described id sessions few = omega (arith, changed_total made_of place (session_after (purposes.Closing place) number code described id) sessions refl)
settled_left false (purposes.Client asked track) number code described id sessions few = few_left false None (sessions_after (purposes.Client asked track) number code described id sessions) (rw where_length few)
settled_left false (purposes.Released play) number code described id sessions few = few_left false None (sessions_after (purposes.Released play) number code described id sessions) (rw where_length few)

settle_owes : (came count number code : ℕ) (id : Option (List ℕ)) (purpose : Purpose) (client : Client) → client.pending ≡ Some purpose → length client.sessions ≤ 4 → Owes came count client
    → Owes came count (settle_with (Some purpose) number code id client)
settle_owes came count number code id purpose client open_is few owes =
    let less = where_most queue_of 0 (settled_place purpose id client.sessions) (session_after purpose number code client.described id) client.sessions refl
    (λ one. (grind arith)) in record {
      all =
          let all = owes.all in
          let before : left_by client.alive client.pending client.sessions ≡ left_by client.alive (Some purpose) client.sessions = ap (λ (o : Option Purpose). left_by client.alive o client.sessions) open_is in
          omega (arith, all, less, before, settled_left client.alive purpose number code client.described id client.sessions few);
      closed = λ dead. omega (arith, less, owes.closed dead);
    }

-- The end of what plays comes.
ended_queue : (names : Names) (session : PlayerSession) → queue_of (when_ended names session) ≤ queue_of session + 0
ended_queue names session = grind arith

ended_made : (names : Names) (session : PlayerSession) → made_of (when_ended names session) ≡ made_of session
ended_made names session = grind arith

less_left : (alive : Bool) (pending : Option Purpose) (before after : List PlayerSession) → total made_of after ≤ total made_of before
    → ((place : ℕ) → made_of (session_at place after) ≡ made_of (session_at place before)) → left_by alive pending after ≤ left_by alive pending before
less_left alive pending before after less same = grind arith

note_owes : (came count : ℕ) (place : Option ℕ) (names : Names) (client : Client) → Owes came count client → Owes came count (after_note place names client)
note_owes came count None names client owes = owes
note_owes came count (Some place) names client owes =
    let less = where_most queue_of 0 (Some place) (when_ended names) client.sessions refl (ended_queue names) in record {
      all =
          let all = owes.all in
          let fewer = where_most made_of 0 (Some place) (when_ended names) client.sessions refl (λ one. omega (arith, ended_made names one)) in
          let left = less_left client.alive client.pending client.sessions (changed_at place (when_ended names) client.sessions) (omega (arith, fewer))
          (λ at. kept_each made_of place at (when_ended names) client.sessions (ended_made names (session_at place client.sessions))) in
          omega (arith, all, less, left);
      closed = λ dead. omega (arith, less, owes.closed dead);
    }

-- what an event does by itself
hear_owes : (came count : ℕ) (bases : Bases) (number : ℕ) (client : Client) (event : PrivateEvent) → length client.sessions ≤ 4 → Owes came count client
    → Owes (came + request_brought event) count (hear bases number client event).effect.client
hear_owes came count bases number client event few owes =
    let more = owes_on came (came + request_brought event) count count client (omega arith) (omega arith) owes in
    hear_as (λ heard. Owes (came + request_brought event) count heard.effect.client) bases number client event (record {
      idle = more;
      closing = λ reason alive. close_owes (came + request_brought event) count client alive few more;
      waits = λ shape full here kind alive.
          let one : request_brought event ≡ 1 = ap request_brought here ∙ ap request_arrived kind in
          record { all = let all = owes.all in omega (arith, all, one, length-append client.waiting (shape ∷ [])); closed = owes.closed };
      carrying = λ shape full half here is. more;
      settles = λ purpose told ssrc full here late open_is.
          subst (λ (o : Option Purpose). Owes (came + request_brought event) count (settle_with o number told.code (new_id purpose told) client)) (sym open_is)
          (settle_owes (came + request_brought event) count number told.code (new_id purpose told) purpose client open_is few more);
      notes = λ id names here. note_owes (came + request_brought event) count (place_with id client.sessions) names client more;
      gives = λ pair half channel rest here is alive. more;
    })

-- What goes up then is one request less that may.
abbrev OwesAfter : ℕ → ℕ → Effect → Type 0
OwesAfter came count effect = Owes came (count + asked_in effect.message) effect.client

-- Requests that are treated are answered, or wait as PLAYs, or go up, or are left.
abbrev going_count : Option Going → ℕ
going_count going = cond (is_some going) 1 0

abbrev treated_count : Treated → ℕ
treated_count treated = length treated.plays + going_count treated.going + length treated.left

first_count : (decision : Decision) (given : Given) (more : List Shape) (again : Given → Treated) → ((one : Given) → treated_count (again one) ≤ length more) → treated_count (treated_first decision given more again) ≤ length more + 1
first_count decision given more again few = grind arith

all_count : (shapes : List Shape) (given : Given) → treated_count (treated shapes given) ≤ length shapes
all_count [] given = omega arith
all_count (shape ∷ more) given = omega (arith, first_count (decision_on given shape) given more (treated more) (all_count more))

-- PLAYs wait, each of which is one.
record PlaysWait (plays : List Play) (before after : Client) : Type 0 where
  queued : total queue_of after.sessions ≤ total queue_of before.sessions + length plays
  waiting : after.waiting ≡ before.waiting
  alive : after.alive ≡ before.alive

plays_wait : (plays : List Play) (client : Client) → PlaysWait plays client (after_plays plays client)
plays_wait [] client = record { queued = omega arith; waiting = refl; alive = refl }
plays_wait (play ∷ plays) client =
    let rest = plays_wait plays (after_queueing play client) in
    let more = where_most queue_of 1 play.place (when_queued play) client.sessions refl (λ one. omega (arith, length-append one.queue (play ∷ []))) in
    record { queued = let queued = rest.queued in omega (arith, queued, more); waiting = rest.waiting; alive = rest.alive }

-- the TEARDOWN of a session that is left
left_owes : (came count place : ℕ) (id : List ℕ) (client : Client) → client.pending ≡ None → client.alive ≡ false → (session_at place client.sessions).id ≡ Some id → Owes came count client
    → Owes came (count + 1) (record client { pending = Some (purposes.Closing place) })
left_owes came count place id client idle dead is owes =
    let within = changed_total made_of place (λ session. new_session) client.sessions refl in
    grind arith

going_owes : (came count : ℕ) (bases : Bases) (pair : Option ℕ) (next : NextPart) (client : Client) → Owes came count client → OwesAfter came count (going_on bases pair next client)
going_owes came count bases pair next client owes = going_as (OwesAfter came count) bases pair next client (record {
  still = owes_on came came count (count + 0) client (omega arith) (omega arith) owes;
  released = λ place play idle due is. (grind (arith, changed_total));
  treats = λ idle alive. (grind (arith, plays_wait, all_count));
  left = λ place id idle dead filled is. left_owes came count place id client idle dead is owes;
})

step_owes : (came count number : ℕ) (bases : Bases) (pair : Option ℕ) (client : Client) (event : PrivateEvent) → IsInPlace client → Owes came count client
    → OwesAfter (came + request_brought event) count (step bases number pair client event)
step_owes came count number bases pair client event placed owes =
    let heard = hear bases number client event in
    subst (λ (more : ℕ). Owes (came + request_brought event) (count + more) (going_on bases pair heard.next heard.effect.client).client)
    (mute_asked bases pair heard.next heard.effect.message heard.effect.client (hear_mute bases number client event))
    (going_owes (came + request_brought event) count bases pair heard.next heard.effect.client (hear_owes came count bases number client event (omega (arith, placed.places)) owes))

alone_owes : (bases : Bases) (events : List PrivateEvent) → Owes (requests_brought events) (private_after bases events).count (private_after bases events).client
alone_owes bases [] = record { all = omega arith; closed = λ dead. cc }
alone_owes bases (event ∷ events) =
    let p = private_after bases events in
    let same : requests_brought events + request_brought event ≡ requests_brought (event ∷ events) = omega arith in
    let still = owes_on (requests_brought events) (requests_brought events + request_brought event) p.count (p.count + 0) p.client (omega arith) (omega arith) (alone_owes bases events) in
    subst (λ n. OwesAfter n p.count (effect_alone bases p event)) same
    (alone_as (OwesAfter (requests_brought events + request_brought event) p.count) bases p event still still
    (step_owes (requests_brought events) p.count p.count bases (pair_alone event (p.count + 1)) p.client event (alone_placed bases events) (alone_owes bases events)))

pub few_asked : (bases : Bases) (events : List PrivateEvent) → (private_after bases events).count ≤ requests_brought events + 4
few_asked bases events = let all = (alone_owes bases events).all in omega (arith, all)
