-- What goes up for a player is no more than the most for each of its requests, where the server grants all that it answers: a
-- TEARDOWN that is refused would leave its session for one more.
use Rattle.std.proofs.Common.{◌≡◌, ◌∙◌, ℕ, zero, suc, ◌+◌, ◌≤◌, Bool, true, false, cond, List, [], ◌∷◌, ◌++◌, length, map, drop, slice_get, Option, Some, None, refl, sym, ap, subst, arith}
use Rattle.std.specs.Prelude.{is_none, is_some, slice_index_or}
use Rattle.std.specs.List.{AllByRecursion}
use Rattle.std.specs.Option.{option_or}
use Rattle.std.proofs.lemmas.List.{length-append}
use Rattle.rtsp_head.specs.Items.{Shape}
use Rattle.rtsp_head.specs.declared.item.ItemKind.{ItemKind}
use Rattle.rtsp_uri.specs.declared.base.Bases.{Bases}
use Rattle.session_one.specs.declared.parts.Play.{Play as QueuedPlay}
use Rattle.session_two.specs.declared.names.Names.{Names}
use Rattle.translate_down.specs.Replies.{Told}
use Rattle.translate_up.specs.Views.{SeenSession, no_session, Given}
use Rattle.translate_up.specs.Decisions.{decide}
use Rattle.translate_up.specs.declared.decision.Decision.{Decision}
use Rattle.translate_up.specs.declared.decision.Decision.TheVariants.{Answer, Forward, Queue, Setup as SetsUp}
use Rattle.client_slot.specs.declared.purpose.Purpose.{Purpose}
use Rattle.client_slot.specs.declared.purpose.Purpose.TheVariants as purposes
use Rattle.client_slot.specs.declared.session_turn.PartTurn.{PartTurn}
use Rattle.client_slot.specs.declared.session_turn.PartTurn.TheVariants.{Keeps, Takes, Loses}
use Rattle.client_slot.specs.declared.session_turn.SessionTurn.{SessionTurn}
use Rattle.client_slot.specs.Session.{PlayerSession}
use Rattle.client_slot.specs.SessionChanges.{when_ended, when_next, when_queued, when_unqueued}
use Rattle.client_slot.specs.SessionTurns.{Brought, brought_by as reply_brings, reply_turn, queue_then, turned}
use Rattle.client_slot.specs.Places.{session_at, queued_at, place_with}
use Rattle.client_slot.specs.Client.{Client}
use Rattle.client_slot.specs.Changes.{after_queueing, release_with, settled_place, session_after, settle_with, after_note, after_close}
use Rattle.client_machine.specs.Alone.{Private, pair_alone, asked_in, effect_alone, private_after}
use Rattle.client_machine.specs.Events.{Outgoing, asks, carries, Effect, PrivateEvent, arrive, answer, note, media, end, slow, up_end}
use Rattle.client_machine.specs.Treatment.{session_found, given, queued_more, queued_more_where, fits_memory, decision_on, one_queued, Going, Treated, treated_first, treated}
use Rattle.client_machine.specs.Step.{after_plays, goes_at, treat, NextPart, Hearing, hear, going_on, step, new_id}
use Rattle.drill_run.proofs.SessionSumLemmas.{total, where_most, changed_less, but_less, mapped_none}
use Rattle.client_machine.proofs.WayLemmas.{hear_as, going_as, alone_as}
use Rattle.drill_run.proofs.WeighLemmas.{weighed, brought_by, brought}
use Rattle.drill_run.proofs.LeftLemmas.{left_at, ended_at, where_left, left_unqueued, settle_left}
use Rattle.drill_run.proofs.MostLemmas.{most_for, most_arrived, most_item, made_of, total_where, ended_by, left_asked, IsPaid, ShowsMade, decide_paid}

-- The server grants all that it answers.
abbrev pub IsGranted : PrivateEvent → Type 0
IsGranted (answer told ssrc full) = told.code ≡ 200
IsGranted (arrive shape full) = Unit {0}
IsGranted (note id reason names) = Unit {0}
IsGranted (media pair half rest) = Unit {0}
IsGranted end = Unit {0}
IsGranted slow = Unit {0}
IsGranted up_end = Unit {0}

waiting_more : (shapes : List Shape) (shape : Shape) → weighed most_for (shapes ++ shape ∷ []) ≡ weighed most_for shapes + most_for shape
waiting_more [] shape = omega arith
waiting_more (first ∷ shapes) shape = let rest = waiting_more shapes shape in omega (arith, rest)

-- the PLAYs that wait in a session
abbrev queue_of : PlayerSession → ℕ
queue_of session = length session.queue

-- All that went up, that waits, and that closing needs, is no more than the most for what came.
record Owes (came count : ℕ) (client : Client) : Type 0 where
  all : count + weighed most_for client.waiting + total queue_of client.sessions + left_at client.pending client.sessions ≤ came

owes_more : (came more count : ℕ) (client : Client) → Owes came count client → Owes (came + more) count client
owes_more came more count client owes = record { all = let all = owes.all in omega (arith, all) }

fewer_went : (came count more : ℕ) (client : Client) → count ≤ more → Owes came more client → Owes came count client
fewer_went came count more client fewer owes = record { all = let all = owes.all in omega (arith, all, fewer) }

-- It closes.
unqueued : (session : PlayerSession) → queue_of (when_unqueued session) ≡ 0
unqueued session = refl

close_owes : (came count : ℕ) (client : Client) → Owes came count client → Owes came count (after_close client)
close_owes came count client owes = record {
  all =
      let all = owes.all in
      let none = mapped_none queue_of when_unqueued client.sessions unqueued in
      let left = left_unqueued (ended_at client.pending) client.sessions in
      omega (arith, all, none, left);
}

-- A final reply comes.
queue_less : (turn : PartTurn) (queue : List QueuedPlay) → length (queue_then turn queue) ≤ length queue
queue_less Keeps queue = omega arith
queue_less Takes queue = omega arith
queue_less Loses queue = omega arith

turned_less : (turn : SessionTurn) (brought : Brought) (session : PlayerSession) → queue_of (turned turn brought session) ≤ queue_of session + 0
turned_less turn brought session = let less = queue_less turn.queue session.queue in omega (arith, less)

settle_owes : (came count number : ℕ) (told : Told) (purpose : Purpose) (client : Client) → client.pending ≡ Some purpose → told.code ≡ 200 → Owes came count client
    → Owes came count (settle_with (Some purpose) number told.code (new_id purpose told) client)
settle_owes came count number told purpose client open_is granted owes = record {
  all =
      let id = new_id purpose told in
      let change = session_after purpose number told.code client.described id in
      let less = where_most queue_of 0 (settled_place purpose id client.sessions) change client.sessions (λ one. turned_less (reply_turn purpose told.code (is_some id) one.state) (reply_brings purpose number client.described id) one) in
      let all = owes.all in
      let before : left_at client.pending client.sessions ≡ left_at (Some purpose) client.sessions = ap (λ (o : Option Purpose). left_at o client.sessions) open_is in
      let after = settle_left purpose number client.described told client.sessions granted in
      omega (arith, all, less, before, after);
}

-- The end of what plays comes.
ended_queue : (names : Names) (session : PlayerSession) → queue_of (when_ended names session) ≤ queue_of session + 0
ended_queue names session = grind arith

ended_made : (names : Names) (session : PlayerSession) → made_of (when_ended names session) ≤ made_of session
ended_made names session = grind arith

note_owes : (came count : ℕ) (place : Option ℕ) (names : Names) (client : Client) → Owes came count client → Owes came count (after_note place names client)
note_owes came count place names client owes = record {
  all =
      let all = owes.all in
      let less = where_most queue_of 0 place (when_ended names) client.sessions (ended_queue names) in
      let left = where_left (ended_at client.pending) place (when_ended names) client.sessions (ended_made names) in
      omega (arith, all, less, left);
}

-- What an event does by itself: it sends no request.
record HearsOwed (came count : ℕ) (heard : Hearing) : Type 0 where
  owes : Owes came count heard.effect.client
  asks_none : asked_in heard.effect.message ≡ 0

hear_owes : (came count : ℕ) (bases : Bases) (number : ℕ) (client : Client) (event : PrivateEvent) → IsGranted event → Owes came count client → HearsOwed (came + brought_by most_item event) count (hear bases number client event)
hear_owes came count bases number client event granted owes = hear_as (HearsOwed (came + brought_by most_item event) count) bases number client event (record {
  idle = record { owes = owes_more came (brought_by most_item event) count client owes; asks_none = refl };
  closing = λ reason alive. record { owes = owes_more came (brought_by most_item event) count (after_close client) (close_owes came count client owes); asks_none = refl };
  waits = λ shape full here kind alive.
      let one : brought_by most_item event ≡ most_for shape = ap (brought_by most_item) here ∙ ap (λ (k : ItemKind). most_arrived k (most_for shape)) kind in
      let more = waiting_more client.waiting shape in record {
        owes = record { all = let all = owes.all in omega (arith, all, one, more) };
        asks_none = refl;
      };
  carrying = λ shape full half here is. record { owes = owes_more came (brought_by most_item event) count client owes; asks_none = refl };
  settles = λ purpose told ssrc full here late open_is. record {
    owes =
        let success : told.code ≡ 200 = subst IsGranted here granted in
        subst (λ (o : Option Purpose). Owes (came + brought_by most_item event) count (settle_with o number told.code (new_id purpose told) client)) (sym open_is)
        (owes_more came (brought_by most_item event) count (settle_with (Some purpose) number told.code (new_id purpose told) client) (settle_owes came count number told purpose client open_is success owes));
    asks_none = refl;
  };
  notes = λ id names here. record {
    owes = owes_more came (brought_by most_item event) count (after_note (place_with id client.sessions) names client) (note_owes came count (place_with id client.sessions) names client owes);
    asks_none = refl;
  };
  gives = λ pair half channel rest here is alive. record { owes = owes_more came (brought_by most_item event) count client owes; asks_none = refl };
})

-- What goes up then is one request less that may.
abbrev OwesAfter : ℕ → ℕ → Effect → Type 0
OwesAfter came count effect = Owes came (count + asked_in effect.message) effect.client

one_less : (queue : List QueuedPlay) (play : QueuedPlay) → slice_get queue 0 ≡ Some play → length (drop 1 queue) + 1 ≤ length queue
one_less [] play is = cc
one_less (first ∷ queue) play is = omega arith

idle_left : (client : Client) → client.pending ≡ None → left_at client.pending client.sessions ≡ total made_of client.sessions + 0
idle_left client idle = ap (λ (o : Option Purpose). left_at o client.sessions) idle

release_owes : (came count place : ℕ) (play : QueuedPlay) (client : Client) → client.pending ≡ None → queued_at place client.sessions ≡ Some play → Owes came count client → Owes came (count + 1) (release_with (Some play) place client)
release_owes came count place play client idle is owes = record {
  all =
      let all = owes.all in
      let less = changed_less queue_of place when_next client.sessions refl (one_less (session_at place client.sessions).queue play is) in
      let before = idle_left client idle in
      let left = where_left None (Some place) when_next client.sessions (λ one. let same : made_of (when_next one) ≡ made_of one = refl in omega (arith, same)) in
      omega (arith, all, less, before, left);
}

-- What a request sees of sessions is what they are.
found_made : (sessions : List PlayerSession) → ShowsMade (map session_found sessions) sessions
found_made [] place some = cc
found_made (one ∷ more) zero some = let here : made_of one ≡ 1 = ap (λ b. cond b 1 0) some in omega (arith, here)
found_made (one ∷ more) (suc place) some = found_made more place some

queued_id : (at : ℕ) (seen : List SeenSession) (place : ℕ) → (slice_index_or (queued_more at seen) place no_session).id ≡ (slice_index_or seen place no_session).id
queued_id at [] place = refl
queued_id zero (one ∷ more) zero = refl
queued_id zero (one ∷ more) (suc place) = refl
queued_id (suc at) (one ∷ more) zero = refl
queued_id (suc at) (one ∷ more) (suc place) = queued_id at more place

queued_made : (at : Option ℕ) (seen : List SeenSession) (sessions : List PlayerSession) → ShowsMade seen sessions → ShowsMade (queued_more_where at seen) sessions
queued_made None seen sessions shows place some = shows place some
queued_made (Some at) seen sessions shows place some = shows place (sym (ap is_some (queued_id at seen place)) ∙ some)

-- Requests that are treated are answered, or wait as PLAYs, or go up, or are left.
abbrev going_left : Option Going → List PlayerSession → ℕ
going_left None sessions = total made_of sessions
going_left (Some going) sessions = left_asked going.asked.method going.asked.place sessions + 1

abbrev treated_left : Treated → List PlayerSession → ℕ
treated_left treated sessions = length treated.plays + going_left treated.going sessions + weighed most_for treated.left

decision_paid : (given : Given) (shape : Shape) (sessions : List PlayerSession) → ShowsMade given.sessions sessions → IsPaid sessions (most_for shape) (decision_on given shape)
decision_paid given shape sessions shows = by (fits_memory shape)
  where
    by : (fits : Bool) → IsPaid sessions (most_for shape) (cond fits (decide given shape) (Answer []))
    by true = decide_paid given shape sessions shows
    by false = tt

first_left : (decision : Decision) (given : Given) (most : ℕ) (more : List Shape) (sessions : List PlayerSession) (again : Given → Treated) → IsPaid sessions most decision → ShowsMade given.sessions sessions
    → ((one : Given) → ShowsMade one.sessions sessions → treated_left (again one) sessions ≤ weighed most_for more + total made_of sessions)
    → treated_left (treated_first decision given more again) sessions ≤ most + weighed most_for more + total made_of sessions
first_left (Answer text) given most more sessions again paid shows few = let rest = few given shows in omega (arith, rest)
first_left (Queue play text) given most more sessions again paid shows few = let rest = few (one_queued play given) (queued_made play.place given.sessions sessions shows) in omega (arith, rest, paid)
first_left (Forward request asked) given most more sessions again paid shows few = omega (arith, paid)
first_left (SetsUp request asked channels) given most more sessions again paid shows few = omega (arith, paid)

all_left : (shapes : List Shape) (sessions : List PlayerSession) (given : Given) → ShowsMade given.sessions sessions → treated_left (treated shapes given) sessions ≤ weighed most_for shapes + total made_of sessions
all_left [] sessions given shows = omega arith
all_left (shape ∷ more) sessions given shows =
    let first = first_left (decision_on given shape) given (most_for shape) more sessions (treated more) (decision_paid given shape sessions shows) shows (all_left more sessions) in omega (arith, first)

queued_more_by : (play : QueuedPlay) (session : PlayerSession) → queue_of (when_queued play session) ≤ queue_of session + 1
queued_more_by play session = let more = length-append session.queue (play ∷ []) in omega (arith, more)

-- PLAYs wait, each of which is one.
record PlaysWait (plays : List QueuedPlay) (before after : Client) : Type 0 where
  queued : total queue_of after.sessions ≤ total queue_of before.sessions + length plays
  left : (ended : Option ℕ) → total_where ended after.sessions ≤ total_where ended before.sessions
  waiting : after.waiting ≡ before.waiting
  pending : after.pending ≡ before.pending

plays_wait : (plays : List QueuedPlay) (client : Client) → PlaysWait plays client (after_plays plays client)
plays_wait [] client = record { queued = omega arith; left = λ ended. omega arith; waiting = refl; pending = refl }
plays_wait (play ∷ plays) client =
    let rest = plays_wait plays (after_queueing play client) in
    let more = where_most queue_of 1 play.place (when_queued play) client.sessions (queued_more_by play) in record {
      queued = let queued = rest.queued in omega (arith, queued, more);
      left = λ ended.
          let less = where_left ended play.place (when_queued play) client.sessions (λ one. let same : made_of (when_queued play one) ≡ made_of one = refl in omega (arith, same)) in
          let later = rest.left ended in omega (arith, less, later);
      waiting = rest.waiting;
      pending = rest.pending;
    }

-- So what goes up is no more than the most for what waited.
goes_owes : (came count : ℕ) (going : Option Going) (pair : Option ℕ) (text : List ℕ) (before client : Client) → client.pending ≡ None
    → ((ended : Option ℕ) → total_where ended client.sessions ≤ total_where ended before.sessions)
    → count + going_left going before.sessions + weighed most_for client.waiting + total queue_of client.sessions ≤ came → OwesAfter came count (goes_at going pair text client)
goes_owes came count None pair text before client idle less all = record { all = let same = idle_left client idle in let left = less None in omega (arith, all, same, left) }
goes_owes came count (Some going) pair text before client idle less all = record { all = let left = less (ended_by going.asked.method going.asked.place) in omega (arith, all, left) }

treat_owes : (came count : ℕ) (bases : Bases) (pair : Option ℕ) (client : Client) → client.pending ≡ None → Owes came count client → OwesAfter came count (treat bases pair client)
treat_owes came count bases pair client idle owes =
    let all = treated client.waiting (given bases (is_none pair) client) in
    let wait = plays_wait all.plays (record client { waiting = all.left }) in
    goes_owes came count all.going pair all.hand client (after_plays all.plays (record client { waiting = all.left })) (wait.pending ∙ idle) wait.left
    (let sum = owes.all in
    let before = idle_left client idle in
    let few = all_left client.waiting client.sessions (given bases (is_none pair) client) (found_made client.sessions) in
    let queued = wait.queued in
    let waiting = ap (λ (l : List Shape). weighed most_for l) wait.waiting in
    omega (arith, sum, before, few, queued, waiting))

-- the TEARDOWN of a session that is left
made_one : (session : PlayerSession) (id : List ℕ) → session.id ≡ Some id → 1 ≤ made_of session
made_one session id is = let one : made_of session ≡ 1 = ap (λ (o : Option (List ℕ)). cond (is_some o) 1 0) is in omega (arith, one)

left_owes : (came count place : ℕ) (id : List ℕ) (client : Client) → client.pending ≡ None → (session_at place client.sessions).id ≡ Some id → Owes came count client
    → Owes came (count + 1) (record client { pending = Some (purposes.Closing place) })
left_owes came count place id client idle is owes = record {
  all =
      let all = owes.all in
      let less = but_less made_of place client.sessions refl (made_one (session_at place client.sessions) id is) in
      let before = idle_left client idle in
      omega (arith, all, less, before);
}

going_owes : (came count : ℕ) (bases : Bases) (pair : Option ℕ) (next : NextPart) (client : Client) → Owes came count client → OwesAfter came count (going_on bases pair next client)
going_owes came count bases pair next client owes = going_as (OwesAfter came count) bases pair next client (record {
  still = fewer_went came (count + 0) count client (omega arith) owes;
  released = λ place play idle due is. release_owes came count place play client idle is owes;
  treats = λ idle alive. treat_owes came count bases pair client idle owes;
  left = λ place id idle dead filled is. left_owes came count place id client idle is owes;
})

-- An event, and what goes up then.
asked_both : (first second : Option Outgoing) → asked_in first ≡ 0 → asked_in (option_or first second) ≤ asked_in second
asked_both None second none = omega arith
asked_both (Some (asks request pair)) second none = absurd (omega (arith, none))
asked_both (Some (carries pair half rest)) second none = omega arith

step_owes : (came count number : ℕ) (bases : Bases) (pair : Option ℕ) (client : Client) (event : PrivateEvent) → IsGranted event → Owes came count client
    → OwesAfter (came + brought_by most_item event) count (step bases number pair client event)
step_owes came count number bases pair client event granted owes =
    let heard = hear bases number client event in
    let first = hear_owes came count bases number client event granted owes in
    let second = going_on bases pair heard.next heard.effect.client in
    fewer_went (came + brought_by most_item event) (count + asked_in (option_or heard.effect.message second.message)) (count + asked_in second.message) second.client
    (let both = asked_both heard.effect.message second.message first.asks_none in omega (arith, both))
    (going_owes (came + brought_by most_item event) count bases pair heard.next heard.effect.client first.owes)

private_owes : (came : ℕ) (bases : Bases) (p : Private) (event : PrivateEvent) → IsGranted event → Owes came p.count p.client → OwesAfter (came + brought_by most_item event) p.count (effect_alone bases p event)
private_owes came bases p event granted owes =
    let same = fewer_went (came + brought_by most_item event) (p.count + 0) p.count p.client (omega arith) (owes_more came (brought_by most_item event) p.count p.client owes) in
    alone_as (OwesAfter (came + brought_by most_item event) p.count) bases p event same same (step_owes came p.count p.count bases (pair_alone event (p.count + 1)) p.client event granted owes)

alone_owes : (bases : Bases) (events : List PrivateEvent) → AllByRecursion IsGranted events → Owes (brought most_item events) (private_after bases events).count (private_after bases events).client
alone_owes bases [] granted = record { all = omega arith }
alone_owes bases (event ∷ events) granted =
    subst (λ n. Owes n (private_after bases (event ∷ events)).count (private_after bases (event ∷ events)).client)
    (let same : brought most_item events + brought_by most_item event ≡ brought most_item (event ∷ events) = omega arith in same)
    (private_owes (brought most_item events) bases (private_after bases events) event granted.0 (alone_owes bases events granted.1))

pub few_granted : (bases : Bases) (events : List PrivateEvent) → AllByRecursion IsGranted events → (private_after bases events).count ≤ brought most_item events
few_granted bases events granted = let all = (alone_owes bases events granted).all in omega (arith, all)
