-- Each PLAY of a connection that waits can be written, and so can the request that goes up first of those that are treated.
use Rattle.std.proofs.Common.{◌≡◌, ◌∙◌, ℕ, zero, suc, ◌+◌, Bool, true, false, cond, List, [], ◌∷◌, drop, Option, Some, None, Result, sym, subst, slice_get, arith}
use Rattle.std.specs.Prelude.{is_none, is_some}
use Rattle.std.specs.List.{AllByRecursion}
use Rattle.rtsp_head.specs.Items.{Shape}
use Rattle.rtsp_transport.specs.declared.channels.Pair.{Pair}
use Rattle.rtsp_uri.specs.declared.base.Bases.{Bases}
use Rattle.head_one.specs.declared.refusal.Refusal.{Refusal}
use Rattle.head_one.specs.declared.request.Request1.{Request1}
use Rattle.head_one.specs.Requests.{request_of_item}
use Rattle.head_two.specs.declared.request.Request2.{Request2}
use Rattle.session_one.specs.declared.parts.Play.{Play}
use Rattle.session_two.specs.Ends.{end_counts}
use Rattle.translate_up.specs.Decisions.{judged_read, judged_of}
use Rattle.translate_up.specs.Sound.{AreFit, IsSound, IsSoundPlay, IsSoundSetup, SendsSound}
use Rattle.translate_up.specs.Views.{Given, Judged}
use Rattle.translate_up.specs.declared.decision.Decision.{Decision}
use Rattle.translate_up.specs.declared.decision.Decision.TheVariants.{Answer, Forward, Queue, Setup}
use Rattle.translate_up.proofs.DecisionLemmas.{SpeaksAs}
use Rattle.client_slot.specs.declared.purpose.Purpose.{Purpose}
use Rattle.client_slot.specs.declared.session_turn.PartTurn.{PartTurn}
use Rattle.client_slot.specs.declared.session_turn.PartTurn.TheVariants.{Keeps, Takes, Loses}
use Rattle.client_slot.specs.Session.{PlayerSession}
use Rattle.client_slot.specs.SessionChanges.{when_ended, when_next, when_queued, when_unqueued}
use Rattle.client_slot.specs.SessionTurns.{queue_then, reply_turn}
use Rattle.client_slot.specs.Places.{session_at, place_with}
use Rattle.client_slot.specs.Client.{Client}
use Rattle.client_slot.specs.Changes.{after_queueing, session_after, settled_place, settle_with}
use Rattle.client_machine.specs.Alone.{pair_alone, private_after}
use Rattle.client_machine.specs.Events.{PrivateEvent}
use Rattle.client_machine.specs.Treatment.{given, one_queued, decision_on, Going, Treated, treated_first, treated}
use Rattle.client_machine.specs.Step.{after_plays, goes_at, NextPart, new_id, hear, going_on}
use Rattle.client_machine.proofs.AskLemmas.{decision_speaks}
use Rattle.client_machine.proofs.EachLemmas.{both_so, changed_each, where_each, mapped_each}
use Rattle.client_machine.proofs.WayLemmas.{hear_as, going_as, alone_as}
use Rattle.gateway_claim.proofs.FitLemmas.{IsFitClient, hear_fit, given_fit, queued_fit, decision_sound, alone_fit}

abbrev pub ArePlays : List Play → Type 0
ArePlays plays = AllByRecursion IsSoundPlay plays

abbrev HasPlays : PlayerSession → Type 0
HasPlays session = ArePlays session.queue

abbrev pub WaitSound : List PlayerSession → Type 0
WaitSound sessions = AllByRecursion HasPlays sessions

pub plays_at : (place : ℕ) (sessions : List PlayerSession) → WaitSound sessions → ArePlays (session_at place sessions).queue
plays_at place [] all = tt
plays_at zero (one ∷ more) all = all.0
plays_at (suc place) (one ∷ more) all = plays_at place more all.1

pub first_play : (queue : List Play) (play : Play) → ArePlays queue → slice_get queue 0 ≡ Some play → IsSoundPlay play
first_play [] play all e = cc
first_play (first ∷ queue) play all e = let same : first ≡ play = cc in subst IsSoundPlay same all.0

-- An event that is heard brings none.
queue_kept : (turn : PartTurn) (queue : List Play) → ArePlays queue → ArePlays (queue_then turn queue)
queue_kept Keeps queue all = all
queue_kept Takes queue all = all
queue_kept Loses queue all = tt

ended_kept : (counts : Bool) (one other : PlayerSession) → HasPlays one → HasPlays other → HasPlays (cond counts one other)
ended_kept true one other a b = a
ended_kept false one other a b = b

pub hear_plays : (bases : Bases) (number : ℕ) (client : Client) (event : PrivateEvent) → WaitSound client.sessions → WaitSound (hear bases number client event).effect.client.sessions
hear_plays bases number client event all = hear_as (λ heard. WaitSound heard.effect.client.sessions) bases number client event (record {
  idle = all;
  closing = λ reason alive. mapped_each HasPlays when_unqueued client.sessions (λ session one. tt) all;
  waits = λ shape full here is alive. all;
  carrying = λ shape full half here is. all;
  settles = λ purpose told ssrc full here late is.
      subst (λ (one : Option Purpose). WaitSound (settle_with one number told.code (new_id purpose told) client).sessions) (sym is)
      (where_each HasPlays (settled_place purpose (new_id purpose told) client.sessions) (session_after purpose number told.code client.described (new_id purpose told)) client.sessions
      (λ session one. queue_kept (reply_turn purpose told.code (is_some (new_id purpose told)) session.state).queue session.queue one) all);
  notes = λ id names here. where_each HasPlays (place_with id client.sessions) (when_ended names) client.sessions
      (λ session one. ended_kept (end_counts session.running names) _ session one one) all;
  gives = λ pair half channel rest here is alive. all;
})

-- A request that goes up, by whether all pairs are held: a SETUP finds one that is free.
abbrev GoingSound : Bool → Request2 → Option Pair → Type 0
GoingSound full request None = IsSound request
GoingSound full request (Some channels) = IsSoundSetup request × (full ≡ false)

abbrev pub GoesSound : Bool → Option Going → Type 0
GoesSound full None = Unit {0}
GoesSound full (Some one) = GoingSound full one.request one.channels

abbrev pub TreatedSound : Bool → Treated → Type 0
TreatedSound full all = ArePlays all.plays × GoesSound full all.going

first_sound : (decision : Decision) (judged : Judged) (given : Given) (more : List Shape) (again : Given → Treated) → SendsSound decision → SpeaksAs judged decision → judged.full ≡ given.full → AreFit given
    → ((one : Given) → AreFit one → TreatedSound one.full (again one)) → TreatedSound given.full (treated_first decision given more again)
first_sound (Answer text) judged given more again sound speaks full fit later = later given fit
first_sound (Queue play text) judged given more again sound speaks full fit later =
    let rest = later (one_queued play given) (queued_fit play given fit) in ((sound, rest.0), rest.1)
first_sound (Forward request asked) judged given more again sound speaks full fit later = (tt, sound.0)
first_sound (Setup request asked channels) judged given more again sound speaks full fit later = (tt, (sound.0, sym full ∙ speaks.2))

judged_full : (given : Given) (read : Result Request1 Refusal) → (judged_read given read).full ≡ given.full
judged_full given read = grind arith

pub treated_sound : (shapes : List Shape) (given : Given) → AreFit given → TreatedSound given.full (treated shapes given)
treated_sound [] given fit = (tt, tt)
treated_sound (shape ∷ more) given fit =
    first_sound (decision_on given shape) (judged_of given shape) given more (treated more) (decision_sound given shape fit) (decision_speaks given shape) (judged_full given (request_of_item shape)) fit (treated_sound more)

-- What goes up leaves the others waiting, with those that were treated.
rest_plays : (queue : List Play) → ArePlays queue → ArePlays (drop 1 queue)
rest_plays [] all = tt
rest_plays (first ∷ queue) all = all.1

queue_plays : (plays : List Play) (client : Client) → ArePlays plays → WaitSound client.sessions → WaitSound (after_plays plays client).sessions
queue_plays [] client plays all = all
queue_plays (play ∷ more) client plays all =
    queue_plays more (after_queueing play client) plays.1
    (where_each HasPlays play.place (when_queued play) client.sessions (λ session one. both_so IsSoundPlay session.queue (play ∷ []) one (plays.0, tt)) all)

goes_plays : (one : Option Going) (pair : Option ℕ) (text : List ℕ) (client : Client) → WaitSound client.sessions → WaitSound (goes_at one pair text client).client.sessions
goes_plays None pair text client all = all
goes_plays (Some one) pair text client all = all

going_plays : (bases : Bases) (pair : Option ℕ) (next : NextPart) (client : Client) → IsFitClient client → WaitSound client.sessions → WaitSound (going_on bases pair next client).client.sessions
going_plays bases pair next client fit all = going_as (λ effect. WaitSound effect.client.sessions) bases pair next client (record {
  still = all;
  released = λ place play idle due is. changed_each HasPlays place when_next client.sessions (λ session one. rest_plays session.queue one) all;
  treats = λ idle alive.
      let done = treated client.waiting (given bases (is_none pair) client) in
      let left : Client = record client { waiting = done.left } in
      goes_plays done.going pair done.hand (after_plays done.plays left) (queue_plays done.plays left (treated_sound client.waiting (given bases (is_none pair) client) (given_fit bases (is_none pair) client fit)).0 all);
  left = λ place id idle dead filled is. all;
})

-- So it is of a connection alone.
pub alone_plays : (bases : Bases) (events : List PrivateEvent) → WaitSound (private_after bases events).client.sessions
alone_plays bases [] = (tt, (tt, (tt, (tt, tt))))
alone_plays bases (event ∷ events) =
    let p = private_after bases events in
    let all = alone_plays bases events in
    let heard = hear bases p.count p.client event in
    alone_as (λ effect. WaitSound effect.client.sessions) bases p event all all
    (going_plays bases (pair_alone event (p.count + 1)) heard.next heard.effect.client (hear_fit bases p.count p.client event (alone_fit bases events)) (hear_plays bases p.count p.client event all))
