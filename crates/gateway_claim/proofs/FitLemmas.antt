-- What is kept of a connection alone can be written: the ids of its sessions are in the grammar, and its URIs fit into a request
-- line.
use Rattle.std.proofs.Common.{◌≡◌, ℕ, zero, suc, ◌+◌, ◌^◌, Bool, true, false, cond, List, [], ◌∷◌, map, length, Option, None, Some, IfSome, refl, subst, slice_get, arith}
use Rattle.std.specs.Prelude.{is_none, is_some}
use Rattle.std.proofs.lemmas.Bool.{ltb-true}
use Rattle.rtsp_head.specs.Items.{Shape}
use Rattle.rtsp_small.specs.Sessions.{is_session_id}
use Rattle.rtsp_uri.specs.declared.base.Bases.{Bases}
use Rattle.session_one.specs.declared.parts.Play.{Play}
use Rattle.translate_up.specs.Views.{SeenSession, Given}
use Rattle.translate_up.specs.Sound.{is_target, AreFitSessions, AreFit, SendsSound}
use Rattle.translate_up.specs.Decisions.{decide}
use Rattle.translate_up.specs.declared.decision.Decision.{Decision}
use Rattle.translate_up.specs.declared.decision.Decision.TheVariants.{Answer}
use Rattle.translate_up.proofs.DecideLemmas.{decide_sound}
use Rattle.translate_down.specs.Replies.{Told}
use Rattle.client_slot.specs.declared.purpose.Purpose.{Purpose}
use Rattle.client_slot.specs.declared.purpose.Purpose.TheVariants as purposes
use Rattle.client_slot.specs.declared.session_turn.SessionTurn.{SessionTurn}
use Rattle.client_slot.specs.Session.{PlayerSession}
use Rattle.client_slot.specs.SessionChanges.{when_next, when_queued}
use Rattle.client_slot.specs.SessionTurns.{Brought, brought_by, reply_turn, turned}
use Rattle.client_slot.specs.Places.{session_at}
use Rattle.client_slot.specs.Changes.{after_queueing, settled_place, session_after, settle_with}
use Rattle.client_slot.specs.Client.{Client}
use Rattle.client_machine.specs.Alone.{pair_alone, private_after}
use Rattle.client_machine.specs.Events.{PrivateEvent}
use Rattle.client_machine.specs.Treatment.{session_found, given, queued_more, one_queued, fits_memory, decision_on, Going, Treated, treated_first, treated}
use Rattle.client_machine.specs.Step.{after_plays, NextPart, new_id, hear, going_on}
use Rattle.client_machine.proofs.SeenReplyLemmas.{base_known}
use Rattle.client_machine.proofs.WayLemmas.{hear_as, going_as, alone_as}
use Rattle.client_machine.proofs.EachLemmas.{changed_each, where_each, mapped_each, both_so}
use Rattle.std.specs.List.{AllByRecursion}

abbrev IsValid : Option (List ℕ) → Type 0
IsValid id = IfSome id (λ one. is_session_id one ≡ true)

abbrev IsTarget : Option (List ℕ) → Type 0
IsTarget uri = IfSome uri (λ one. is_target one ≡ true)

abbrev AreTargets : List Play → Type 0
AreTargets plays = AllByRecursion (λ play. is_target play.uri ≡ true) plays

pub record IsFitOne (session : PlayerSession) : Type 0 where
  pub id : IsValid session.id
  pub control : IsTarget session.control
  pub queue : AreTargets session.queue

abbrev pub AreFitOnes : List PlayerSession → Type 0
AreFitOnes sessions = AllByRecursion IsFitOne sessions

abbrev pub IsFitPurpose : Option Purpose → Type 0
IsFitPurpose (Some (purposes.Client asked track)) = is_target asked.uri ≡ true
IsFitPurpose (Some (purposes.Released play)) = is_target play.uri ≡ true
IsFitPurpose purpose = Unit {0}

pub record IsFitClient (client : Client) : Type 0 where
  pub sessions : AreFitOnes client.sessions
  pub described : IsTarget client.described
  pub pending : IsFitPurpose client.pending

pub fit_at : (place : ℕ) (sessions : List PlayerSession) → AreFitOnes sessions → IsFitOne (session_at place sessions)
fit_at place [] fit = record { id = tt; control = tt; queue = tt }
fit_at zero (one ∷ more) fit = fit.0
fit_at (suc place) (one ∷ more) fit = fit_at place more fit.1

-- What a reply brings can be written.
turned_fit : (turn : SessionTurn) (brought : Brought) (session : PlayerSession) → IsValid brought.id → IsTarget brought.control → IsFitOne session → IsFitOne (turned turn brought session)
turned_fit turn brought session id control fit = grind arith

settled_fit : (purpose : Purpose) (number : ℕ) (told : Told) (client : Client) → IsFitPurpose (Some purpose) → IsFitClient client → IsFitClient (settle_with (Some purpose) number told.code (new_id purpose told) client)
settled_fit purpose number told client target fit = record {
  sessions = where_each IsFitOne (settled_place purpose (new_id purpose told) client.sessions) (session_after purpose number told.code client.described (new_id purpose told)) client.sessions
      (λ session one. turned_fit (reply_turn purpose told.code (is_some (new_id purpose told)) session.state) (brought_by purpose number client.described (new_id purpose told)) session
      (grind arith) (grind (arith, fit.described)) one)
      fit.sessions;
  described = grind (arith, fit.described);
  pending = tt;
}

ended_fit : (counts : Bool) (one other : PlayerSession) → IsFitOne one → IsFitOne other → IsFitOne (cond counts one other)
ended_fit counts one other a b = grind arith

pub hear_fit : (bases : Bases) (number : ℕ) (client : Client) (event : PrivateEvent) → IsFitClient client → IsFitClient (hear bases number client event).effect.client
hear_fit bases number client event fit = grind (arith, hear_as, mapped_each, settled_fit, where_each, ended_fit)

-- Requests that are treated.
seen_fit : (sessions : List PlayerSession) → AreFitOnes sessions → AreFitSessions (map session_found sessions)
seen_fit [] fit = tt
seen_fit (one ∷ more) fit = (record { id = fit.0.id; control = fit.0.control }, seen_fit more fit.1)

pub given_fit : (bases : Bases) (full : Bool) (client : Client) → IsFitClient client → AreFit (given bases full client)
given_fit bases full client fit = record { up = base_known bases.up; sessions = seen_fit client.sessions fit.sessions; described = fit.described }

more_fit : (place : ℕ) (sessions : List SeenSession) → AreFitSessions sessions → AreFitSessions (queued_more place sessions)
more_fit place [] fit = tt
more_fit zero (one ∷ more) fit = (record { id = fit.0.id; control = fit.0.control }, fit.1)
more_fit (suc place) (one ∷ more) fit = (fit.0, more_fit place more fit.1)

pub queued_fit : (play : Play) (given : Given) → AreFit given → AreFit (one_queued play given)
queued_fit play given fit = grind (arith, more_fit)

abbrev IsTargetGoing : Option Going → Type 0
IsTargetGoing None = Unit {0}
IsTargetGoing (Some one) = is_target one.asked.uri ≡ true

first_fit : (decision : Decision) (given : Given) (more : List Shape) (again : Given → Treated) → SendsSound decision → AreFit given → ((one : Given) → AreFit one → AreTargets (again one).plays × IsTargetGoing (again one).going)
    → AreTargets (treated_first decision given more again).plays × IsTargetGoing (treated_first decision given more again).going
first_fit decision given more again sound fit later = grind (arith, queued_fit)

pub decision_sound : (given : Given) (shape : Shape) → AreFit given → SendsSound (decision_on given shape)
decision_sound given shape fit = by (fits_memory shape) refl
  where
    by : (fits : Bool) → fits_memory shape ≡ fits → SendsSound (cond fits (decide given shape) (Answer []))
    by true e = decide_sound given shape fit (ltb-true (length shape.bytes) (2 ^ 64) e)
    by false e = tt

treated_fit : (shapes : List Shape) (given : Given) → AreFit given → AreTargets (treated shapes given).plays × IsTargetGoing (treated shapes given).going
treated_fit [] given fit = (tt, tt)
treated_fit (shape ∷ more) given fit = first_fit (decision_on given shape) given more (treated more) (decision_sound given shape fit) fit (treated_fit more)

plays_fit : (plays : List Play) (client : Client) → AreTargets plays → IsFitClient client → IsFitClient (after_plays plays client)
plays_fit [] client targets fit = fit
plays_fit (play ∷ plays) client targets fit = plays_fit plays (after_queueing play client) targets.1 (record {
  sessions = where_each IsFitOne play.place (when_queued play) client.sessions (λ session one. record { id = one.id; control = one.control; queue = both_so (λ play. is_target play.uri ≡ true) session.queue (play ∷ []) one.queue (targets.0, tt) }) fit.sessions;
  described = fit.described;
  pending = fit.pending;
})

first_target : (queue : List Play) (play : Play) → AreTargets queue → slice_get queue 0 ≡ Some play → is_target play.uri ≡ true
first_target [] play fit e = cc
first_target (first ∷ queue) play fit e = let same : first ≡ play = cc in subst (λ (one : Play). is_target one.uri ≡ true) same fit.0

going_fit : (bases : Bases) (pair : Option ℕ) (next : NextPart) (client : Client) → IsFitClient client → IsFitClient (going_on bases pair next client).client
going_fit bases pair next client fit = going_as (λ effect. IsFitClient effect.client) bases pair next client (record {
  still = fit;
  released = λ place play idle due is. record {
    sessions = changed_each IsFitOne place when_next client.sessions (λ session one. record { id = one.id; control = one.control; queue = grind (arith, one.queue) }) fit.sessions;
    described = fit.described;
    pending = first_target (session_at place client.sessions).queue play (fit_at place client.sessions fit.sessions).queue is;
  };
  treats = λ idle alive.
      let all = treated client.waiting (given bases (is_none pair) client) in
      let targets = treated_fit client.waiting (given bases (is_none pair) client) (given_fit bases (is_none pair) client fit) in
      grind (arith, targets.1, (plays_fit all.plays (record client { waiting = all.left }) targets.0 (record { sessions = fit.sessions; described = fit.described; pending = fit.pending })));
  left = λ place id idle dead filled is. record { sessions = fit.sessions; described = fit.described; pending = tt };
})

pub alone_fit : (bases : Bases) (events : List PrivateEvent) → IsFitClient (private_after bases events).client
alone_fit bases [] = grind arith
alone_fit bases (event ∷ events) =
    let p = private_after bases events in
    let fit = alone_fit bases events in
    let heard = hear bases p.count p.client event in
    alone_as (λ effect. IsFitClient effect.client) bases p event fit fit (going_fit bases (pair_alone event (p.count + 1)) heard.next heard.effect.client (hear_fit bases p.count p.client event fit))
