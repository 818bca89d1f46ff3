-- What a step keeps of a connection's sessions and of their streams, and for whom a request goes up.
use Rattle.std.proofs.Common.{◌≡◌, ◌∙◌, ℕ, zero, suc, ◌+◌, Bool, true, false, List, [], ◌∷◌, ◌++◌, map, Option, Some, None, refl, sym, ap, subst, arith}
use Rattle.std.specs.Prelude.{is_none}
use Rattle.rtsp_uri.specs.declared.base.Bases.{Bases}
use Rattle.session_one.specs.declared.parts.Play.{Play}
use Rattle.session_one.specs.declared.parts.Track.{Track}
use Rattle.translate_down.specs.Replies.{Told}
use Rattle.client_slot.specs.declared.purpose.Purpose.{Purpose}
use Rattle.client_slot.specs.declared.purpose.Purpose.TheVariants as purposes
use Rattle.client_slot.specs.Session.{PlayerSession}
use Rattle.client_slot.specs.SessionChanges.{when_ended, when_next, when_queued, when_unqueued}
use Rattle.client_slot.specs.Places.{session_at, changed_at, changed_where, first_place, place_with, tracks_of}
use Rattle.client_slot.specs.Client.{Client}
use Rattle.client_slot.specs.Changes.{after_queueing, after_waiting, settle_with, after_note, after_close}
use Rattle.client_machine.specs.Events.{Outgoing, asks, PrivateEvent, answer}
use Rattle.client_machine.specs.Treatment.{given, Treated, treated}
use Rattle.client_machine.specs.Step.{after_plays, goes_with, NextPart, new_id, hear, going_on}
use Rattle.client_machine.proofs.WayLemmas.{hear_as, going_as}

-- a session has its id and its streams as before
pub record IsSame (before after : PlayerSession) : Type 0 where
  pub id : after.id ≡ before.id
  pub tracks : after.tracks ≡ before.tracks

-- so does each
abbrev pub AreSame : List PlayerSession → List PlayerSession → Type 0
AreSame [] [] = Unit {0}
AreSame (one ∷ more) (other ∷ others) = IsSame one other × AreSame more others
AreSame one other = ⊥

pub all_same : (sessions : List PlayerSession) → AreSame sessions sessions
all_same [] = tt
all_same (one ∷ more) = (record { id = refl; tracks = refl }, all_same more)

pub same_then : (a b c : List PlayerSession) → AreSame a b → AreSame b c → AreSame a c
same_then [] [] [] first second = tt
same_then [] [] (z ∷ c) first second = absurd second
same_then [] (y ∷ b) c first second = absurd first
same_then (x ∷ a) [] c first second = absurd first
same_then (x ∷ a) (y ∷ b) [] first second = absurd second
same_then (x ∷ a) (y ∷ b) (z ∷ c) first second = (record { id = second.0.id ∙ first.0.id; tracks = second.0.tracks ∙ first.0.tracks }, same_then a b c first.1 second.1)

-- what is the same then: the streams of all, the session at a place, and the first place that has an id of a kind
pub same_tracks : (a b : List PlayerSession) → AreSame a b → tracks_of b ≡ tracks_of a
same_tracks [] [] same = refl
same_tracks [] (y ∷ b) same = absurd same
same_tracks (x ∷ a) [] same = absurd same
same_tracks (x ∷ a) (y ∷ b) same = ap (λ (tracks : List Track). tracks ++ tracks_of b) same.0.tracks ∙ ap (λ (more : List Track). x.tracks ++ more) (same_tracks a b same.1)

pub same_at : (place : ℕ) (a b : List PlayerSession) → AreSame a b → IsSame (session_at place a) (session_at place b)
same_at place [] [] same = record { id = refl; tracks = refl }
same_at place [] (y ∷ b) same = absurd same
same_at place (x ∷ a) [] same = absurd same
same_at zero (x ∷ a) (y ∷ b) same = same.0
same_at (suc place) (x ∷ a) (y ∷ b) same = same_at place a b same.1

pub same_first : (test : Option (List ℕ) → Bool) (place : ℕ) (a b : List PlayerSession) → AreSame a b → first_place (λ session. test session.id) place b ≡ first_place (λ session. test session.id) place a
same_first test place [] [] same = refl
same_first test place [] (y ∷ b) same = absurd same
same_first test place (x ∷ a) [] same = absurd same
same_first test place (x ∷ a) (y ∷ b) same = grind (arith, same_first test (place + 1) a b same.1)

pub changed_same : (place : ℕ) (change : PlayerSession → PlayerSession) (sessions : List PlayerSession) → ((session : PlayerSession) → IsSame session (change session)) → AreSame sessions (changed_at place change sessions)
changed_same place change [] keeps = tt
changed_same zero change (one ∷ more) keeps = (keeps one, all_same more)
changed_same (suc place) change (one ∷ more) keeps = (record { id = refl; tracks = refl }, changed_same place change more keeps)

pub where_same : (place : Option ℕ) (change : PlayerSession → PlayerSession) (sessions : List PlayerSession) → ((session : PlayerSession) → IsSame session (change session)) → AreSame sessions (changed_where place change sessions)
where_same place change sessions keeps = grind (arith, all_same, changed_same)

mapped_same : (change : PlayerSession → PlayerSession) (sessions : List PlayerSession) → ((session : PlayerSession) → IsSame session (change session)) → AreSame sessions (map change sessions)
mapped_same change [] keeps = tt
mapped_same change (one ∷ more) keeps = (keeps one, mapped_same change more keeps)

-- PLAYs that wait change nothing but the sessions.
pub plays_kept : (plays : List Play) (client : Client) → after_plays plays client ≡ record client { sessions = (after_plays plays client).sessions }
plays_kept [] client = refl
plays_kept (play ∷ plays) client = plays_kept plays (after_queueing play client)

-- The sessions with their streams, and whether it is alive, are as before.
pub record IsSteady (before after : Client) : Type 0 where
  pub sessions : AreSame before.sessions after.sessions
  pub alive : after.alive ≡ before.alive

pub plays_steady : (plays : List Play) (client : Client) → IsSteady client (after_plays plays client)
plays_steady [] client = record { sessions = all_same client.sessions; alive = refl }
plays_steady (play ∷ plays) client =
    let later = plays_steady plays (after_queueing play client) in
    let same = where_same play.place (when_queued play) client.sessions (λ session. record { id = refl; tracks = refl }) in
    record { sessions = same_then client.sessions (after_queueing play client).sessions (after_plays plays (after_queueing play client)).sessions same later.sessions; alive = later.alive }

treat_steady : (all : Treated) (pair : Option ℕ) (client : Client) → IsSteady client (goes_with all pair client).client
treat_steady all pair client =
    let left : Client = record client { waiting = all.left } in
    let steady : IsSteady left (after_plays all.plays left) = plays_steady all.plays left in
    (grind arith)

pub going_steady : (bases : Bases) (pair : Option ℕ) (next : NextPart) (client : Client) → IsSteady client (going_on bases pair next client).client
going_steady bases pair next client = going_as (λ effect. IsSteady client effect.client) bases pair next client (record {
  still = record { sessions = all_same client.sessions; alive = refl };
  released = λ place play idle due is. record { sessions = changed_same place when_next client.sessions (λ session. record { id = refl; tracks = refl }); alive = refl };
  treats = λ idle alive. treat_steady (treated client.waiting (given bases (is_none pair) client)) pair client;
  left = λ place id idle dead filled is. record { sessions = all_same client.sessions; alive = refl };
})

-- A request of the player goes up for a connection that is alive, and a closing TEARDOWN for one that closed.
abbrev pub Suits : Bool → Purpose → Type 0
Suits alive (purposes.Client asked track) = alive ≡ true
Suits alive (purposes.Released play) = Unit {0}
Suits alive (purposes.Closing place) = alive ≡ false

abbrev pub SuitsOpen : Bool → Option Purpose → Type 0
SuitsOpen alive None = Unit {0}
SuitsOpen alive (Some purpose) = Suits alive purpose

abbrev pub SuitsBy : Bool → Option Outgoing → Option Purpose → Type 0
SuitsBy alive (Some (asks request pair)) new = SuitsOpen alive new
SuitsBy alive message new = Unit {0}

pub going_suits : (bases : Bases) (pair : Option ℕ) (next : NextPart) (client : Client)
    → SuitsBy client.alive (going_on bases pair next client).message (going_on bases pair next client).client.pending
going_suits bases pair next client = grind arith

-- An event that is no reply keeps the sessions with their streams, and what is open.
pub record IsHeldStill (before after : Client) : Type 0 where
  pub sessions : AreSame before.sessions after.sessions
  pub pending : after.pending ≡ before.pending

abbrev pub IsNoAnswer : PrivateEvent → Type 0
IsNoAnswer (answer told ssrc full) = ⊥
IsNoAnswer event = Unit {0}

-- what an event makes of a connection by itself: it settles what is open, or keeps this
pub heard_as : (P : Client → Type 0) (bases : Bases) (number : ℕ) (client : Client) (event : PrivateEvent) → ((after : Client) → IsHeldStill client after → P after)
    → ((purpose : Purpose) (told : Told) (ssrc : Option ℕ) (full : Bool) → event ≡ answer told ssrc full → client.pending ≡ Some purpose → P (settle_with (Some purpose) number told.code (new_id purpose told) client))
    → P (hear bases number client event).effect.client
heard_as P bases number client event still settles = hear_as (λ heard. P heard.effect.client) bases number client event (record {
  idle = still client (record { sessions = all_same client.sessions; pending = refl });
  closing = λ reason alive. still (after_close client) (record { sessions = mapped_same when_unqueued client.sessions (λ session. record { id = refl; tracks = refl }); pending = refl });
  waits = λ shape full here is alive. still (after_waiting (shape ∷ []) client) (record { sessions = all_same client.sessions; pending = refl });
  carrying = λ shape full half here is. still client (record { sessions = all_same client.sessions; pending = refl });
  settles = λ purpose told ssrc full here late is.
      subst (λ (one : Option Purpose). P (settle_with one number told.code (new_id purpose told) client)) (sym is) (settles purpose told ssrc full here is);
  notes = λ id names here. still (after_note (place_with id client.sessions) names client)
      (record { sessions = where_same (place_with id client.sessions) (when_ended names) client.sessions (λ session. (grind arith)); pending = refl });
  gives = λ pair half channel rest here is alive. still client (record { sessions = all_same client.sessions; pending = refl });
})

pub hear_still : (bases : Bases) (number : ℕ) (client : Client) (event : PrivateEvent) → IsNoAnswer event → IsHeldStill client (hear bases number client event).effect.client
hear_still bases number client event none =
    heard_as (IsHeldStill client) bases number client event (λ after still. still) (λ purpose told ssrc full here is. absurd (subst IsNoAnswer here none))
