-- The numbers that are kept of a connection alone are those of its own requests, so two numberings that agree on these
-- agree on the connection.
use Rattle.std.proofs.Common.{◌≡◌, ◌∙◌, ℕ, ◌+◌, ◌≤◌, List, [], ◌∷◌, ◌++◌, map, Option, Some, None, refl, ap, subst, arith}
use Rattle.std.specs.Prelude.{is_none}
use Rattle.std.specs.Option.{option_map, option_or, option_to_list}
use Rattle.rtsp_uri.specs.declared.base.Bases.{Bases}
use Rattle.session_one.specs.declared.parts.Play.{Play}
use Rattle.session_one.specs.declared.parts.Track.{Track}
use Rattle.client_slot.specs.declared.purpose.Purpose.{Purpose}
use Rattle.client_slot.specs.declared.purpose.Purpose.TheVariants as purposes
use Rattle.client_slot.specs.Session.{PlayerSession, new_session}
use Rattle.client_slot.specs.Places.{tracks_of}
use Rattle.client_slot.specs.SessionChanges.{when_next, when_queued}
use Rattle.client_slot.specs.Client.{Client}
use Rattle.client_slot.specs.Changes as changes
use Rattle.client_slot.specs.Renumber.{track_under, purpose_under, session_under, client_under}
use Rattle.client_machine.specs.Bounds.{IsWithin, IsNumberBelow, ArePairsBelow, IsTrackBelow, IsPurposeBelow, IsSessionBelow, AreSessionsBelow, IsBelow, IsOpened}
use Rattle.client_machine.specs.Events.{Outgoing, asks, carries, Effect, PrivateEvent}
use Rattle.client_machine.specs.Treatment.{given, Going, treated}
use Rattle.client_machine.specs.Step as going
use Rattle.client_machine.specs.Step.{NextPart, rests, releases, goes_on, Hearing, hear, going_on, step}
use Rattle.client_machine.specs.Alone.{pair_alone, asked_in, private_after}
use Rattle.client_machine.proofs.WayLemmas.{hear_as, going_as, alone_as}
use Rattle.client_machine.proofs.EachLemmas.{each_so, both_so, parts_so, changed_each, where_each, mapped_each}

-- What is within a bound is within a greater one.
within_more : (n m number : ℕ) → n ≤ m → IsWithin n number → IsWithin m number
within_more n m number more within = (within.0, omega (arith, more, within.1))

pub below_more : (n m : ℕ) (client : Client) → n ≤ m → IsBelow n client → IsBelow m client
below_more n m client more below = record { sessions = (grind (arith, each_so)); pending = (grind arith) }

-- and where a request is open, one went up
abbrev pub IsNumbered : ℕ → Client → Type 0
IsNumbered n client = IsBelow n client × IsOpened n client.pending

numbered_more : (n m : ℕ) (client : Client) → n ≤ m → IsNumbered n client → IsNumbered m client
numbered_more n m client more numbered = (below_more n m client more numbered.0, (grind arith))

-- what a turn of a session brings is below
one_more : (n : ℕ) (tracks : List Track) (track : Option Track) → ArePairsBelow n tracks → IsTrackBelow n track → ArePairsBelow n (tracks ++ option_to_list track)
one_more n [] None all one = tt
one_more n [] (Some track) all one = (one, tt)
one_more n (first ∷ tracks) track all one = (all.0, one_more n tracks track all.1 one)

session_below : (n code : ℕ) (described id : Option (List ℕ)) (purpose : Purpose) (session : PlayerSession) → 1 ≤ n → IsPurposeBelow n (Some purpose) → IsSessionBelow n session
    → IsSessionBelow n (changes.session_after purpose n code described id session)
session_below n code described id (purposes.Client asked track) session some one below =
    (grind (arith, one_more))
session_below n code described id (purposes.Released play) session some one below =
    (grind (arith, one_more))
session_below n code described id (purposes.Closing place) session some one below = record { running = tt; tracks = tt }

-- what an event does by itself, where the open request is the last one
settled_numbered : (n code : ℕ) (id : Option (List ℕ)) (purpose : Purpose) (client : Client) → client.pending ≡ Some purpose → IsNumbered n client → IsNumbered n (changes.settle_with (Some purpose) n code id client)
settled_numbered n code id purpose client is numbered = (
  record {
    sessions = where_each (IsSessionBelow n) (changes.settled_place purpose id client.sessions) (changes.session_after purpose n code client.described id) client.sessions
        (λ session. session_below n code client.described id purpose session (subst (IsOpened n) is numbered.1) (subst (IsPurposeBelow n) is numbered.0.pending)) numbered.0.sessions;
    pending = tt;
  },
  tt,
)

pub hear_numbered : (bases : Bases) (n : ℕ) (client : Client) (event : PrivateEvent) → IsNumbered n client → IsNumbered n (hear bases n client event).effect.client
hear_numbered bases n client event numbered = grind (arith, hear_as, mapped_each, settled_numbered, where_each)

-- what goes up, where the pair that is free has the next number
abbrev IsGone : ℕ → Effect → Type 0
IsGone n effect = IsNumbered (n + asked_in effect.message) effect.client

plays_numbered : (n : ℕ) (plays : List Play) (client : Client) → IsNumbered n client → IsNumbered n (going.after_plays plays client)
plays_numbered n [] client numbered = numbered
plays_numbered n (play ∷ plays) client numbered = grind (arith, where_each, plays_numbered n plays (changes.after_queueing play client) (record { sessions = where_each (IsSessionBelow n) play.place (when_queued play) client.sessions (λ session below. record { running = below.running; tracks = below.tracks }) numbered.0.sessions; pending = numbered.0.pending }, numbered.1))

goes_gone : (n : ℕ) (one : Option Going) (pair : Option ℕ) (text : List ℕ) (client : Client) → IsNumberBelow (n + 1) pair → IsNumbered n client → IsGone n (going.goes_at one pair text client)
goes_gone n one pair text client free numbered = grind (arith, numbered_more, each_so)

going_gone : (bases : Bases) (n : ℕ) (pair : Option ℕ) (next : NextPart) (client : Client) → IsNumberBelow (n + 1) pair → IsNumbered n client → IsGone n (going_on bases pair next client)
going_gone bases n pair next client free numbered = going_as (IsGone n) bases pair next client (record {
  still = numbered_more n (n + 0) client (omega arith) numbered;
  released = λ place play idle due is. (
    record {
      sessions = changed_each (IsSessionBelow (n + 1)) place when_next client.sessions (λ session below. record { running = below.running; tracks = below.tracks }) (grind (arith, each_so));
      pending = tt;
    },
    omega arith,
  );
  treats = λ idle alive.
      let all = treated client.waiting (given bases (is_none pair) client) in
      goes_gone n all.going pair all.hand (going.after_plays all.plays (record client { waiting = all.left })) free
      (plays_numbered n all.plays (record client { waiting = all.left }) (record { sessions = numbered.0.sessions; pending = numbered.0.pending }, numbered.1));
  left = λ place id idle dead filled is. (record { sessions = (grind (arith, each_so)); pending = tt }, omega arith);
})

-- Where an event by itself sends a message up, that is a frame, and nothing else goes up.
abbrev pub IsMute : NextPart → Option Outgoing → Type 0
IsMute next None = Unit {0}
IsMute next (Some (asks request pair)) = ⊥
IsMute rests (Some (carries pair half rest)) = Unit {0}
IsMute releases (Some (carries pair half rest)) = ⊥
IsMute goes_on (Some (carries pair half rest)) = ⊥

pub hear_mute : (bases : Bases) (n : ℕ) (client : Client) (event : PrivateEvent) → IsMute (hear bases n client event).next (hear bases n client event).effect.message
hear_mute bases n client event = grind arith

pub mute_asked : (bases : Bases) (pair : Option ℕ) (next : NextPart) (message : Option Outgoing) (client : Client) → IsMute next message
    → asked_in (going_on bases pair next client).message ≡ asked_in (option_or message (going_on bases pair next client).message)
mute_asked bases pair next message client mute = grind arith

step_gone : (bases : Bases) (n : ℕ) (pair : Option ℕ) (client : Client) (event : PrivateEvent) → IsNumberBelow (n + 1) pair → IsNumbered n client → IsGone n (step bases n pair client event)
step_gone bases n pair client event free numbered =
    let heard : Hearing = hear bases n client event in
    subst (λ (more : ℕ). IsNumbered (n + more) (going_on bases pair heard.next heard.effect.client).client)
    (mute_asked bases pair heard.next heard.effect.message heard.effect.client (hear_mute bases n client event))
    (going_gone bases n pair heard.next heard.effect.client free (hear_numbered bases n client event numbered))

-- The pair that is free for a connection alone has the next number.
abbrev pub IsNextPair : ℕ → Option ℕ → Type 0
IsNextPair n None = Unit {0}
IsNextPair n (Some pair) = pair ≡ n + 1

pub next_alone : (event : PrivateEvent) (n : ℕ) → IsNextPair n (pair_alone event (n + 1))
next_alone event n = grind arith

new_below : IsSessionBelow 0 new_session
new_below = record { running = tt; tracks = tt }

pub alone_numbered : (bases : Bases) (events : List PrivateEvent) → IsNumbered (private_after bases events).count (private_after bases events).client
alone_numbered bases [] = (record { sessions = (new_below, (new_below, (new_below, (new_below, tt)))); pending = tt }, tt)
alone_numbered bases (event ∷ events) =
    let p = private_after bases events in
    let rests = numbered_more p.count (p.count + 0) p.client (omega arith) (alone_numbered bases events) in
    alone_as (IsGone p.count) bases p event rests rests (step_gone bases p.count (pair_alone event (p.count + 1)) p.client event (grind arith) (alone_numbered bases events))

pub alone_below : (bases : Bases) (events : List PrivateEvent) → IsBelow (private_after bases events).count (private_after bases events).client
alone_below bases events = (alone_numbered bases events).0

-- Two numberings that agree up to a bound agree on what is below it.
abbrev pub Agree : ℕ → (ℕ → ℕ) → (ℕ → ℕ) → Type 0
Agree n one other = (k : ℕ) → 1 ≤ k → k ≤ n → one k ≡ other k

pairs_agree : (n : ℕ) (p q : ℕ → ℕ) (tracks : List Track) → ArePairsBelow n tracks → Agree n p q → map (track_under p) tracks ≡ map (track_under q) tracks
pairs_agree n p q [] below agree = refl
pairs_agree n p q (track ∷ tracks) below agree = grind (arith, pairs_agree n p q tracks below.1 agree)

-- so are the streams of all sessions
pub tracks_below : (n : ℕ) (sessions : List PlayerSession) → AreSessionsBelow n sessions → ArePairsBelow n (tracks_of sessions)
tracks_below n [] below = tt
tracks_below n (one ∷ more) below = both_so (λ track. IsWithin n track.pair) one.tracks (tracks_of more) below.0.tracks (tracks_below n more below.1)

sessions_agree : (n m : ℕ) (f g p q : ℕ → ℕ) (sessions : List PlayerSession) → AreSessionsBelow n sessions → ArePairsBelow m (tracks_of sessions) → Agree n f g → Agree m p q
    → map (session_under f p) sessions ≡ map (session_under g q) sessions
sessions_agree n m f g p q [] below tracks same alike = refl
sessions_agree n m f g p q (one ∷ more) below tracks same alike =
    let parts = parts_so (λ track. IsWithin m track.pair) one.tracks (tracks_of more) tracks in
    ap (λ first. first ∷ map (session_under f p) more) (grind (arith, pairs_agree))
    ∙ ap (λ later. session_under g q one ∷ later) (sessions_agree n m f g p q more below.1 parts.1 same alike)

-- numbers of requests up to one bound, and those of pairs up to another
pub under_agree_each : (n m : ℕ) (f g p q : ℕ → ℕ) (client : Client) → AreSessionsBelow n client.sessions → ArePairsBelow m (tracks_of client.sessions) → IsPurposeBelow m client.pending → Agree n f g → Agree m p q
    → client_under f p client ≡ client_under g q client
under_agree_each n m f g p q client below tracks pending same alike =
    ap (λ (sessions : List PlayerSession). record client { sessions = sessions; pending = option_map (purpose_under p) client.pending }) (sessions_agree n m f g p q client.sessions below tracks same alike)
    ∙ ap (λ (pending : Option Purpose). record client { sessions = map (session_under g q) client.sessions; pending = pending }) (grind arith)

pub under_agree : (n : ℕ) (f g p q : ℕ → ℕ) (client : Client) → IsBelow n client → ((k : ℕ) → 1 ≤ k → k ≤ n → f k ≡ g k) → ((k : ℕ) → 1 ≤ k → k ≤ n → p k ≡ q k)
    → client_under f p client ≡ client_under g q client
under_agree n f g p q client below same alike = under_agree_each n n f g p q client below.sessions (tracks_below n client.sessions below.sessions) below.pending same alike
