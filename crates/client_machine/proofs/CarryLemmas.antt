-- What a frame does to a connection: it goes on, on a channel of one of its streams, or nothing comes of it.
use Rattle.std.proofs.Common.{◌≡◌, ℕ, suc, Bool, List, [], ◌∷◌, Option, Some, None, ◌⊎◌, arith, ◌∙◌, ◌<◌, ◌+◌, true, false, cond, ◌++◌, length, drop, option_map, refl, sym, ap, add-one, drop-cons}
use Rattle.std.specs.List.{Contains}
use Rattle.std.proofs.lemmas.Bool.{eqb-true}
use Rattle.std.proofs.lemmas.List.{append-nil}
use Rattle.rtsp_head.specs.Items.{Shape}
use Rattle.rtsp_head.specs.declared.item.ItemKind.TheVariants.{Frame}
use Rattle.rtsp_uri.specs.declared.base.Bases.{Bases}
use Rattle.session_one.specs.declared.parts.Track.{Track}
use Rattle.client_slot.specs.Places.{tracks_of, session_at}
use Rattle.client_slot.specs.Client.{Client}
use Rattle.client_machine.specs.Events.{Outgoing, asks, carries, Effect, arrive, media}
use Rattle.client_machine.specs.Frames.{channel_in, behind_channel, frame_text, Half, half_on, half_for, player_channel, channel_for}
use Rattle.client_machine.specs.Step.{step}
use Rattle.std.specs.Prelude.{is_some}
use Rattle.std.specs.Option.{option_or}
use Rattle.std.proofs.lemmas.List.Folds.{find-append}
use Rattle.std.proofs.Math.Seq.{drop-length}
use Rattle.client_slot.specs.Session.{PlayerSession, new_session}

contains_later : (first : Track) (tracks : List Track) (track : Track) → Contains tracks track → Contains (first ∷ tracks) track
contains_later first tracks track (place, within, is) = (suc place, omega (arith, within), is)

-- the stream that has a pair, by its player's channel
channel_found : (pair half : ℕ) (tracks : List Track) (channel : ℕ) → channel_for pair half tracks ≡ Some channel
    → (track : Track) × Contains tracks track × (track.pair ≡ pair) × (player_channel half track ≡ channel)
channel_found pair half [] channel e = cc
channel_found pair half (track ∷ tracks) channel e = grind (arith, eqb-true, contains_later, channel_found pair half tracks channel)

-- the stream that has a player's channel
half_found : (channel : ℕ) (tracks : List Track) (half : Half) → half_for channel tracks ≡ Some half
    → (track : Track) × Contains tracks track × (track.pair ≡ half.pair) × (half_on channel track ≡ Some half.half)
half_found channel [] half e = cc
half_found channel (track ∷ tracks) half e = grind (arith, contains_later, half_found channel tracks half)

-- A frame of the server: the player of the stream is handed it, and nothing else happens.
abbrev pub IsHandedOn : List Track → ℕ → ℕ → List ℕ → List ℕ → Type 0
IsHandedOn tracks pair half rest bytes = (track : Track) × Contains tracks track × (track.pair ≡ pair) × (bytes ≡ frame_text (player_channel half track) rest)

pub record IsMediaGiven (tracks : List Track) (pair half : ℕ) (rest : List ℕ) (effect : Effect) : Type 0 where
  pub message : effect.message ≡ None
  pub close : effect.close ≡ None
  pub hand : (effect.hand ≡ []) ⊎ IsHandedOn tracks pair half rest effect.hand

pub media_given : (bases : Bases) (n : ℕ) (free : Option ℕ) (client : Client) (pair half : ℕ) (rest : List ℕ)
    → IsMediaGiven (tracks_of client.sessions) pair half rest (step bases n free client (media pair half rest))
media_given bases n free client pair half rest = grind (arith, channel_found, append-nil)

-- A frame of the player: it goes up on the pair of the stream that has its channel, and nothing else happens.
abbrev pub IsCarriedBy : List Track → ℕ → List ℕ → Option Outgoing → Type 0
IsCarriedBy tracks channel rest None = Unit {0}
IsCarriedBy tracks channel rest (Some (asks request pair)) = ⊥
IsCarriedBy tracks channel rest (Some (carries pair half sent)) = (track : Track) × Contains tracks track × (track.pair ≡ pair) × (half_on channel track ≡ Some half) × (sent ≡ rest)

pub record IsFrameCarried (tracks : List Track) (channel : ℕ) (rest : List ℕ) (effect : Effect) : Type 0 where
  pub hand : effect.hand ≡ []
  pub close : effect.close ≡ None
  pub message : IsCarriedBy tracks channel rest effect.message

pub frame_carried : (bases : Bases) (n : ℕ) (free : Option ℕ) (client : Client) (shape : Shape) (full : Bool) → shape.kind ≡ Frame
    → IsFrameCarried (tracks_of client.sessions) (channel_in shape) (behind_channel shape) (step bases n free client (arrive shape full))
frame_carried bases n free client shape full kind = grind (arith, half_found)

-- Streams of all sessions are searched session by session.
pub half_joined : (channel : ℕ) (one more : List Track) → half_for channel (one ++ more) ≡ option_or (half_for channel one) (half_for channel more)
half_joined channel [] more = refl
half_joined channel (track ∷ tracks) more = grind (arith, half_joined channel tracks more)

pub channel_joined : (pair half : ℕ) (one more : List Track) → channel_for pair half (one ++ more) ≡ option_or (channel_for pair half one) (channel_for pair half more)
channel_joined pair half one more = grind (arith, option_map, find-append)

-- A search of streams that goes on where nothing was found.
pub record Searches {A : Type 0} (look : List Track → Option A) : Type 0 where
  pub none : look [] ≡ None
  pub joined : (one more : List Track) → look (one ++ more) ≡ option_or (look one) (look more)

left_sessions : (place : ℕ) (sessions : List PlayerSession) → place < length sessions → drop place sessions ≡ session_at place sessions ∷ drop (place + 1) sessions
left_sessions place sessions within = rw (add-one, drop-cons sessions place new_session within) refl

either : {A : Type 0} (one other : Option A) (here : Bool) → is_some one ≡ here → option_or one other ≡ cond here one other
either one other here e = grind arith

pub found_here : {A : Type 0} (look : List Track → Option A) (place : ℕ) (sessions : List PlayerSession) → Searches look → place < length sessions → is_some (look (session_at place sessions).tracks) ≡ true
    → look (tracks_of (drop place sessions)) ≡ look (tracks_of sessions) → look (session_at place sessions).tracks ≡ look (tracks_of sessions)
found_here look place sessions searches within here so_far =
    sym (either (look (session_at place sessions).tracks) (look (tracks_of (drop (place + 1) sessions))) true here) ∙ sym (grind (arith, left_sessions)) ∙ so_far

pub found_later : {A : Type 0} (look : List Track → Option A) (place : ℕ) (sessions : List PlayerSession) → Searches look → place < length sessions → is_some (look (session_at place sessions).tracks) ≡ false
    → look (tracks_of (drop place sessions)) ≡ look (tracks_of sessions) → look (tracks_of (drop (place + 1) sessions)) ≡ look (tracks_of sessions)
found_later look place sessions searches within here so_far =
    sym (either (look (session_at place sessions).tracks) (look (tracks_of (drop (place + 1) sessions))) false here) ∙ sym (grind (arith, left_sessions)) ∙ so_far

pub found_nowhere : {A : Type 0} (look : List Track → Option A) (place : ℕ) (sessions : List PlayerSession) → Searches look → place ≡ length sessions → look (tracks_of (drop place sessions)) ≡ look (tracks_of sessions)
    → None ≡ look (tracks_of sessions)
found_nowhere look place sessions searches end so_far = sym searches.none ∙ sym (ap (λ left. look (tracks_of left)) (ap (λ n. drop n sessions) end ∙ drop-length sessions)) ∙ so_far

pub half_searches : (channel : ℕ) → Searches (half_for channel)
half_searches channel = record { none = refl; joined = half_joined channel }

pub channel_searches : (pair half : ℕ) → Searches (channel_for pair half)
channel_searches pair half = record { none = refl; joined = channel_joined pair half }

pub mapped_some : {A B : Type 0} (f : A → B) (one : Option A) → is_some (option_map f one) ≡ is_some one
mapped_some f one = grind arith
