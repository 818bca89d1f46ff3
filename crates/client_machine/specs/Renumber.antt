-- One connection under another numbering of its requests and of its pairs of channels: what it sends up, and what happens
-- to it (this project's own).
use Rattle.std.specs.Prelude.{◌≡◌, ℕ, ◌==◌, List}
use Rattle.std.specs.Option.{option_map}
use Rattle.session_one.specs.declared.parts.Track.{Track}
use Rattle.client_slot.specs.Places.{session_where, place_with, tracks_of}
use Rattle.client_slot.specs.Client.{Client}
use Rattle.client_slot.specs.Renumber.{client_under, names_under, AreToldApart}
use Rattle.client_machine.specs.Events.{Outgoing, asks, carries, Effect, PrivateEvent, note, media}
use Rattle.std.specs.List.{AllByRecursion}

-- what goes up, in another numbering
abbrev pub message_under : (ℕ → ℕ) → Outgoing → Outgoing
message_under pairs (asks request pair) = asks request (option_map pairs pair)
message_under pairs (carries pair half rest) = carries (pairs pair) half rest

-- what an event does, in another numbering
abbrev pub effect_under : (ℕ → ℕ) → (ℕ → ℕ) → Effect → Effect
effect_under numbers pairs effect = record {
  client = client_under numbers pairs effect.client;
  hand = effect.hand;
  message = option_map (message_under pairs) effect.message;
  close = effect.close;
}

-- an event, in another numbering
abbrev pub event_under : (ℕ → ℕ) → (ℕ → ℕ) → PrivateEvent → PrivateEvent
event_under numbers pairs (note id reason names) = note id reason (names_under numbers names)
event_under numbers pairs (media pair half rest) = media (pairs pair) half rest
event_under numbers pairs event = event

-- The numbering tells a pair from that of each of these streams.
abbrev pub AreTracksApart : (ℕ → ℕ) → ℕ → List Track → Type 0
AreTracksApart pairs pair tracks = AllByRecursion (λ track. (pairs track.pair == pairs pair) ≡ (track.pair == pair)) tracks

-- The numbering tells what an event names from what the connection has.
abbrev pub IsToldApart : (ℕ → ℕ) → (ℕ → ℕ) → Client → PrivateEvent → Type 0
IsToldApart numbers pairs client (note id reason names) = AreToldApart numbers (session_where (place_with id client.sessions) client.sessions).running names
IsToldApart numbers pairs client (media pair half rest) = AreTracksApart pairs pair (tracks_of client.sessions)
IsToldApart numbers pairs client event = Unit {0}
