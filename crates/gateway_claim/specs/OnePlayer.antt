-- What the server is asked for a connection, and histories of one connection (this project's own).
use Rattle.std.specs.Prelude.{ℕ, ◌+◌, List, [], ◌∷◌, ◌++◌, Option, Some, if◌then◌else◌, ◌≡◌, ◌≢◌, false, map}
use Rattle.std.specs.Option.{option_map, option_to_list}
use Rattle.rtsp_uri.specs.declared.base.Bases.{Bases}
use Rattle.client_machine.specs.Alone.{private_after, effect_after, hand, shut_alone}
use Rattle.client_machine.specs.Events.{Outgoing, PrivateEvent}
use Rattle.gateway_claim.specs.declared.event.ToUp.{ToUp}
use Rattle.gateway_claim.specs.declared.event.UpMessage.{UpMessage}
use Rattle.gateway_claim.specs.Books.{Books}
use Rattle.gateway_claim.specs.Happenings.{HistoryEntry, shut}
use Rattle.gateway_claim.specs.OwnEvents.{turn, is_turn, books_of, own}
use Rattle.gateway_claim.specs.Follows.{message_with}
use Rattle.gateway_claim.specs.declared.event.ToClient.{ToClient}
use Rattle.gateway_claim.specs.Cores.{ever_entered}

-- what the server is handed of connection i, by whose turn it is
abbrev pub asked_for : ℕ → Option ℕ → ToUp → List UpMessage
asked_for i who up = if is_turn i who then option_to_list up.message else []

-- the messages that the server was handed in the turns of connection i, the newest first
abbrev pub asked_up : ℕ → List HistoryEntry → List UpMessage
asked_up i [] = []
asked_up i (entry ∷ earlier) = asked_for i (turn (books_of earlier) entry.happening) entry.outcome.to_up ++ asked_up i earlier

-- a message that goes up, and the number of its request among the connection's own
pub record OwnMessage : Type 0 where
  pub number : ℕ
  pub message : Outgoing

-- all that goes up for a player alone, newest first; its requests have the numbers from 1 on
abbrev pub asked_alone : Bases → List PrivateEvent → List OwnMessage
asked_alone bases [] = []
asked_alone bases (event ∷ events) =
    option_to_list (option_map (λ message. record { number = (private_after bases events).count + 1; message = message }) (effect_after bases events event).message) ++ asked_alone bases events

-- a message of connection i in the numbers and on the channels that the books have for it
abbrev pub spelled_for : Books → ℕ → OwnMessage → UpMessage
spelled_for books i one = message_with (books.number_of i one.number) (Some (books.pair_of i one.number)) (books.pair_of i) one.message

-- what the private machine sends up, spelled so, the newest first
abbrev pub spelled_up : Books → ℕ → Bases → List PrivateEvent → List UpMessage
spelled_up books i bases events = map (spelled_for books i) (asked_alone bases events)

-- no connection but this one ever entered
abbrev pub IsOnlyPlayer : ℕ → List HistoryEntry → Type 0
IsOnlyPlayer i history = (j : ℕ) → j ≢ i → ever_entered j history ≡ false

-- all that players were handed, and all messages that the server was handed of players, whoever they are; the newest first
abbrev pub all_handed : List HistoryEntry → List ToClient
all_handed [] = []
all_handed (entry ∷ earlier) = option_to_list entry.outcome.to_client ++ all_handed earlier

-- all that went up in a history, newest first
abbrev pub all_asked : List HistoryEntry → List UpMessage
all_asked [] = []
all_asked (entry ∷ earlier) = option_to_list entry.outcome.to_up.message ++ all_asked earlier

-- bytes for a connection
abbrev pub piece_for : ℕ → List ℕ → ToClient
piece_for i bytes = record { conn = i; bytes = bytes }

-- All that a history hands out and closes is what the machine of this connection hands out and closes alone, on the
-- connection's own events: its pieces, its close, and what it sends up, in the numbers and on the channels of the
-- connection to the server.
pub record HasAll (bases : Bases) (i : ℕ) (history : List HistoryEntry) : Type 0 where
  pub handed : all_handed history ≡ map (piece_for i) (hand bases (own bases i history))
  pub asked : all_asked history ≡ spelled_up (books_of history) i bases (own bases i history)
  pub closed : shut i history ≡ shut_alone bases (own bases i history)
  pub nobody_else : (j : ℕ) → j ≢ i → shut j history ≡ []
