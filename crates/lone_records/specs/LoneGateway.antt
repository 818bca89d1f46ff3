-- A gateway that has one player, and a connection to the server for it alone (this project's own): what it hands out for all
-- that happens, and the records of that. It keeps no books: which request is open, who holds a pair of channels and which
-- sessions are there is read off the player's connection, whose requests have the numbers 1, 2, 3 and so on.
use Rattle.std.specs.Prelude.{ℕ, ◌+◌, ◌==◌, ◌&&◌, ◌||◌, nat_le, Bool, false, is_some, List, [], ◌∷◌, ◌++◌, Option, Some, None, unwrap_or, if◌then◌else◌}
use Rattle.std.specs.Option.{option_and_then, option_map, option_map_or, option_or}
use Rattle.std.specs.List.{find}
use Rattle.rtsp_uri.specs.declared.base.Bases.{Bases}
use Rattle.head_two.specs.declared.reply.Reply2.{Reply2}
use Rattle.session_one.specs.declared.parts.Track.{Track}
use Rattle.client_slot.specs.declared.purpose.Purpose.{Purpose}
use Rattle.client_slot.specs.Session.{PlayerSession}
use Rattle.client_slot.specs.Places.{place_with, tracks_of}
use Rattle.client_slot.specs.Client.{Client}
use Rattle.client_machine.specs.declared.why.CloseWhy.TheVariants.{Upstream}
use Rattle.client_machine.specs.Alone.{Private, new_private, private_next}
use Rattle.client_machine.specs.Bounds.{stream_asked}
use Rattle.client_machine.specs.Events.{PrivateEvent, Effect}
use Rattle.gateway_claim.specs.declared.event.Closed.{Closed}
use Rattle.gateway_claim.specs.declared.event.Closed.TheVariants.{Nobody, One, All}
use Rattle.gateway_claim.specs.declared.event.Outcome.{Outcome}
use Rattle.gateway_claim.specs.declared.event.UpCause.{UpCause}
use Rattle.gateway_claim.specs.declared.event.UpCause.TheVariants.{Framing, UnknownReply}
use Rattle.gateway_claim.specs.declared.event.UpMessage.{UpMessage}
use Rattle.gateway_claim.specs.Books.{Opened, HeldPair, Books, kind_of, pair_asked, free_in}
use Rattle.gateway_claim.specs.BooksAndSlots.{kind_for}
use Rattle.gateway_claim.specs.Follows.{answer_due, effect_at, kind_breach, message_with, outcome_with, session_asked, spent}
use Rattle.gateway_claim.specs.Happenings.{Happening, hears, up_ends, cause_of, enters_here, silent}
use Rattle.gateway_claim.specs.OwnEvents.{event_of, is_turn, settled_by, turn}
use Rattle.gateway_claim.specs.ServerItems.{Heard, replies, faults, heard}
use Rattle.gateway_replay.specs.RecordTexts.{close_record, fault_record, piece_record, up_record}

-- whether the player entered; its connection; the pair of channels that each of its SETUPs asked for, by the SETUP's number;
-- and why the server's connection ended, where it did
pub record LoneGateway : Type 0 where
  pub entered : Bool
  pub player : Private
  pub pairs : ℕ → ℕ
  pub fault : Option UpCause

-- before anything happened
abbrev pub new_lone : LoneGateway
new_lone = record { entered = false; player = new_private; pairs = λ own. 0; fault = None }

-- the stream that has a pair of channels, where one of these does
abbrev pub stream_with : (ℕ → ℕ) → ℕ → List Track → Option Track
stream_with pairs pair tracks = find (λ track. pairs track.pair == pair) tracks

-- the session that holds a pair, by the player's number
abbrev pub held_among : ℕ → (ℕ → ℕ) → ℕ → List PlayerSession → Option HeldPair
held_among i pairs pair [] = None
held_among i pairs pair (session ∷ more) =
    if is_some (stream_with pairs pair session.tracks) then Some (record { conn = i; session = session.id }) else held_among i pairs pair more

-- what holds a pair: a session whose stream has it, or else the open SETUP
abbrev pub held_alone : ℕ → (ℕ → ℕ) → Client → ℕ → Option HeldPair
held_alone i pairs client pair =
    option_or (held_among i pairs pair client.sessions) (option_map (λ track. record { conn = i; session = None }) (stream_with pairs pair (stream_asked client.pending)))

-- what the open request is for
abbrev pub opened_alone : ℕ → (ℕ → ℕ) → List PlayerSession → Purpose → Opened
opened_alone i pairs sessions purpose = record { conn = i; kind = kind_for pairs sessions purpose }

-- What a player's own connection tells in place of books: its open request is the last one, the pairs of its streams are
-- held, its sessions are there, and its numbers are the server's.
abbrev pub books_alone : ℕ → Private → (ℕ → ℕ) → Books
books_alone i player pairs = record {
  opened = λ number. if number == player.count then option_map (opened_alone i pairs player.client.sessions) player.client.pending else None;
  held = held_alone i pairs player.client;
  holder = λ id. option_map (λ place. i) (place_with id player.client.sessions);
  giver = λ number. if nat_le 1 number && nat_le number player.count then Some i else None;
  own_number = λ number. number;
  own_pair = λ pair. option_map_or (λ track. track.pair) (stream_with pairs pair (tracks_of player.client.sessions)) 0;
  number_of = λ conn own. own;
  pair_of = λ conn. pairs;
  counts = λ conn. player.count;
  issued = player.count;
}

-- those of the gateway
abbrev pub own_books : ℕ → LoneGateway → Books
own_books i lone = books_alone i lone.player lone.pairs

-- what happens, as an event of the player
abbrev pub event_alone : ℕ → LoneGateway → Happening → Option PrivateEvent
event_alone i lone happening =
    if lone.entered && is_turn i (turn (own_books i lone) happening) then event_of (own_books i lone) i lone.player.client.waiting happening else None

-- what the machine of the player does then
abbrev pub does_alone : Bases → ℕ → LoneGateway → Happening → Effect
does_alone bases i lone happening = effect_at bases (Some lone.player) (event_alone i lone happening)

-- what is wrong with a reply
abbrev pub reply_fault : Books → Client → Reply2 → Option Opened → Option UpCause
reply_fault books client reply None = Some (UnknownReply reply.cseq)
reply_fault books client reply (Some opened) = kind_breach books opened.kind (session_asked client.sessions client.pending) reply

-- what is wrong with what the server says
abbrev pub heard_fault : Books → Client → Heard → Option UpCause
heard_fault books client (replies reply) = reply_fault books client reply (books.opened reply.cseq)
heard_fault books client (faults fault) = Some (Framing fault)
heard_fault books client said = None

-- why an event ends the server's connection
abbrev pub said_fault : Books → Client → Happening → Option UpCause
said_fault books client (hears shape) = heard_fault books client (heard shape)
said_fault books client (up_ends cause) = Some (cause_of cause)
said_fault books client happening = None

-- the first thing that is wrong, where something is: with what was said, or that no number is left
abbrev pub fault_alone : Bases → ℕ → LoneGateway → Happening → Option UpCause
fault_alone bases i lone happening = option_or (said_fault (own_books i lone) lone.player.client happening) (spent lone.player.count (does_alone bases i lone happening).message)

-- the lowest pair of channels that none of the player's own streams has, once the event was heard
abbrev pub pair_left : ℕ → LoneGateway → Happening → Option ℕ
pair_left i lone happening = free_in (settled_by (own_books i lone) happening)

-- what goes up: a request with the next number, and a SETUP with that pair
abbrev pub goes_up_alone : Bases → ℕ → LoneGateway → Happening → Option UpMessage
goes_up_alone bases i lone happening =
    option_map (message_with (lone.player.count + 1) (pair_left i lone happening) lone.pairs) (does_alone bases i lone happening).message

-- what an event hands out, while the server's connection stands
abbrev pub handed_alone : Bases → ℕ → LoneGateway → Happening → Outcome
handed_alone bases i lone happening =
    outcome_with (fault_alone bases i lone happening) (Some i)
    (record { answer = answer_due (own_books i lone) happening; message = goes_up_alone bases i lone happening })
    (does_alone bases i lone happening)

-- and at any time
abbrev pub outcome_alone : Bases → ℕ → LoneGateway → Happening → Outcome
outcome_alone bases i lone happening = if is_some lone.fault then silent else handed_alone bases i lone happening

-- the pair that a message asks for
abbrev pub pair_gone : Option UpMessage → Option ℕ → Option ℕ
pair_gone message free = option_and_then pair_asked (kind_of message free false)

-- the pairs that SETUPs asked for, with that of one request more
abbrev pub pairs_then : ℕ → Option ℕ → (ℕ → ℕ) → ℕ → ℕ
pairs_then number pair pairs own = if own == number then unwrap_or pair (pairs own) else pairs own

-- the player after an event of it
abbrev pub player_then : Private → Option PrivateEvent → Effect → Private
player_then player None effect = player
player_then player (Some event) effect = private_next player event effect

-- the gateway after what happened
abbrev pub lone_next : Bases → ℕ → LoneGateway → Happening → LoneGateway
lone_next bases i lone happening =
    if is_some lone.fault then lone
    else (if is_some (fault_alone bases i lone happening) then record lone { fault = fault_alone bases i lone happening }
    else record {
      entered = enters_here i happening || lone.entered;
      player = player_then lone.player (event_alone i lone happening) (does_alone bases i lone happening);
      pairs = pairs_then (lone.player.count + 1) (pair_gone (goes_up_alone bases i lone happening) (pair_left i lone happening)) lone.pairs;
      fault = None;
    })

-- the record of a close; at the end of the server's connection that of the player, where it was alive
abbrev pub close_alone : ℕ → Bool → Closed → List ℕ
close_alone i alive Nobody = []
close_alone i alive (One conn why) = close_record conn why
close_alone i alive All = if alive then close_record i Upstream else []

-- The records of one event: what the player is handed, what the server is handed, the close, and the cause.
abbrev pub records_then : ℕ → Bool → Outcome → List ℕ
records_then i alive outcome =
    piece_record outcome.to_client ++ up_record outcome.to_up ++ close_alone i alive outcome.closed ++ fault_record outcome.fault

-- the records of all that happens, the oldest first
abbrev pub records_from : Bases → ℕ → LoneGateway → List Happening → List ℕ
records_from bases i lone [] = []
records_from bases i lone (happening ∷ later) =
    records_then i (lone.entered && lone.player.client.alive) (outcome_alone bases i lone happening) ++ records_from bases i (lone_next bases i lone happening) later

-- from the beginning on
abbrev pub records_alone : Bases → ℕ → List Happening → List ℕ
records_alone bases i happenings = records_from bases i new_lone happenings
