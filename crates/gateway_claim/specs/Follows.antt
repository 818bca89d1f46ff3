-- When an entry follows a history, and the next one as it is computed (this project's own).
use Rattle.std.specs.Prelude.{◌≡◌, ℕ, ◌+◌, ◌*◌, ◌==◌, ◌&&◌, not, nat_lt, codes, Bool, true, false, is_some, is_none, List, [], ◌∷◌, Option, Some, None, if◌then◌else◌, length}
use Rattle.std.specs.Option.{option_or, option_map, option_and_then}
use Rattle.std.specs.Result.{result_ok}
use Rattle.std.specs.Str.{bytes_eq}
use Rattle.rtsp_head.specs.Headers.{field_of}
use Rattle.rtsp_uri.specs.declared.base.Bases.{Bases}
use Rattle.rtsp_small.specs.declared.cseq.TheConstants.{LAST_CSEQ_TWO}
use Rattle.rtsp_transport.specs.declared.channels.Pair.{Pair}
use Rattle.rtsp_transport.specs.Grants.{grant_of}
use Rattle.head_two.specs.declared.reply.Reply2.{Reply2}
use Rattle.session_one.specs.Table.{is_success}
use Rattle.client_slot.specs.declared.purpose.Purpose.{Purpose}
use Rattle.client_slot.specs.declared.purpose.Purpose.TheVariants as purposes
use Rattle.client_slot.specs.Session.{PlayerSession}
use Rattle.client_slot.specs.Places.{session_where}
use Rattle.client_machine.specs.Frames.{frame_text}
use Rattle.client_machine.specs.Events.{Outgoing, asks, carries, Effect, stays, PrivateEvent}
use Rattle.client_machine.specs.UpTexts.{text_up}
use Rattle.client_machine.specs.Alone.{Private, new_private, effect_alone, private_after, hand, shut_alone}
use Rattle.gateway_claim.specs.declared.event.ToUp.{ToUp}
use Rattle.gateway_claim.specs.declared.event.UpMessage.{UpMessage}
use Rattle.gateway_claim.specs.declared.event.UpMessage.TheVariants.{Request, Frame}
use Rattle.gateway_claim.specs.declared.event.UpCause.{UpCause}
use Rattle.gateway_claim.specs.declared.event.UpCause.TheVariants.{Framing, UnknownReply, BadGrant, SessionTaken, CseqSpent}
use Rattle.gateway_claim.specs.ServerItems.{Heard, replies, requests, faults, heard, notice_of, answer_to}
use Rattle.gateway_claim.specs.Books.{RequestKind, sets_up, Opened, Books, id_said, free_in}
use Rattle.gateway_claim.specs.Cores.{IsCoreHistory}
use Rattle.gateway_claim.specs.Happenings.{Happening, hears, up_ends, cause_of, HistoryEntry, fault_in, entered, sent, shut, is_all, nothing_up, silent}
use Rattle.gateway_claim.specs.OwnEvents.{turn, settled_by, books_of, event_of, own}
use Rattle.client_machine.specs.declared.why.CloseWhy.{CloseWhy}
use Rattle.gateway_claim.specs.declared.event.Closed.{Closed}
use Rattle.gateway_claim.specs.declared.event.Closed.TheVariants.{Nobody, One, All}
use Rattle.gateway_claim.specs.declared.event.ToClient.{ToClient}
use Rattle.gateway_claim.specs.declared.event.Outcome.{Outcome}

-- connection i as the private machine has it, where it entered
abbrev pub private_in : Bases → ℕ → List HistoryEntry → Option Private
private_in bases i earlier = if entered i earlier then Some (private_after bases (own bases i earlier)) else None

-- what the private machine does at an event of a connection
abbrev pub effect_at : Bases → Option Private → Option PrivateEvent → Effect
effect_at bases None event = stays new_private.client
effect_at bases (Some private) None = stays private.client
effect_at bases (Some private) (Some event) = effect_alone bases private event

-- what happens, as an event of a connection that entered
abbrev pub event_in : Books → ℕ → Option Private → Happening → Option PrivateEvent
event_in books i private happening = option_and_then (λ one. event_of books i one.client.waiting happening) private

-- what the machine of the connection whose turn it is does
abbrev pub effect_of_turn : Bases → List HistoryEntry → Option ℕ → Happening → Effect
effect_of_turn bases earlier None happening = stays new_private.client
effect_of_turn bases earlier (Some i) happening = effect_at bases (private_in bases i earlier) (event_in (books_of earlier) i (private_in bases i earlier) happening)

-- what an event does to the connection whose turn it is
abbrev pub effect : Bases → List HistoryEntry → Happening → Effect
effect bases earlier happening = effect_of_turn bases earlier (turn (books_of earlier) happening) happening

-- whether a Transport value grants this pair (RFC 7826, 18.54)
abbrev pub grants : ℕ → Option (List ℕ) → Bool
grants pair None = false
grants pair (Some value) = grants_pair pair (option_map (λ grant. grant.pair) (result_ok (grant_of value)))
  where
    grants_pair : ℕ → Option Pair → Bool
    grants_pair pair None = false
    grants_pair pair (Some granted) = granted.rtp == 2 * pair && granted.rtcp == 2 * pair + 1

-- whether a reply says the session that its request named, or any where that named none
abbrev pub is_session_for : Option (List ℕ) → Option (List ℕ) → Bool
is_session_for session None = false
is_session_for None (Some id) = true
is_session_for (Some session) (Some id) = bytes_eq session id

-- Whether a reply to SETUP grants this pair, and says the session that the SETUP named, or any where it named none
-- (RFC 7826, 13.3).
abbrev pub is_granted : ℕ → Option (List ℕ) → Reply2 → Bool
is_granted pair session reply = grants pair (field_of reply.head.headers (codes "Transport")) && is_session_for session (id_said reply)

-- whether a session is some connection's
abbrev pub is_bound : Books → Option (List ℕ) → Bool
is_bound books session = is_some (option_and_then books.holder session)

-- What is wrong with the success of a SETUP, by the session that it named.
abbrev pub grant_breach : Books → ℕ → Option (List ℕ) → Reply2 → Option UpCause
grant_breach books pair session reply =
    if not (is_granted pair session reply) then Some (BadGrant reply.cseq)
    else (if is_none session && is_bound books (id_said reply) then Some (SessionTaken reply.cseq) else None)

-- what is wrong with a final reply, by what its request was for; only a success of SETUP can be a breach
abbrev pub kind_breach : Books → RequestKind → Option (List ℕ) → Reply2 → Option UpCause
kind_breach books (sets_up pair) session reply = if is_success reply.code then grant_breach books pair session reply else None
kind_breach books kind session reply = None

-- the id of the session at the place that a player's open request named
abbrev pub session_asked : List PlayerSession → Option Purpose → Option (List ℕ)
session_asked sessions (Some (purposes.Client asked track)) = (session_where asked.place sessions).id
session_asked sessions pending = None

-- the same of a connection alone
abbrev pub session_of_private : Option Private → Option (List ℕ)
session_of_private private = option_and_then (λ one. session_asked one.client.sessions one.client.pending) private

-- what is wrong with a reply: nobody asked for it, or it grants what it may not
abbrev pub reply_breach : Bases → List HistoryEntry → Reply2 → Option Opened → Option UpCause
reply_breach bases earlier reply None = Some (UnknownReply reply.cseq)
reply_breach bases earlier reply (Some opened) = kind_breach (books_of earlier) opened.kind (session_of_private (private_in bases opened.conn earlier)) reply

-- What is wrong with what the server says: an item can't be taken, a reply is nobody's, or a grant is a wrong one.
abbrev pub heard_breach : Bases → List HistoryEntry → Heard → Option UpCause
heard_breach bases earlier (replies reply) = reply_breach bases earlier reply ((books_of earlier).opened reply.cseq)
heard_breach bases earlier (faults fault) = Some (Framing fault)
heard_breach bases earlier said = None

-- why an event ends the connection to the server
abbrev pub said_breach : Bases → List HistoryEntry → Happening → Option UpCause
said_breach bases earlier (hears shape) = heard_breach bases earlier (heard shape)
said_breach bases earlier (up_ends cause) = Some (cause_of cause)
said_breach bases earlier happening = None

-- a request is due, and all numbers were used
abbrev pub spent : ℕ → Option Outgoing → Option UpCause
spent issued (Some (asks request pair)) = if nat_lt issued LAST_CSEQ_TWO then None else Some CseqSpent
spent issued message = None

-- Why an event ends the connection to the server, by the first thing that is wrong, while it stands.
abbrev pub breach : Bases → List HistoryEntry → Happening → Option UpCause
breach bases earlier happening =
    if is_some (fault_in earlier) then None
    else option_or (said_breach bases earlier happening) (spent (books_of earlier).issued (effect bases earlier happening).message)

-- the answer that is due to the server
abbrev pub heard_answer : Books → Heard → Option (List ℕ)
heard_answer books (requests request) = Some (answer_to request (notice_of books.holder request))
heard_answer books said = None

-- the answer that the server gets to its own request
abbrev pub answer_due : Books → Happening → Option (List ℕ)
answer_due books (hears shape) = heard_answer books (heard shape)
answer_due books happening = None

-- A message as it goes up: a request with a number, and a SETUP with the pair that is free for it; a frame on the pair that
-- its own one stands for.
abbrev pub message_with : ℕ → Option ℕ → (ℕ → ℕ) → Outgoing → UpMessage
message_with number free pairs (asks request named) = Request (text_up number free named request)
message_with number free pairs (carries pair half rest) = Frame (frame_text (2 * pairs pair + half) rest)

-- that of a connection: with the next number, and with the lowest pair that is free
abbrev pub message_up : Books → Books → ℕ → Outgoing → UpMessage
message_up books settled i message = message_with (books.issued + 1) (free_in settled) (books.pair_of i) message

-- what goes up for the connection whose turn it is, in the shared numbers
abbrev pub message_due : Books → Books → Option ℕ → Option Outgoing → Option UpMessage
message_due books settled None message = None
message_due books settled (Some i) message = option_map (message_up books settled i) message

-- what the server is handed: the answer to its request, and the message of the connection whose turn it is
abbrev pub up_due : Bases → List HistoryEntry → Happening → ToUp
up_due bases earlier happening = record {
  answer = answer_due (books_of earlier) happening;
  message = message_due (books_of earlier) (settled_by (books_of earlier) happening) (turn (books_of earlier) happening) (effect bases earlier happening).message;
}

-- An entry follows a history, for given bases, where every connection has then been handed, in all, exactly what the
-- private machine hands out on that connection's own events, and is closed exactly as there; where the server is handed
-- exactly the answer to its request and what the private machine sends up, in the numbers and on the channels of the one
-- connection; and where that connection ends exactly where it must.
pub record Follows (bases : Bases) (earlier : List HistoryEntry) (entry : HistoryEntry) : Type 0 where
  pub sent : (i : ℕ) → sent i (entry ∷ earlier) ≡ hand bases (own bases i (entry ∷ earlier))
  pub shut : (i : ℕ) → shut i (entry ∷ earlier) ≡ shut_alone bases (own bases i (entry ∷ earlier))
  pub spelled : entry.outcome.to_up ≡ (if is_some (fault_in (entry ∷ earlier)) then nothing_up else up_due bases earlier entry.happening)
  pub fault : entry.outcome.fault ≡ breach bases earlier entry.happening
  pub all : is_all entry.outcome.closed ≡ is_some entry.outcome.fault

-- a history of the gateway: each entry follows those before it
abbrev pub IsHistory : Bases → List HistoryEntry → Type 0
IsHistory bases history = IsCoreHistory Follows bases history

-- the bytes for the connection whose turn it is; no bytes are no piece
abbrev pub client_piece : Option ℕ → List ℕ → Option ToClient
client_piece None bytes = None
client_piece (Some i) bytes = if length bytes == 0 then None else Some (record { conn = i; bytes = bytes })

-- the close of one connection, where there is one
abbrev pub one_closed : Option ℕ → Option CloseWhy → Closed
one_closed (Some i) (Some why) = One i why
one_closed turn why = Nobody

-- what an event hands out: the end for all where there is a cause, else what the machine made
abbrev pub outcome_with : Option UpCause → Option ℕ → ToUp → Effect → Outcome
outcome_with (Some cause) turn up made = record { to_client = None; to_up = nothing_up; closed = All; fault = Some cause }
outcome_with None turn up made = record { to_client = client_piece turn made.hand; to_up = up; closed = one_closed turn made.close; fault = None }

-- What an event hands out after a history: nothing after the end of the connection to the server.
abbrev pub next : Bases → List HistoryEntry → Happening → Outcome
next bases earlier happening =
    if is_some (fault_in earlier) then silent
    else outcome_with (breach bases earlier happening) (turn (books_of earlier) happening) (up_due bases earlier happening) (effect bases earlier happening)

-- the history with its next entry
abbrev pub with_next_entry : Bases → List HistoryEntry → Happening → List HistoryEntry
with_next_entry bases history happening = record { happening = happening; outcome = next bases history happening } ∷ history

-- the history of all that happens, the newest first
abbrev pub history_of : Bases → List Happening → List HistoryEntry
history_of bases [] = []
history_of bases (happening ∷ earlier) = with_next_entry bases (history_of bases earlier) happening
