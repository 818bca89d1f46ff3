-- The turn of a connection, in the numbers of requests and of pairs of channels that the server's one connection has for all
-- players, by the books (this project's own).
use Rattle.std.specs.Prelude.{ℕ, ◌+◌, ◌/◌, ◌%◌, false, List, Option, Some, None, Result, Ok, Err, ◌≡◌, ◌≢◌, true}
use Rattle.std.specs.Option.{option_map}
use Rattle.rtsp_uri.specs.declared.base.Bases.{Bases}
use Rattle.translate_down.specs.Replies.{told_by}
use Rattle.client_slot.specs.declared.purpose.Purpose.{Purpose}
use Rattle.client_slot.specs.Session.{PlayerSession}
use Rattle.client_slot.specs.Client.{Client}
use Rattle.client_slot.specs.Renumber.{client_under}
use Rattle.client_machine.specs.Events.{Outgoing, asks, Effect, PrivateEvent, arrive, answer, note, media, end, slow}
use Rattle.client_machine.specs.UpTexts.{source_said}
use Rattle.gateway_claim.specs.declared.event.UpMessage.{UpMessage}
use Rattle.gateway_claim.specs.ServerItems.{Heard, replies, requests, frames, faults, heard, HeardNotice, notice_of}
use Rattle.gateway_claim.specs.Books.{Books, RequestKind, plain, free_in}
use Rattle.gateway_claim.specs.Happenings.{Happening, takes, ends, lags, hears, HistoryEntry, fault_in, entered}
use Rattle.gateway_claim.specs.BooksAndSlots.{kind_for}
use Rattle.gateway_claim.specs.OwnEvents.{settled_by, books_of, turn, lends_where, event_of, own}
use Rattle.gateway_claim.specs.declared.event.Outcome.{Outcome}
use Rattle.gateway_claim.specs.Follows.{client_piece, one_closed, next, with_next_entry, private_in, answer_due, said_breach, spent, IsHistory, message_with}
use Rattle.client_machine.specs.Alone.{private_after}
use Rattle.client_machine.specs.Step.{step}

-- a connection by its books
abbrev pub shared : Books → ℕ → Client → Client
shared books i client = client_under (books.number_of i) (books.pair_of i) client

-- connection i in a history, where it entered
abbrev pub shared_in : Bases → ℕ → List HistoryEntry → Option Client
shared_in bases i history = option_map (λ private. shared (books_of history) i private.client) (private_in bases i history)

-- What happens to the connection whose turn it is, in the numbers of the one connection. A step does not look at the
-- mark.
abbrev pub notice_raw : Result HeardNotice ℕ → Option PrivateEvent
notice_raw (Ok notice) = Some (note notice.id notice.reason notice.names)
notice_raw (Err code) = None

-- what the server says, as an event in the shared numbers
abbrev pub heard_raw : Books → Heard → Option PrivateEvent
heard_raw books (replies reply) = Some (answer (told_by reply) (source_said reply) false)
heard_raw books (requests request) = notice_raw (notice_of books.holder request)
heard_raw books (frames channel rest) = Some (media (channel / 2) (channel % 2) rest)
heard_raw books (faults fault) = None

-- an event in the shared numbers
abbrev pub raw_event : Books → Happening → Option PrivateEvent
raw_event books (takes conn shape) = Some (arrive shape false)
raw_event books (ends conn) = Some end
raw_event books (lags conn) = Some slow
raw_event books (hears shape) = heard_raw books (heard shape)
raw_event books happening = None

-- a message of a connection in those numbers, as it goes up
abbrev pub raw_up : ℕ → Option ℕ → Outgoing → UpMessage
raw_up number free message = message_with number free (λ pair. pair) message

-- the number of the open request that a reply names
abbrev pub heard_number : Heard → ℕ
heard_number (replies reply) = reply.cseq
heard_number said = 0

-- the number that the server names in what it says; else 0
abbrev pub number_heard : Happening → ℕ
number_heard (hears shape) = heard_number (heard shape)
number_heard happening = 0

-- the kind of a connection's open request
abbrev pub kind_pending : List PlayerSession → Option Purpose → RequestKind
kind_pending sessions None = plain
kind_pending sessions (Some purpose) = kind_for (λ pair. pair) sessions purpose

-- the kind of the request that goes up, where one does, by what is open then
abbrev pub kind_gone : Option Outgoing → Client → Option RequestKind
kind_gone (Some (asks request named)) client = Some (kind_pending client.sessions client.pending)
kind_gone message client = None

-- what the step of a connection hands out, by its turn
abbrev pub outcome_by : Books → Happening → ℕ → Effect → Outcome
outcome_by books happening i effect = record {
  to_client = client_piece (Some i) effect.hand;
  to_up = record { answer = answer_due books happening; message = option_map (raw_up (books.issued + 1) (free_in (settled_by books happening))) effect.message };
  closed = one_closed (Some i) effect.close;
  fault = None;
}

-- connection i alone, in a history
abbrev pub client_alone : Bases → List HistoryEntry → ℕ → Client
client_alone bases history i = (private_after bases (own bases i history)).client

-- The step of a connection in the numbers and on the channels of all players.
abbrev pub step_by_books : Bases → List HistoryEntry → ℕ → Happening → PrivateEvent → Effect
step_by_books bases history i happening raw =
    step bases (number_heard happening) (free_in (settled_by (books_of history) happening)) (shared (books_of history) i (client_alone bases history i)) raw

-- It is the turn of a connection that entered: an event comes, which has a form in its own numbers and one in those of all;
-- the connection to the server stands; nothing is wrong with what was said; and a number is left.
pub record IsItsTurn (bases : Bases) (history : List HistoryEntry) (i : ℕ) (happening : Happening) (own_form raw : PrivateEvent) : Type 0 where
  pub is_history : IsHistory bases history
  pub standing : fault_in history ≡ None
  pub entered : entered i history ≡ true
  pub turns : turn (books_of history) happening ≡ Some i
  pub is_own : event_of (books_of history) i (client_alone bases history i).waiting happening ≡ Some own_form
  pub is_raw : raw_event (books_of history) happening ≡ Some raw
  pub said : said_breach bases history happening ≡ None
  pub left : spent (books_of history).issued (step_by_books bases history i happening raw).message ≡ None

-- The next entry hands out what that step hands out; the connection is then what the step leaves, by the books; every
-- other connection is as it was; and the books have what the reply settled and the request that went up.
pub record IsSteppedBy (bases : Bases) (history : List HistoryEntry) (i : ℕ) (happening : Happening) (raw : PrivateEvent) : Type 0 where
  pub outcome : next bases history happening ≡ outcome_by (books_of history) happening i (step_by_books bases history i happening raw)
  pub client : shared (books_of (with_next_entry bases history happening)) i (client_alone bases (with_next_entry bases history happening) i) ≡ (step_by_books bases history i happening raw).client
  pub others : (j : ℕ) → j ≢ i → shared (books_of (with_next_entry bases history happening)) j (client_alone bases (with_next_entry bases history happening) j) ≡ shared (books_of history) j (client_alone bases history j)
  pub books : books_of (with_next_entry bases history happening)
      ≡ lends_where (Some i) (kind_gone (step_by_books bases history i happening raw).message (step_by_books bases history i happening raw).client) (settled_by (books_of history) happening)
