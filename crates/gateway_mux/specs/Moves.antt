-- One event, by what the multiplexer has before it and after it (this project's own).
use Rattle.std.specs.Prelude.{◌≡◌, ◌≢◌, ℕ, List, ◌∷◌, Option, Some, None}
use Rattle.std.specs.Option.{option_map}
use Rattle.rtsp_uri.specs.declared.base.Bases.{Bases}
use Rattle.head_two.specs.declared.reply.Reply2.{Reply2}
use Rattle.client_slot.specs.Client.{Client}
use Rattle.client_machine.specs.declared.parts.Done.{Done}
use Rattle.client_machine.specs.Events.{Effect, PrivateEvent}
use Rattle.client_machine.specs.Step.{hear, idles, step}
use Rattle.gateway_claim.specs.declared.event.Outcome.{Outcome}
use Rattle.gateway_claim.specs.declared.event.Closed.TheVariants.{Nobody, All}
use Rattle.gateway_claim.specs.declared.event.UpMessage.TheVariants.{Request, Frame}
use Rattle.gateway_claim.specs.declared.event.UpCause.{UpCause}
use Rattle.gateway_claim.specs.declared.event.UpCause.TheVariants.{Framing, UnknownReply}
use Rattle.gateway_claim.specs.Books.{Opened, Books, free_in}
use Rattle.gateway_claim.specs.ServerItems.{Heard, replies, requests, frames, faults, heard}
use Rattle.gateway_claim.specs.Happenings.{Happening, enters, takes, ends, lags, hears, up_ends, cause_of, HistoryEntry, standing, nothing_up}
use Rattle.gateway_claim.specs.OwnEvents.{turn, final_in, settled_by, lends_where}
use Rattle.gateway_claim.specs.Follows.{kind_breach, spent, answer_due, client_piece, one_closed, next}
use Rattle.gateway_claim.specs.Turns.{raw_event, number_heard, kind_gone}
use Rattle.gateway_mux.specs.Pictures.{Picture, bare_held, books_in, IsPictureOf}
use Rattle.gateway_mux.specs.Turn.{named_by_client}

-- What is wrong with what the server says.
abbrev pub wrong_reply : Picture → Reply2 → Option Opened → Option UpCause
wrong_reply one reply None = Some (UnknownReply reply.cseq)
wrong_reply one reply (Some opened) = kind_breach (books_in one) opened.kind (named_by_client (one.clients opened.conn)) reply

-- what is wrong with what the server says
abbrev pub wrong_heard : Picture → Heard → Option UpCause
wrong_heard one (replies reply) = wrong_reply one reply ((books_in one).opened reply.cseq)
wrong_heard one (requests request) = None
wrong_heard one (frames channel rest) = None
wrong_heard one (faults fault) = Some (Framing fault)

-- why an event ends the connection to the server
abbrev pub wrong_in : Picture → Happening → Option UpCause
wrong_in one (enters conn) = None
wrong_in one (takes conn shape) = None
wrong_in one (ends conn) = None
wrong_in one (lags conn) = None
wrong_in one (hears shape) = wrong_heard one (heard shape)
wrong_in one (up_ends cause) = Some (cause_of cause)

-- the step of a connection that entered
abbrev pub step_in : Bases → Picture → Happening → Client → PrivateEvent → Effect
step_in bases one happening client raw = step bases (number_heard happening) (free_in (settled_by (books_in one) happening)) client raw

-- The turn of a connection that entered, with the event that comes to it, and nothing wrong.
pub record TakesTurn (bases : Bases) (one : Picture) (happening : Happening) (i : ℕ) (client : Client) (raw : PrivateEvent) : Type 0 where
  pub turns : turn (books_in one) happening ≡ Some i
  pub here : one.clients i ≡ Some client
  pub is_raw : raw_event (books_in one) happening ≡ Some raw
  pub said : wrong_in one happening ≡ None
  pub left : spent one.issued (step_in bases one happening client raw).message ≡ None

-- the books after the step of a connection
abbrev pub books_stepped : Picture → Happening → ℕ → Effect → Books
books_stepped one happening i effect = lends_where (Some i) (kind_gone effect.message effect.client) (settled_by (books_in one) happening)

-- What is after it: the connection is what the step leaves, the others are as before, and the books are those.
pub record IsAfterStep (one after : Picture) (happening : Happening) (i : ℕ) (effect : Effect) : Type 0 where
  pub is_client : after.clients i ≡ Some effect.client
  pub others : (j : ℕ) → j ≢ i → after.clients j ≡ one.clients j
  pub asker : (number : ℕ) → after.asker number ≡ option_map (λ opened. opened.conn) ((books_stepped one happening i effect).opened number)
  pub held : (pair : ℕ) → after.held pair ≡ option_map (bare_held pair) ((books_stepped one happening i effect).held pair)
  pub holder : (id : List ℕ) → after.holder id ≡ (books_stepped one happening i effect).holder id
  pub issued : after.issued ≡ (books_stepped one happening i effect).issued

-- what the multiplexer has after the turn of a connection
abbrev pub IsAfterTurn : Bases → Picture → Picture → Happening → ℕ → Client → PrivateEvent → Type 0
IsAfterTurn bases one after happening i client raw = IsAfterStep one after happening i (step_in bases one happening client raw)

-- A connection that entered hears nothing in an event.
pub record HearsNothing (bases : Bases) (one : Picture) (happening : Happening) (client : Client) : Type 0 where
  pub raw : PrivateEvent
  pub is_raw : raw_event (books_in one) happening ≡ Some raw
  pub idle : hear bases (number_heard happening) client raw ≡ idles client

-- the connection hears nothing, where it is there
abbrev pub IsIdleAt : Bases → Picture → Happening → Option Client → Type 0
IsIdleAt bases one happening None = Unit {0}
IsIdleAt bases one happening (Some client) = HearsNothing bases one happening client

-- nobody hears anything of the event
abbrev pub IsIdleTurn : Bases → Picture → Happening → Option ℕ → Type 0
IsIdleTurn bases one happening None = Unit {0}
IsIdleTurn bases one happening (Some i) = IsIdleAt bases one happening (one.clients i)

-- Nobody's turn comes, or nothing comes of it, and the server is due this answer.
pub record IsIdle (bases : Bases) (one : Picture) (happening : Happening) (answer : Option (List ℕ)) : Type 0 where
  pub answers : answer ≡ answer_due (books_in one) happening
  pub said : wrong_in one happening ≡ None
  pub settles : final_in (books_in one) happening ≡ None
  pub idle : IsIdleTurn bases one happening (turn (books_in one) happening)

-- What the turn of a connection hands out, after an answer.
abbrev pub handed_by : ℕ → Option (List ℕ) → Done → Outcome
handed_by conn answer done = record {
  to_client = client_piece (Some conn) done.hand;
  to_up = record { answer = answer; message = option_map Request done.request };
  closed = one_closed (Some conn) done.close;
  fault = None;
}

-- The answer alone is handed out.
abbrev pub answering : Option (List ℕ) → Outcome
answering answer = record { to_client = None; to_up = record { answer = answer; message = None }; closed = Nobody; fault = None }

-- a frame alone, for the server or for the client of a connection
abbrev pub risen_by : List ℕ → Outcome
risen_by frame = record { to_client = None; to_up = record { answer = None; message = Some (Frame frame) }; closed = Nobody; fault = None }

-- a frame for one player, and nothing else
abbrev pub fallen_by : ℕ → List ℕ → Outcome
fallen_by conn frame = record { to_client = Some (record { conn = conn; bytes = frame }); to_up = nothing_up; closed = Nobody; fault = None }

-- The connection to the server ends, and with it all connections.
abbrev pub ended_by : UpCause → Outcome
ended_by cause = record { to_client = None; to_up = nothing_up; closed = All; fault = Some cause }

-- The connection to the server ends: something is wrong with what the server says, or a request is due and no number is
-- left.
pub record IsSpentAt (bases : Bases) (one : Picture) (happening : Happening) (cause : UpCause) : Type 0 where
  pub i : ℕ
  pub client : Client
  pub raw : PrivateEvent
  pub turns : turn (books_in one) happening ≡ Some i
  pub here : one.clients i ≡ Some client
  pub is_raw : raw_event (books_in one) happening ≡ Some raw
  pub said : wrong_in one happening ≡ None
  pub spends : spent one.issued (step_in bases one happening client raw).message ≡ Some cause

-- an end for what is wrong, or since no number is left
abbrev pub IsEndAt : Bases → Picture → Happening → Option UpCause → UpCause → Type 0
IsEndAt bases one happening (Some wrong) cause = wrong ≡ cause
IsEndAt bases one happening None cause = IsSpentAt bases one happening cause

-- What an event hands out is the next entry, whichever history it is, and afterwards what the multiplexer has is that of
-- the longer one, up to the end of the connection to the server.
pub record IsNext (bases : Bases) (after : Picture) (history : List HistoryEntry) (happening : Happening) (outcome : Outcome) : Type 0 where
  pub is_next : outcome ≡ next bases history happening
  pub is_after : IsPictureOf bases after (standing (record { happening = happening; outcome = outcome } ∷ history))

-- what was handed out is the next entry of every history that the multiplexer stood for
abbrev pub IsCommitted : Bases → Picture → Picture → Happening → Outcome → Type 0
IsCommitted bases one after happening outcome = (T : List HistoryEntry) → IsPictureOf bases one T → IsNext bases after T happening outcome
