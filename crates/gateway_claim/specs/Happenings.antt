-- What can happen, the entries of a history, and what of them takes memory, is short, or is told (this project's own).
use Rattle.std.specs.Prelude.{ℕ, Bool, true, false, ◌||◌, ◌&&◌, ◌==◌, is_some, is_none, List, [], ◌∷◌, ◌++◌, Option, Some, None, if◌then◌else◌, ◌+◌, ◌^◌, ◌<◌, length, IfSome}
use Rattle.std.specs.Option.{option_or, option_map_or}
use Rattle.rtsp_head.specs.Items.{Shape}
use Rattle.rtsp_head.specs.Shapes.{shape_of}
use Rattle.client_machine.specs.declared.why.CloseWhy.{CloseWhy}
use Rattle.client_machine.specs.declared.why.CloseWhy.TheVariants.{Upstream}
use Rattle.client_machine.specs.Alone.{is_empty_list}
use Rattle.gateway_claim.specs.declared.event.Closed.{Closed}
use Rattle.gateway_claim.specs.declared.event.Closed.TheVariants.{Nobody, One, All}
use Rattle.gateway_claim.specs.declared.event.ToClient.{ToClient}
use Rattle.gateway_claim.specs.declared.event.ToUp.{ToUp}
use Rattle.gateway_claim.specs.declared.event.UpCause.{UpCause}
use Rattle.gateway_claim.specs.declared.event.UpCause.TheVariants as causes
use Rattle.gate_transcript.specs.declared.entry.UpWhy.{UpWhy}
use Rattle.gate_transcript.specs.declared.entry.UpWhy.TheVariants as whys
use Rattle.gateway_claim.specs.declared.event.Outcome.{Outcome}
use Rattle.gateway_claim.specs.declared.event.Event.{Event}
use Rattle.gateway_claim.specs.declared.event.Event.TheVariants.{Client, Up, End, Slow, UpEnd}
use Rattle.client_machine.specs.declared.why.CloseWhy.TheVariants as closings
use Rattle.gateway_claim.specs.declared.closes.TheConstants.{END_CLOSE, BAD_ITEM_CLOSE, SLOW_CLOSE, UPSTREAM_CLOSE}
use Rattle.rtsp_head.specs.declared.item.ItemKind.{ItemKind}
use Rattle.rtsp_head.specs.declared.item.ItemKind.TheVariants as kinds
use Rattle.gateway_claim.specs.declared.event.UpMessage.{UpMessage}
use Rattle.gateway_claim.specs.declared.event.UpMessage.TheVariants.{Request, Frame}

-- a connection enters; an item of its client comes; its client ends; its client is too slow; an item of the server comes;
-- or the connection to the server ends
pub data Happening : Type 0 where
  enters : (conn : ℕ) → Happening
  takes : (conn : ℕ) → (shape : Shape) → Happening
  ends : (conn : ℕ) → Happening
  lags : (conn : ℕ) → Happening
  hears : (shape : Shape) → Happening
  up_ends : (cause : UpWhy) → Happening

-- an event as a history has it
abbrev pub happening_of : Event → Happening
happening_of (Client conn item) = takes conn (shape_of item)
happening_of (Up item) = hears (shape_of item)
happening_of (End conn) = ends conn
happening_of (Slow conn) = lags conn
happening_of (UpEnd cause) = up_ends cause

-- why the connection to the server ended, where no item is the cause
abbrev pub cause_of : UpWhy → UpCause
cause_of whys.Ended = causes.Ended
cause_of whys.ReadFault = causes.ReadFault
cause_of whys.WriteFault = causes.WriteFault
cause_of whys.UpFull = causes.UpFull

-- what happened, and all that was handed out for it
pub record HistoryEntry : Type 0 where
  pub happening : Happening
  pub outcome : Outcome

-- what happened in a history, the oldest first
abbrev pub happened : List HistoryEntry → List Happening
happened [] = []
happened (entry ∷ earlier) = happened earlier ++ entry.happening ∷ []

-- why the connection to the server ended, where it did
abbrev pub fault_in : List HistoryEntry → Option UpCause
fault_in [] = None
fault_in (entry ∷ earlier) = option_or (fault_in earlier) entry.outcome.fault

-- the entries before the one that ended the connection to the server
abbrev pub standing : List HistoryEntry → List HistoryEntry
standing [] = []
standing (entry ∷ earlier) = if is_some (fault_in (entry ∷ earlier)) then standing earlier else entry ∷ earlier

-- whether this connection enters
abbrev pub enters_here : ℕ → Happening → Bool
enters_here i (enters conn) = conn == i
enters_here i happening = false

-- Whether connection i takes part: it entered while the connection to the server stood.
abbrev pub entered : ℕ → List HistoryEntry → Bool
entered i [] = false
entered i (entry ∷ earlier) = (enters_here i entry.happening && is_none (fault_in earlier)) || entered i earlier

-- what an outcome hands to connection i
abbrev pub pieces_to : ℕ → Option ToClient → List (List ℕ)
pieces_to i None = []
pieces_to i (Some piece) = if piece.conn == i then piece.bytes ∷ [] else []

-- what connection i was handed in a history, the newest first
abbrev pub sent : ℕ → List HistoryEntry → List (List ℕ)
sent i [] = []
sent i (entry ∷ earlier) = pieces_to i entry.outcome.to_client ++ sent i earlier

-- How an outcome closes connection i, by whether it was alive.
abbrev pub closes_of : ℕ → Bool → Closed → List CloseWhy
closes_of i alive Nobody = []
closes_of i alive (One conn why) = if conn == i then why ∷ [] else []
closes_of i alive All = if alive then Upstream ∷ [] else []

-- whether all connections that were alive are closed
abbrev pub is_all : Closed → Bool
is_all All = true
is_all closed = false

-- how connection i was closed in a history, the newest first
abbrev pub shut : ℕ → List HistoryEntry → List CloseWhy
shut i [] = []
shut i (entry ∷ earlier) = closes_of i (entered i earlier && is_empty_list (shut i earlier)) entry.outcome.closed ++ shut i earlier

-- whether connection i is alive: it entered, and was not closed
abbrev pub is_alive : ℕ → List HistoryEntry → Bool
is_alive i earlier = entered i earlier && is_empty_list (shut i earlier)

-- the entry of an event, and that of an entering, which hands out nothing
abbrev pub entry_of : Event → Outcome → HistoryEntry
entry_of event outcome = record { happening = happening_of event; outcome = outcome }

-- nothing for the server
abbrev pub nothing_up : ToUp
nothing_up = record { answer = None; message = None }

-- an outcome that hands out nothing
abbrev pub silent : Outcome
silent = record { to_client = None; to_up = nothing_up; closed = Nobody; fault = None }

-- the entry of a connection that enters
abbrev pub entering : ℕ → HistoryEntry
entering conn = record { happening = enters conn; outcome = silent }

-- the byte that tells why a connection was closed
abbrev pub close_byte : CloseWhy → ℕ
close_byte closings.Ended = END_CLOSE
close_byte closings.BadItem = BAD_ITEM_CLOSE
close_byte closings.Slow = SLOW_CLOSE
close_byte closings.Upstream = UPSTREAM_CLOSE

-- whether an item is a request
abbrev pub is_client_request : ItemKind → Bool
is_client_request kinds.Request = true
is_client_request kind = false

-- whether an item has a message's head
abbrev pub is_message : ItemKind → Bool
is_message kinds.Request = true
is_message kinds.Response = true
is_message kind = false

-- Whether an event may need memory: a request of a client, or a message of the server.
abbrev pub needs_memory : Event → Bool
needs_memory (Client conn item) = is_client_request item.kind
needs_memory (Up item) = is_message item.kind
needs_memory event = false

-- the length of what is handed out, where there is some
abbrev pub piece_length : Option (List ℕ) → ℕ
piece_length piece = option_map_or length piece 0

-- the length of what goes up, where there is some
abbrev pub message_length : Option UpMessage → ℕ
message_length None = 0
message_length (Some (Request text)) = length text
message_length (Some (Frame text)) = length text

-- what the server is handed, in bytes
abbrev pub up_length : ToUp → ℕ
up_length up = piece_length up.answer + message_length up.message

-- An answer, with a request behind it, fits into 32 bits.
abbrev pub IsShortAnswer : Option (List ℕ) → Type 0
IsShortAnswer answer = piece_length answer < 2 ^ 31

-- The lengths of what a client is handed, and of all that the server is handed, fit into 32 bits.
pub record IsShort (outcome : Outcome) : Type 0 where
  pub client : IfSome outcome.to_client (λ piece. length piece.bytes < 2 ^ 32)
  pub up : up_length outcome.to_up < 2 ^ 32
