-- What the server is handed in a history, in bytes, and what it is meant to read of them (this project's own).
use Rattle.std.specs.Prelude.{ℕ, ◌+◌, ◌*◌, codes, drop, is_some, List, [], ◌∷◌, ◌++◌, Option, Some, None, Result, Ok, Err, unwrap_or, if◌then◌else◌}
use Rattle.std.specs.List.{AllByRecursion}
use Rattle.std.specs.Option.{option_map, option_to_list}
use Rattle.rtsp_head.specs.Spellings.{IsItem}
use Rattle.rtsp_uri.specs.declared.base.Bases.{Bases}
use Rattle.head_two.specs.declared.ask.Ask2.{Ask2}
use Rattle.head_two.specs.Answers.{AnswerParts}
use Rattle.client_machine.specs.Events.{Outgoing, asks, carries}
use Rattle.client_machine.specs.UpTexts.{over_pair}
use Rattle.gateway_claim.specs.declared.event.ToUp.{ToUp}
use Rattle.gateway_claim.specs.declared.event.UpMessage.{UpMessage}
use Rattle.gateway_claim.specs.declared.event.UpMessage.TheVariants.{Request, Frame}
use Rattle.gateway_claim.specs.Books.{Books, free_in}
use Rattle.gateway_claim.specs.ServerItems.{Heard, requests, heard, HeardNotice, notice_of}
use Rattle.gateway_claim.specs.Happenings.{Happening, takes, hears, HistoryEntry, fault_in}
use Rattle.gateway_claim.specs.OwnEvents.{turn, settled_by, books_of}
use Rattle.gateway_claim.specs.Follows.{effect}
use Rattle.upward_law.specs.ServerStream.{ServerRead, reads_answer, reads_request, reads_frame}

-- the bytes of a message
abbrev pub message_bytes : Option UpMessage → List ℕ
message_bytes None = []
message_bytes (Some (Request text)) = text
message_bytes (Some (Frame text)) = text

-- what the server is handed for an entry: an answer stands before a message
abbrev pub bytes_up : ToUp → List ℕ
bytes_up up = unwrap_or up.answer [] ++ message_bytes up.message

-- all that it is handed in a history, the oldest first
abbrev pub stream_up : List HistoryEntry → List ℕ
stream_up [] = []
stream_up (entry ∷ earlier) = stream_up earlier ++ bytes_up entry.outcome.to_up

-- The answer to a request of the server has its number: 200 with the session of a notify that is taken, or else a code.
abbrev pub answer_meant : Ask2 → Result HeardNotice ℕ → AnswerParts
answer_meant request (Ok notice) = record { code = 200; cseq = request.cseq; fields = record { name = codes "Session"; value = notice.id } ∷ [] }
answer_meant request (Err code) = record { code = code; cseq = request.cseq; fields = [] }

-- the answer that is due, by what the server says
abbrev pub heard_due : Books → Heard → List ServerRead
heard_due books (requests request) = reads_answer (answer_meant request (notice_of books.holder request)) ∷ []
heard_due books said = []

-- the answer that is due
abbrev pub answers_due : Books → Happening → List ServerRead
answers_due books (hears shape) = heard_due books (heard shape)
answers_due books happening = []

-- What a connection alone asks, in the numbers of all: its request has the next number, and a SETUP has the lowest pair that
-- is free for its Transport; its frame goes up on the pair that its own one stands for, with all its load.
abbrev pub message_meant : Books → Books → ℕ → Outgoing → ServerRead
message_meant books settled i (asks request named) = reads_request (record { number = books.issued + 1; request = over_pair named (free_in settled) request })
message_meant books settled i (carries pair half rest) = reads_frame (2 * books.pair_of i pair + half) (drop 2 rest)

-- that of the connection whose turn it is
abbrev pub messages_due : Books → Books → Option ℕ → Option Outgoing → List ServerRead
messages_due books settled None message = []
messages_due books settled (Some i) message = option_to_list (option_map (message_meant books settled i) message)

-- what is due for what happens after a history
abbrev pub meant_next : Bases → List HistoryEntry → Happening → List ServerRead
meant_next bases earlier happening =
    answers_due (books_of earlier) happening
    ++ messages_due (books_of earlier) (settled_by (books_of earlier) happening) (turn (books_of earlier) happening) (effect bases earlier happening).message

-- what is due for an entry: nothing where the connection to the server has ended
abbrev pub meant_for : Bases → List HistoryEntry → HistoryEntry → List ServerRead
meant_for bases earlier entry = if is_some (fault_in (entry ∷ earlier)) then [] else meant_next bases earlier entry.happening

-- all that is due in a history, the oldest first
abbrev pub all_meant : Bases → List HistoryEntry → List ServerRead
all_meant bases [] = []
all_meant bases (entry ∷ earlier) = all_meant bases earlier ++ meant_for bases earlier entry

-- What comes of a player is one item (RFC 2326, 4 and 10.12).
abbrev pub IsItemTaken : Happening → Type 0
IsItemTaken (takes conn shape) = IsItem shape.kind shape.bytes shape.head
IsItemTaken happening = Unit {0}

-- so at each entry of a history
abbrev pub AreItemsTaken : List HistoryEntry → Type 0
AreItemsTaken history = AllByRecursion (λ entry. IsItemTaken entry.happening) history
