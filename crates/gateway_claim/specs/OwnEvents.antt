-- The books of a history, and the events of each connection in it (this project's own).
use Rattle.std.specs.Prelude.{ℕ, ◌==◌, ◌/◌, ◌%◌, ◌&&◌, not, Bool, false, is_some, is_none, List, [], ◌∷◌, ◌++◌, Option, Some, None, Result, Ok, Err, if◌then◌else◌}
use Rattle.std.specs.Option.{option_map, option_to_list, option_and_then}
use Rattle.rtsp_head.specs.Items.{Shape}
use Rattle.rtsp_uri.specs.declared.base.Bases.{Bases}
use Rattle.session_two.specs.declared.names.Names.{Names}
use Rattle.session_two.specs.declared.names.Names.TheVariants.{Unsaid, This}
use Rattle.translate_down.specs.Replies.{told_by}
use Rattle.client_machine.specs.Events.{PrivateEvent, arrive, answer, note, media, end, slow, up_end}
use Rattle.client_machine.specs.Alone.{private_after, is_empty_list}
use Rattle.client_machine.specs.OpenRequests.{has_setup}
use Rattle.client_machine.specs.UpTexts.{source_said}
use Rattle.gateway_claim.specs.declared.event.UpCause.{UpCause}
use Rattle.gateway_claim.specs.ServerItems.{Heard, replies, requests, frames, faults, heard, HeardNotice, notice_of}
use Rattle.gateway_claim.specs.Books.{RequestKind, kind_of, HeldPair, Books, new_books, lends, Final, final_of, settles, free_in}
use Rattle.gateway_claim.specs.Happenings.{Happening, takes, ends, lags, hears, HistoryEntry, fault_in, entered, shut}

-- the connection that a pair was granted to
abbrev pub owner_of : Option HeldPair → Option ℕ
owner_of held = option_and_then (λ one. if is_some one.session then Some one.conn else None) held

-- whose turn a notify is: that of the connection that has its session
abbrev pub notice_turn : Result HeardNotice ℕ → Option ℕ
notice_turn (Ok notice) = Some notice.conn
notice_turn (Err code) = None

-- whose turn it is when the server says this
abbrev pub heard_turn : Books → Heard → Option ℕ
heard_turn books (replies reply) = option_map (λ opened. opened.conn) (books.opened reply.cseq)
heard_turn books (requests request) = notice_turn (notice_of books.holder request)
heard_turn books (frames channel rest) = owner_of (books.held (channel / 2))
heard_turn books (faults fault) = None

-- Whose event it is: that of the connection whose client sent the item, ended or lagged; of the one that asked for the
-- reply; of the one that has the session of the notify; or of the one that the frame's pair was granted to.
abbrev pub turn : Books → Happening → Option ℕ
turn books (takes conn shape) = Some conn
turn books (ends conn) = Some conn
turn books (lags conn) = Some conn
turn books (hears shape) = heard_turn books (heard shape)
turn books happening = None

-- whether it is this connection's turn
abbrev pub is_turn : ℕ → Option ℕ → Bool
is_turn i None = false
is_turn i (Some conn) = conn == i

-- the final reply that comes, where one does
abbrev pub heard_final : Books → Heard → Option Final
heard_final books (replies reply) = final_of reply (books.opened reply.cseq)
heard_final books said = None

-- the final reply that an event brings, where it is one
abbrev pub final_in : Books → Happening → Option Final
final_in books (hears shape) = heard_final books (heard shape)
final_in books happening = None

-- The books after what happened, and then after the request that went up for it.
abbrev pub settled_by : Books → Happening → Books
settled_by books happening = settles (final_in books happening) books

-- the books with what a request of this kind takes, where one goes up
abbrev pub lends_where : Option ℕ → Option RequestKind → Books → Books
lends_where None kind books = books
lends_where (Some conn) None books = books
lends_where (Some conn) (Some kind) books = lends conn kind books

-- whether the connection whose turn it is has closed
abbrev pub has_shut : Option ℕ → List HistoryEntry → Bool
has_shut None history = false
has_shut (Some conn) history = not (is_empty_list (shut conn history))

-- the books after an entry: settled by its event, and with what its request takes
abbrev pub books_after : Books → List HistoryEntry → HistoryEntry → Books
books_after books earlier entry =
    lends_where (turn books entry.happening)
    (kind_of entry.outcome.to_up.message (free_in (settled_by books entry.happening)) (has_shut (turn books entry.happening) (entry ∷ earlier)))
    (settled_by books entry.happening)

-- the books of a history; from the end of the connection to the server on they stay as they are
abbrev pub books_of : List HistoryEntry → Books
books_of [] = new_books
books_of (entry ∷ earlier) = if is_some (fault_in (entry ∷ earlier)) then books_of earlier else books_after (books_of earlier) earlier entry

-- the request that a notify names, in the row of a connection's own requests; 0 where it is another connection's, or
-- nobody's
abbrev pub own_name : Books → ℕ → Names → Names
own_name books i Unsaid = Unsaid
own_name books i (This number) = This (if is_turn i (books.giver number) then books.own_number number else 0)

-- Whether all pairs are held after the event, and a SETUP is to be treated.
abbrev pub is_full : Books → List Shape → Bool
is_full books waiting = is_none (free_in books) && has_setup waiting

-- a notify, as the event of the connection whose turn it is
abbrev pub notice_event : Books → ℕ → Result HeardNotice ℕ → Option PrivateEvent
notice_event books i (Ok notice) = Some (note notice.id notice.reason (own_name books i notice.names))
notice_event books i (Err code) = None

-- what the server says, as the event of the connection whose turn it is
abbrev pub heard_event : Books → Books → ℕ → List Shape → Heard → Option PrivateEvent
heard_event books settled i waiting (replies reply) = Some (answer (told_by reply) (source_said reply) (is_full settled waiting))
heard_event books settled i waiting (requests request) = notice_event books i (notice_of books.holder request)
heard_event books settled i waiting (frames channel rest) = Some (media (books.own_pair (channel / 2)) (channel % 2) rest)
heard_event books settled i waiting (faults fault) = None

-- the same, by the books before it and those that it settled
abbrev pub event_by : Books → Books → ℕ → List Shape → Happening → Option PrivateEvent
event_by books settled i waiting (takes conn shape) = Some (arrive shape (is_full settled (waiting ++ shape ∷ [])))
event_by books settled i waiting (ends conn) = Some end
event_by books settled i waiting (lags conn) = Some slow
event_by books settled i waiting (hears shape) = heard_event books settled i waiting (heard shape)
event_by books settled i waiting happening = None

-- The event of connection i, whose turn it is, by the requests that wait. No number and no channel of the server's
-- connection is a part of it.
abbrev pub event_of : Books → ℕ → List Shape → Happening → Option PrivateEvent
event_of books i waiting happening = event_by books (settled_by books happening) i waiting happening

-- The events of connection i, from its entering on, the newest first. The end of the server's connection is an event of
-- every connection, and nobody's turn.
abbrev pub own_here : Books → ℕ → List Shape → Option UpCause → Happening → List PrivateEvent
own_here books i waiting (Some cause) happening = up_end ∷ []
own_here books i waiting None happening = if is_turn i (turn books happening) then option_to_list (event_of books i waiting happening) else []

-- the own events with those of one entry more
abbrev pub own_with : ℕ → HistoryEntry → List HistoryEntry → List Shape → List PrivateEvent → List PrivateEvent
own_with i entry earlier waiting events = (if entered i earlier then own_here (books_of earlier) i waiting entry.outcome.fault entry.happening else []) ++ events

-- a connection's own events in a history, newest first
abbrev pub own : Bases → ℕ → List HistoryEntry → List PrivateEvent
own bases i [] = []
own bases i (entry ∷ earlier) = own_with i entry earlier (private_after bases (own bases i earlier)).client.waiting (own bases i earlier)
