-- What changes a connection, one change a definition. What it does to a session is in SessionChanges.
use Rattle.std.specs.Prelude.{ℕ, Bool, true, false, ◌&&◌, List, [], ◌++◌, drop, map, Option, Some, None, is_some, if◌then◌else◌}
use Rattle.std.specs.Option.{option_or, option_and_then}
use Rattle.rtsp_head.specs.Items.{Shape}
use Rattle.rtsp_small.specs.declared.method.Method.{Method}
use Rattle.rtsp_small.specs.declared.method.Method.TheVariants as methods
use Rattle.session_one.specs.declared.parts.Asked.{Asked}
use Rattle.session_one.specs.declared.parts.Track.{Track}
use Rattle.session_one.specs.declared.parts.Play.{Play}
use Rattle.session_one.specs.Table.{same_method, is_success}
use Rattle.session_two.specs.declared.names.Names.{Names}
use Rattle.client_slot.specs.declared.purpose.Purpose.{Purpose}
use Rattle.client_slot.specs.declared.purpose.Purpose.TheVariants.{Client as client_s, Released, Closing}
use Rattle.client_slot.specs.Session.{PlayerSession}
use Rattle.client_slot.specs.SessionChanges.{when_ended, when_next, when_queued, when_unqueued}
use Rattle.client_slot.specs.SessionTurns.{reply_turn, brought_by, turned}
use Rattle.client_slot.specs.Places.{changed_at, changed_where, first_place, has_due, queued_at, empty_place, filled_place}
use Rattle.client_slot.specs.Client.{Client}

-- A request waits while another one of its player is open (this project's own).
abbrev pub after_waiting : List Shape → Client → Client
after_waiting shapes client = record client { waiting = client.waiting ++ shapes }

-- The oldest request that waited is treated.
abbrev pub after_next : Client → Client
after_next client = record client { waiting = drop 1 client.waiting }

-- The player's request goes up, and is open.
abbrev pub after_asking : Asked → Option Track → Client → Client
after_asking asked track client = record client { pending = Some (client_s asked track) }

-- The player's PLAY is kept until what plays has ended (RFC 2326, 10.5).
abbrev pub after_queueing : Play → Client → Client
after_queueing play client = record client { sessions = changed_where play.place (when_queued play) client.sessions }

-- The place whose PLAY is due: the lowest with one that waits and none that runs, where no request is open.
abbrev pub due_place_at : Option Purpose → List PlayerSession → Option ℕ
due_place_at None sessions = first_place has_due 0 sessions
due_place_at (Some purpose) sessions = None

-- the place whose PLAY is due
abbrev pub due_place : Client → Option ℕ
due_place client = due_place_at client.pending client.sessions

-- the PLAY that is due
abbrev pub due_play : Client → Option Play
due_play client = option_and_then (λ place. queued_at place client.sessions) (due_place client)

-- A PLAY that is due goes up for the session at a place, and is open.
abbrev pub release_with : Option Play → ℕ → Client → Client
release_with None place client = client
release_with (Some play) place client = record client { sessions = changed_at place when_next client.sessions; pending = Some (Released (record play { place = Some place })) }

-- the PLAY that is due at a place goes up
abbrev pub release_at : Option ℕ → Client → Client
release_at None client = client
release_at (Some place) client = release_with (queued_at place client.sessions) place client

-- the PLAY that is due goes up
abbrev pub after_release : Client → Client
after_release client = release_at (due_place client) client

-- The place of the session that a request is for. A SETUP that names none is for the lowest empty place.
abbrev pub purpose_place : Purpose → List PlayerSession → Option ℕ
purpose_place (client_s asked track) sessions = option_or asked.place (if same_method asked.method methods.Setup then empty_place sessions else None)
purpose_place (Released play) sessions = play.place
purpose_place (Closing place) sessions = Some place

-- What the final reply to the open request does to the session that it is for.
abbrev pub session_after : Purpose → ℕ → ℕ → Option (List ℕ) → Option (List ℕ) → PlayerSession → PlayerSession
session_after purpose number code described id session = turned (reply_turn purpose code (is_some id) session.state) (brought_by purpose number described id) session

-- A SETUP that names no session changes one only where the server made it.
abbrev pub settled_place : Purpose → Option (List ℕ) → List PlayerSession → Option ℕ
settled_place (client_s asked track) id sessions = option_or asked.place (if same_method asked.method methods.Setup && is_some id then empty_place sessions else None)
settled_place (Released play) id sessions = play.place
settled_place (Closing place) id sessions = Some place

-- the sessions after that reply
abbrev pub sessions_after : Purpose → ℕ → ℕ → Option (List ℕ) → Option (List ℕ) → List PlayerSession → List PlayerSession
sessions_after purpose number code described id sessions = changed_where (settled_place purpose id sessions) (session_after purpose number code described id) sessions

-- The URI that was described, after the success of a player's request. It is forgotten once no session is left.
abbrev pub described_by : Method → List ℕ → List PlayerSession → Option (List ℕ) → Option (List ℕ)
described_by methods.Options uri sessions described = described
described_by methods.Describe uri sessions described = Some uri
described_by methods.Setup uri sessions described = described
described_by methods.Play uri sessions described = described
described_by methods.Pause uri sessions described = described
described_by methods.Teardown uri sessions described = if is_some (filled_place sessions) then described else None
described_by methods.GetParameter uri sessions described = described
described_by methods.SetParameter uri sessions described = described

-- the URI that was described, after the final reply to the open request, by the sessions then
abbrev pub described_after : Purpose → ℕ → List PlayerSession → Option (List ℕ) → Option (List ℕ)
described_after (client_s asked track) code sessions described = if is_success code then described_by asked.method asked.uri sessions described else described
described_after (Released play) code sessions described = described
described_after (Closing place) code sessions described = described

-- A final reply settles the open request, where one is open. None is open then.
abbrev pub settle_with : Option Purpose → ℕ → ℕ → Option (List ℕ) → Client → Client
settle_with None number code id client = client
settle_with (Some purpose) number code id client =
    let sessions = sessions_after purpose number code client.described id client.sessions in
    record client { sessions = sessions; described = described_after purpose code sessions client.described; pending = None }

-- a final reply settles the open request
abbrev pub after_reply : ℕ → ℕ → Option (List ℕ) → Client → Client
after_reply number code id client = settle_with client.pending number code id client

-- The end of what plays was told of the session at a place (RFC 7826, 13.5.1).
abbrev pub after_note : Option ℕ → Names → Client → Client
after_note place names client = record client { sessions = changed_where place (when_ended names) client.sessions }

-- The connection closes: nothing of it waits any longer. Its open request stays open, and its sessions stay until they are
-- torn down (this project's own).
abbrev pub after_close : Client → Client
after_close client = record client { alive = false; sessions = map when_unqueued client.sessions; waiting = [] }

-- The place whose closing TEARDOWN goes up: the lowest with a session, of a connection that closed and has no open request.
abbrev pub closing_place_at : Bool → Option Purpose → List PlayerSession → Option ℕ
closing_place_at true pending sessions = None
closing_place_at false (Some purpose) sessions = None
closing_place_at false None sessions = filled_place sessions

-- the place whose closing TEARDOWN is due
abbrev pub closing_place : Client → Option ℕ
closing_place client = closing_place_at client.alive client.pending client.sessions

-- The closing TEARDOWN goes up, and is open.
abbrev pub close_at : Option ℕ → Client → Client
close_at None client = client
close_at (Some place) client = record client { pending = Some (Closing place) }

-- the closing TEARDOWN goes up
abbrev pub after_closing : Client → Client
after_closing client = close_at (closing_place client) client
