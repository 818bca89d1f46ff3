-- What the entries of a transcript tell, as what happened to the gateway (this project's own).
use Rattle.std.specs.Prelude.{ℕ, Bool, true, false, ◌==◌, List, [], ◌∷◌, ◌++◌, length, drop, map, Option, Some, None, if◌then◌else◌}
use Rattle.rtsp_head.specs.Items.{Shape, items_of}
use Rattle.gateway_claim.specs.Happenings.{Happening, enters, takes, ends, lags, hears, up_ends}
use Rattle.gate_transcript.specs.declared.entry.UpWhy.{UpWhy}
use Rattle.gate_transcript.specs.declared.entry.Entry.{Entry}
use Rattle.gate_transcript.specs.declared.entry.EntryKind.{EntryKind}
use Rattle.gate_transcript.specs.declared.entry.EntryKind.TheVariants.{Enter, Client, Upstream, End, Slow, UpEnd}
use Rattle.gate_transcript.specs.Bodies.{end_reason_in}
use Rattle.gateway_replay.specs.declared.streams.Speaker.{Speaker}
use Rattle.gateway_replay.specs.declared.streams.Speaker.TheVariants as speaker

-- Whether an entry of this kind and connection has bytes of a speaker: the client of a connection, which may have the
-- number 0, or the server.
abbrev pub speaks : Speaker → EntryKind → ℕ → Bool
speaks (speaker.Client i) Enter conn = false
speaks (speaker.Client i) Client conn = conn == i
speaks (speaker.Client i) Upstream conn = false
speaks (speaker.Client i) End conn = false
speaks (speaker.Client i) Slow conn = false
speaks (speaker.Client i) UpEnd conn = false
speaks speaker.Server Enter conn = false
speaks speaker.Server Client conn = false
speaks speaker.Server Upstream conn = true
speaks speaker.Server End conn = false
speaks speaker.Server Slow conn = false
speaks speaker.Server UpEnd conn = false

-- the bytes of a speaker in an entry, and in all of them; the newest entry is first
abbrev pub bytes_here : Speaker → Entry → List ℕ
bytes_here who entry = if speaks who entry.kind entry.conn then entry.body else []

-- the bytes of one speaker, from all its entries
abbrev pub stream_of : Speaker → List Entry → List ℕ
stream_of who [] = []
stream_of who (entry ∷ earlier) = stream_of who earlier ++ bytes_here who entry

-- the items of a stream with this piece that were no items before it
abbrev pub new_items : List ℕ → List ℕ → List Shape
new_items stream piece = drop (length (items_of stream)) (items_of (stream ++ piece))

-- what an item of a speaker is
abbrev pub said_by : Speaker → Shape → Happening
said_by (speaker.Client i) shape = takes i shape
said_by speaker.Server shape = hears shape

-- what a piece of a speaker's bytes tells: the items that are whole now
abbrev pub events_with : Speaker → List ℕ → List Entry → List Happening
events_with who piece earlier = map (said_by who) (new_items (stream_of who earlier) piece)

-- the end of that connection, where the body has a reason
abbrev pub up_end_told : Option UpWhy → List Happening
up_end_told None = []
up_end_told (Some reason) = up_ends reason ∷ []

-- What an entry tells: bytes are their items, and each other entry is one event.
abbrev pub events_by : EntryKind → Entry → List Entry → List Happening
events_by Enter entry earlier = enters entry.conn ∷ []
events_by Client entry earlier = events_with (speaker.Client entry.conn) entry.body earlier
events_by Upstream entry earlier = events_with speaker.Server entry.body earlier
events_by End entry earlier = ends entry.conn ∷ []
events_by Slow entry earlier = lags entry.conn ∷ []
events_by UpEnd entry earlier = up_end_told (end_reason_in entry.body)

-- all that the entries tell, the oldest first; how their bytes were cut is gone from it
abbrev pub events_of : List Entry → List Happening
events_of [] = []
events_of (entry ∷ earlier) = events_of earlier ++ events_by entry.kind entry earlier
