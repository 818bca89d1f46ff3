-- One step of a connection while the connection to the server stands (RFC 2326, A; the rest is this project's own): the
-- event is heard, and then what may go up does: where no request of it is open, the TEARDOWN of one that closed, the PLAY
-- that is due, or the first of the requests that wait. The numbers are arguments: a connection alone counts its own, and on
-- the one connection to the server they are those of all players.
use Rattle.std.specs.Prelude.{◌≡◌, ℕ, Bool, true, false, List, [], ◌∷◌, Option, Some, None, is_none, option_map, nat_lt, codes, if◌then◌else◌}
use Rattle.std.specs.Option.{option_and_then}
use Rattle.rtsp_transport.specs.declared.channels.Pair.{Pair}
use Rattle.rtsp_uri.specs.declared.base.Bases.{Bases}
use Rattle.session_one.specs.declared.parts.Play.{Play}
use Rattle.session_one.specs.declared.parts.Track.{Track}
use Rattle.translate_up.specs.QueuedPlay.{play_up}
use Rattle.client_slot.specs.declared.purpose.Purpose.{Purpose}
use Rattle.client_slot.specs.Client.{Client}
use Rattle.client_slot.specs.Places.{session_at, queued_at, session_where, place_with, tracks_of}
use Rattle.client_slot.specs.Changes.{due_place, closing_place, after_release, after_queueing, after_asking, after_closing, purpose_place, after_waiting, after_reply, after_note, after_close}
use Rattle.client_slot.specs.ClosingRequest.{closing_request}
use Rattle.client_machine.specs.Events.{asks, Effect, stays, sends, carries, hands, PrivateEvent, arrive, answer, note, media, end, slow, up_end, then_effect}
use Rattle.client_machine.specs.Treatment.{given, Going, Treated, treated}
use Rattle.rtsp_head.specs.Headers.{field_of}
use Rattle.rtsp_head.specs.Items.{Shape}
use Rattle.rtsp_head.specs.declared.item.ItemKind.{ItemKind}
use Rattle.rtsp_head.specs.declared.item.ItemKind.TheVariants.{Request, Response, Frame, Bad}
use Rattle.rtsp_small.specs.Sessions.{SessionParts, session_of}
use Rattle.rtsp_small.specs.declared.notify.NotifyReason.{NotifyReason}
use Rattle.rtsp_small.specs.declared.notify.NotifyReason.TheVariants.{EndOfStream}
use Rattle.session_two.specs.declared.names.Names.{Names}
use Rattle.translate_down.specs.Settings.{Setting}
use Rattle.translate_down.specs.Sessions.{sets_up}
use Rattle.translate_down.specs.Replies.{Told, reply_text_of}
use Rattle.client_slot.specs.declared.purpose.Purpose.TheVariants as purposes
use Rattle.client_machine.specs.declared.why.CloseWhy.{CloseWhy}
use Rattle.client_machine.specs.declared.why.CloseWhy.TheVariants.{Ended, BadItem, Slow}
use Rattle.client_machine.specs.Frames.{channel_in, behind_channel, frame_text, Half, half_for, channel_for}

-- A PLAY goes up for a session, where one waits.
abbrev pub released_with : Option Play → Option (List ℕ) → Client → Effect
released_with None id client = stays client
released_with (Some play) id client = sends (asks (play_up id play) None) (after_release client)

-- The PLAY that is due at a place goes up for its session.
abbrev pub released_at : Option ℕ → Client → Effect
released_at None client = stays client
released_at (Some place) client = released_with (queued_at place client.sessions) (session_at place client.sessions).id client

-- the PLAY that is due goes up, where one is
abbrev pub release : Client → Effect
release client = released_at (due_place client) client

-- The closing TEARDOWN of a session goes up.
abbrev pub leave_with : Option (List ℕ) → Option (List ℕ) → Client → Effect
leave_with None control client = stays client
leave_with (Some id) control client = sends (asks (closing_request control id) None) (after_closing client)

-- that of the session at a place
abbrev pub leave_at : Option ℕ → Client → Effect
leave_at None client = stays client
leave_at (Some place) client = leave_with (session_at place client.sessions).id (session_at place client.sessions).control client

-- the TEARDOWN of the first session of a connection that closed with one
abbrev pub leave : Client → Effect
leave client = leave_at (closing_place client) client

-- the stream that a SETUP sets up
abbrev pub track_of : List ℕ → Option ℕ → Option Pair → Option Track
track_of uri pair channels = option_and_then (λ pair. option_map (λ client. record { uri = uri; client = client; pair = pair }) channels) pair

-- the pair of channels that it asks for
abbrev pub pair_if_wanted : Option Pair → Option ℕ → Option ℕ
pair_if_wanted None pair = None
pair_if_wanted (Some channels) pair = pair

-- PLAYs wait, in their order
abbrev pub after_plays : List Play → Client → Client
after_plays [] client = client
after_plays (play ∷ plays) client = after_plays plays (after_queueing play client)

-- a request goes up, where one does
abbrev pub goes_at : Option Going → Option ℕ → List ℕ → Client → Effect
goes_at None pair hand client = record { client = client; hand = hand; message = None; close = None }
goes_at (Some going) pair hand client = record {
  client = after_asking going.asked (track_of going.asked.uri pair going.channels) client;
  hand = hand;
  message = Some (asks going.request (pair_if_wanted going.channels pair));
  close = None;
}

-- what was treated is taken over, and its request goes up
abbrev pub goes_with : Treated → Option ℕ → Client → Effect
goes_with treated pair client = goes_at treated.going pair treated.hand (after_plays treated.plays (record client { waiting = treated.left }))

-- The requests that wait are treated. All pairs of channels are held where none is free.
abbrev pub treat : Bases → Option ℕ → Client → Effect
treat bases pair client = goes_with (treated client.waiting (given bases (is_none pair) client)) pair client

-- the PLAY that is due goes before requests that wait
abbrev pub go_due : Bases → Option ℕ → Option ℕ → Client → Effect
go_due bases pair (Some place) client = released_at (Some place) client
go_due bases pair None client = treat bases pair client

-- what goes up for a connection that has nothing open
abbrev pub go_idle : Bases → Option ℕ → Bool → Client → Effect
go_idle bases pair true client = go_due bases pair (due_place client) client
go_idle bases pair false client = leave client

-- nothing goes up while a request is open
abbrev pub go_at : Bases → Option ℕ → Option Purpose → Client → Effect
go_at bases pair (Some purpose) client = stays client
go_at bases pair None client = go_idle bases pair client.alive client

-- what goes up for a connection, and the lowest pair of channels that is free for a SETUP, where one is
abbrev pub go : Bases → Option ℕ → Client → Effect
go bases pair client = go_at bases pair client.pending client

-- nothing goes up after the event, or only a PLAY that is due, or all that may
pub data NextPart : Type 0 where
  rests : NextPart
  releases : NextPart
  goes_on : NextPart

-- what the event does by itself, and what may go up then
pub record Hearing : Type 0 where
  pub effect : Effect
  pub next : NextPart

-- an event that does nothing
abbrev pub idles : Client → Hearing
idles client = record { effect = stays client; next = rests }

-- A connection closes, where it is alive.
abbrev pub closes : Bool → CloseWhy → Client → Hearing
closes false why client = idles client
closes true why client = record { effect = record { client = after_close client; hand = []; message = None; close = Some why }; next = goes_on }

-- a frame of the player goes up on the half that its channel stands for
abbrev pub carry : Option Half → List ℕ → Client → Hearing
carry None rest client = idles client
carry (Some half) rest client = record { effect = sends (carries half.pair half.half rest) client; next = rests }

-- An item of the player of a connection that is alive: a request waits; a response has no effect; an item that can't be
-- read closes.
abbrev pub take_item : ItemKind → Shape → Client → Hearing
take_item Request shape client = record { effect = stays (after_waiting (shape ∷ []) client); next = goes_on }
take_item Response shape client = idles client
take_item Frame shape client = carry (half_for (channel_in shape) (tracks_of client.sessions)) (behind_channel shape) client
take_item (Bad kind) shape client = closes true BadItem client

-- an item of a player; one that closed is not heard
abbrev pub take : Bool → Shape → Client → Hearing
take false shape client = idles client
take true shape client = take_item shape.kind shape client

-- what the field Session of a reply says (RFC 7826, 18.49)
abbrev pub session_told : Told → Option SessionParts
session_told told = option_and_then session_of (field_of told.fields (codes "Session"))

-- What was read of the field Session of a reply is what it says, where a SETUP asked: of no other reply does it matter.
abbrev pub IsToldFor : Purpose → Told → Option SessionParts → Type 0
IsToldFor (purposes.Client asked track) told said = sets_up asked.method ≡ true → said ≡ session_told told
IsToldFor purpose told said = Unit {0}

-- the id of the session that the server made for a SETUP that named none
abbrev pub new_id_at : Bool → Option ℕ → Told → Option (List ℕ)
new_id_at true None told = option_map (λ session. session.id) (session_told told)
new_id_at sets place told = None

-- the id of the session that the server made, where it made one
abbrev pub new_id : Purpose → Told → Option (List ℕ)
new_id (purposes.Client asked track) told = new_id_at (sets_up asked.method) asked.place told
new_id purpose told = None

-- what a reply is written for, once the connection has heard it
abbrev pub setting : Bases → Option Track → Option ℕ → Told → Option (List ℕ) → Setting
setting bases track ssrc told id = record {
  front = bases.front.text;
  up = bases.up.text;
  session = id;
  client = option_map (λ one. one.client) track;
  ssrc = ssrc;
  timeout = option_and_then (λ session. session.timeout) (session_told told);
}

-- The reply as its player gets it: to its own request, where it is alive.
abbrev pub reply_for : Bases → Purpose → Told → Option ℕ → Option (List ℕ) → List ℕ
reply_for bases (purposes.Client asked track) told ssrc id = reply_text_of (setting bases track ssrc told id) asked told
reply_for bases purpose told ssrc id = []

-- what a player is handed for a reply; one that closed gets nothing
abbrev pub reply_hand : Bases → Bool → Purpose → Told → Option ℕ → Option (List ℕ) → List ℕ
reply_hand bases alive purpose told ssrc id = if alive then reply_for bases purpose told ssrc id else []

-- the id of the session that a request is for, once the reply was heard
abbrev pub id_after : Purpose → Client → Client → Option (List ℕ)
id_after purpose client after = (session_where (purpose_place purpose client.sessions) after.sessions).id

-- The final reply to the open request, which went up with a number.
abbrev pub settled : Bases → ℕ → Purpose → Told → Option ℕ → Client → Hearing
settled bases number purpose told ssrc client =
    let after = after_reply number told.code (new_id purpose told) client in
    record { effect = hands (reply_hand bases client.alive purpose told ssrc (id_after purpose client after)) after; next = goes_on }

-- a final reply settles the open request
abbrev pub settle_at : Bases → ℕ → Option Purpose → Told → Option ℕ → Client → Hearing
settle_at bases number None told ssrc client = idles client
settle_at bases number (Some purpose) told ssrc client = settled bases number purpose told ssrc client

-- A reply with a code below 200 is not the final one, and has no effect.
abbrev pub take_answer : Bases → ℕ → Told → Option ℕ → Client → Hearing
take_answer bases number told ssrc client = if nat_lt told.code 200 then idles client else settle_at bases number client.pending told ssrc client

-- The notify of the end of what plays in a session counts, and no other one does (RFC 7826, 13.5.1).
abbrev pub take_note : List ℕ → NotifyReason → Names → Client → Hearing
take_note id EndOfStream names client = record { effect = stays (after_note (place_with id client.sessions) names client); next = releases }
take_note id reason names client = idles client

-- a frame of the server, where its pair is that of a stream of a connection that is alive
abbrev pub give : Option ℕ → List ℕ → Client → Hearing
give None rest client = idles client
give (Some channel) rest client = record { effect = hands (frame_text channel rest) client; next = rests }

-- a frame of the server for a player that is alive
abbrev pub take_media : Bool → ℕ → ℕ → List ℕ → Client → Hearing
take_media false pair half rest client = idles client
take_media true pair half rest client = give (channel_for pair half (tracks_of client.sessions)) rest client

-- What an event does by itself. The number is that of the open request.
abbrev pub hear : Bases → ℕ → Client → PrivateEvent → Hearing
hear bases number client (arrive shape full) = take client.alive shape client
hear bases number client (answer told ssrc full) = take_answer bases number told ssrc client
hear bases number client (note id reason names) = take_note id reason names client
hear bases number client (media pair half rest) = take_media client.alive pair half rest client
hear bases number client end = closes client.alive Ended client
hear bases number client slow = closes client.alive Slow client
hear bases number client up_end = idles client

-- what follows an event that was heard
abbrev pub going_on : Bases → Option ℕ → NextPart → Client → Effect
going_on bases pair rests client = stays client
going_on bases pair releases client = release client
going_on bases pair goes_on client = go bases pair client

-- an event, and what follows it
abbrev pub heard_step : Bases → Option ℕ → Hearing → Effect
heard_step bases pair heard = then_effect heard.effect (going_on bases pair heard.next heard.effect.client)

-- by the number of the open request, and by the lowest pair of channels that is free, where one is
abbrev pub step : Bases → ℕ → Option ℕ → Client → PrivateEvent → Effect
step bases number pair client event = heard_step bases pair (hear bases number client event)
