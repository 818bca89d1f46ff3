-- Each change is the same under every numbering.
use Rattle.std.proofs.Common.{◌≡◌, ◌∙◌, ℕ, zero, suc, ◌+◌, ◌==◌, Bool, true, false, not, ◌&&◌, cond, List, [], ◌∷◌, ◌++◌, map, Option, Some, None, option_map, length, if◌then◌else◌, refl, sym, ap}
use Rattle.std.specs.Prelude.{is_some, is_none, slice_get}
use Rattle.std.specs.Option.{option_or, option_and_then, option_to_list}
use Rattle.rtsp_small.specs.declared.method.Method.{Method}
use Rattle.rtsp_small.specs.declared.method.Method.TheVariants as methods
use Rattle.session_one.specs.declared.parts.Play.{Play}
use Rattle.session_one.specs.declared.table.State.TheVariants.{Ready}
use Rattle.session_one.specs.declared.parts.Track.{Track}
use Rattle.session_one.specs.Table.{same_method, is_success}
use Rattle.session_two.specs.declared.names.Names.{Names}
use Rattle.session_two.specs.declared.names.Names.TheVariants.{Unsaid, This}
use Rattle.session_two.specs.Ends.{end_counts}
use Rattle.client_slot.specs.declared.purpose.Purpose.{Purpose}
use Rattle.client_slot.specs.declared.purpose.Purpose.TheVariants as purposes
use Rattle.client_slot.specs.Session.{PlayerSession}
use Rattle.client_slot.specs.Places.{session_at, session_where, changed_at, changed_where, first_place, has_due, queued_at, filled_place}
use Rattle.client_slot.specs.SessionChanges.{when_ended, when_next, when_queued, when_unqueued}
use Rattle.client_slot.specs.declared.session_turn.PartTurn.{PartTurn}
use Rattle.client_slot.specs.declared.session_turn.PartTurn.TheVariants.{Keeps, Takes, Loses}
use Rattle.client_slot.specs.declared.session_turn.SessionTurn.{SessionTurn}
use Rattle.client_slot.specs.SessionTurns.{Brought, reply_turn, brought_by, tracks_then, part_then, turned}
use Rattle.client_slot.specs.Client.{Client}
use Rattle.client_slot.specs.Changes.{after_release, after_queueing, after_reply, settle_with, after_note, after_close, after_closing, due_place_at, due_place, release_with, release_at, settled_place, session_after, sessions_after, described_by, described_after, closing_place_at, closing_place, close_at}
use Rattle.client_slot.specs.ClosingRequest.{session_closing, closing_text}
use Rattle.client_slot.specs.Renumber.{track_under, purpose_under, session_under, client_under, names_under, AreToldApart}

-- sessions in another numbering
abbrev pub sessions_under : (ℕ → ℕ) → (ℕ → ℕ) → List PlayerSession → List PlayerSession
sessions_under numbers pairs sessions = map (session_under numbers pairs) sessions

-- the session at a place
pub at_under : (numbers pairs : ℕ → ℕ) (place : ℕ) (sessions : List PlayerSession) → session_at place (sessions_under numbers pairs sessions) ≡ session_under numbers pairs (session_at place sessions)
at_under numbers pairs place [] = refl
at_under numbers pairs zero (one ∷ more) = refl
at_under numbers pairs (suc place) (one ∷ more) = at_under numbers pairs place more

pub where_under : (numbers pairs : ℕ → ℕ) (place : Option ℕ) (sessions : List PlayerSession) → session_where place (sessions_under numbers pairs sessions) ≡ session_under numbers pairs (session_where place sessions)
where_under numbers pairs None sessions = refl
where_under numbers pairs (Some place) sessions = at_under numbers pairs place sessions

-- a change at a place, where it is the same under the numbering for the session there
pub changed_under : (numbers pairs : ℕ → ℕ) (place : ℕ) (change under : PlayerSession → PlayerSession) (sessions : List PlayerSession)
    → session_under numbers pairs (change (session_at place sessions)) ≡ under (session_under numbers pairs (session_at place sessions))
    → sessions_under numbers pairs (changed_at place change sessions) ≡ changed_at place under (sessions_under numbers pairs sessions)
changed_under numbers pairs place change under [] same = refl
changed_under numbers pairs zero change under (one ∷ more) same = ap (λ first. first ∷ sessions_under numbers pairs more) same
changed_under numbers pairs (suc place) change under (one ∷ more) same = ap (λ later. session_under numbers pairs one ∷ later) (changed_under numbers pairs place change under more same)

pub changed_under_where : (numbers pairs : ℕ → ℕ) (place : Option ℕ) (change under : PlayerSession → PlayerSession) (sessions : List PlayerSession)
    → session_under numbers pairs (change (session_where place sessions)) ≡ under (session_under numbers pairs (session_where place sessions))
    → sessions_under numbers pairs (changed_where place change sessions) ≡ changed_where place under (sessions_under numbers pairs sessions)
changed_under_where numbers pairs None change under sessions same = refl
changed_under_where numbers pairs (Some place) change under sessions same = changed_under numbers pairs place change under sessions same

-- the first place that passes a test which does not look at numbers
pub place_under : (numbers pairs : ℕ → ℕ) (test : PlayerSession → Bool) (place : ℕ) (sessions : List PlayerSession)
    → ((session : PlayerSession) → test (session_under numbers pairs session) ≡ test session) → first_place test place (sessions_under numbers pairs sessions) ≡ first_place test place sessions
place_under numbers pairs test place [] blind = refl
place_under numbers pairs test place (one ∷ more) blind =
    ap (λ (here : Bool). cond here (Some place) (first_place test (place + 1) (sessions_under numbers pairs more))) (blind one)
    ∙ ap (λ (later : Option ℕ). cond (test one) (Some place) later) (place_under numbers pairs test (place + 1) more blind)

-- streams and one more
tracks_and_one : (pairs : ℕ → ℕ) (tracks : List Track) (track : Option Track)
    → map (track_under pairs) (tracks ++ option_to_list track) ≡ map (track_under pairs) tracks ++ option_to_list (option_map (track_under pairs) track)
tracks_and_one pairs [] None = refl
tracks_and_one pairs [] (Some track) = refl
tracks_and_one pairs (one ∷ tracks) track = ap (λ more. track_under pairs one ∷ more) (tracks_and_one pairs tracks track)

-- what is brought, in another numbering
abbrev brought_under : (ℕ → ℕ) → (ℕ → ℕ) → Brought → Brought
brought_under numbers pairs brought = record brought { number = numbers brought.number; track = option_map (track_under pairs) brought.track }

tracks_under : (pairs : ℕ → ℕ) (part : PartTurn) (was : List Track) (track : Option Track) → map (track_under pairs) (tracks_then part was track) ≡ tracks_then part (map (track_under pairs) was) (option_map (track_under pairs) track)
tracks_under pairs Keeps was track = refl
tracks_under pairs Takes was track = tracks_and_one pairs was track
tracks_under pairs Loses was track = refl

running_under : (numbers : ℕ → ℕ) (part : PartTurn) (was : Option ℕ) (number : ℕ) → option_map numbers (part_then part was (Some number)) ≡ part_then part (option_map numbers was) (Some (numbers number))
running_under numbers Keeps was number = refl
running_under numbers Takes was number = refl
running_under numbers Loses was number = refl

turned_under : (numbers pairs : ℕ → ℕ) (turn : SessionTurn) (brought : Brought) (session : PlayerSession)
    → session_under numbers pairs (turned turn brought session) ≡ turned turn (brought_under numbers pairs brought) (session_under numbers pairs session)
turned_under numbers pairs turn brought session =
    ap (λ (tracks : List Track). record (session_under numbers pairs (turned turn brought session)) { tracks = tracks }) (tracks_under pairs turn.tracks session.tracks brought.track)
    ∙ ap (λ (running : Option ℕ). record (turned turn (brought_under numbers pairs brought) (session_under numbers pairs session)) { running = running }) (running_under numbers turn.running session.running brought.number)

session_after_under : (numbers pairs : ℕ → ℕ) (purpose : Purpose) (number code : ℕ) (described id : Option (List ℕ)) (session : PlayerSession)
    → session_under numbers pairs (session_after purpose number code described id session) ≡ session_after (purpose_under pairs purpose) (numbers number) code described id (session_under numbers pairs session)
session_after_under numbers pairs (purposes.Client asked track) number code described id session =
    turned_under numbers pairs (reply_turn (purposes.Client asked track) code (is_some id) session.state) (brought_by (purposes.Client asked track) number described id) session
session_after_under numbers pairs (purposes.Released play) number code described id session =
    turned_under numbers pairs (reply_turn (purposes.Released play) code (is_some id) session.state) (brought_by (purposes.Released play) number described id) session
session_after_under numbers pairs (purposes.Closing place) number code described id session = refl

settled_place_under : (numbers pairs : ℕ → ℕ) (purpose : Purpose) (id : Option (List ℕ)) (sessions : List PlayerSession)
    → settled_place (purpose_under pairs purpose) id (sessions_under numbers pairs sessions) ≡ settled_place purpose id sessions
settled_place_under numbers pairs (purposes.Client asked track) id sessions =
    ap (λ (empty : Option ℕ). option_or asked.place (if same_method asked.method methods.Setup && is_some id then empty else None)) (place_under numbers pairs (λ session. is_none session.id) 0 sessions (λ session. refl))
settled_place_under numbers pairs (purposes.Released play) id sessions = refl
settled_place_under numbers pairs (purposes.Closing place) id sessions = refl

pub after_sessions_under : (numbers pairs : ℕ → ℕ) (purpose : Purpose) (number code : ℕ) (described id : Option (List ℕ)) (sessions : List PlayerSession)
    → sessions_under numbers pairs (sessions_after purpose number code described id sessions) ≡ sessions_after (purpose_under pairs purpose) (numbers number) code described id (sessions_under numbers pairs sessions)
after_sessions_under numbers pairs purpose number code described id sessions =
    changed_under_where numbers pairs (settled_place purpose id sessions) (session_after purpose number code described id) (session_after (purpose_under pairs purpose) (numbers number) code described id) sessions
    (session_after_under numbers pairs purpose number code described id (session_where (settled_place purpose id sessions) sessions))
    ∙ ap (λ (place : Option ℕ). changed_where place (session_after (purpose_under pairs purpose) (numbers number) code described id) (sessions_under numbers pairs sessions))
    (sym (settled_place_under numbers pairs purpose id sessions))

filled_under : (numbers pairs : ℕ → ℕ) (sessions : List PlayerSession) → filled_place (sessions_under numbers pairs sessions) ≡ filled_place sessions
filled_under numbers pairs sessions = place_under numbers pairs (λ session. is_some session.id) 0 sessions (λ session. refl)

described_by_under : (numbers pairs : ℕ → ℕ) (method : Method) (uri : List ℕ) (sessions : List PlayerSession) (described : Option (List ℕ))
    → described_by method uri (sessions_under numbers pairs sessions) described ≡ described_by method uri sessions described
described_by_under numbers pairs methods.Options uri sessions described = refl
described_by_under numbers pairs methods.Describe uri sessions described = refl
described_by_under numbers pairs methods.Setup uri sessions described = refl
described_by_under numbers pairs methods.Play uri sessions described = refl
described_by_under numbers pairs methods.Pause uri sessions described = refl
described_by_under numbers pairs methods.Teardown uri sessions described = ap (λ (filled : Option ℕ). cond (is_some filled) described None) (filled_under numbers pairs sessions)
described_by_under numbers pairs methods.GetParameter uri sessions described = refl
described_by_under numbers pairs methods.SetParameter uri sessions described = refl

described_under : (numbers pairs : ℕ → ℕ) (purpose : Purpose) (code : ℕ) (sessions : List PlayerSession) (described : Option (List ℕ))
    → described_after (purpose_under pairs purpose) code (sessions_under numbers pairs sessions) described ≡ described_after purpose code sessions described
described_under numbers pairs (purposes.Client asked track) code sessions described =
    ap (λ (granted : Option (List ℕ)). cond (is_success code) granted described) (described_by_under numbers pairs asked.method asked.uri sessions described)
described_under numbers pairs (purposes.Released play) code sessions described = refl
described_under numbers pairs (purposes.Closing place) code sessions described = refl

-- a connection with these sessions and with this described, of which no request is open
abbrev settled_as : Client → List PlayerSession → Option (List ℕ) → Client
settled_as client sessions described = record client { sessions = sessions; described = described; pending = None }

settled_under : (numbers pairs : ℕ → ℕ) (purpose : Option Purpose) (number code : ℕ) (id : Option (List ℕ)) (client : Client)
    → client_under numbers pairs (settle_with purpose number code id client) ≡ settle_with (option_map (purpose_under pairs) purpose) (numbers number) code id (client_under numbers pairs client)
settled_under numbers pairs None number code id client = refl
settled_under numbers pairs (Some purpose) number code id client =
    let after = sessions_after purpose number code client.described id client.sessions in
    ap (settled_as client (sessions_under numbers pairs after)) (sym (described_under numbers pairs purpose code after client.described))
    ∙ ap (λ (sessions : List PlayerSession). settled_as client sessions (described_after (purpose_under pairs purpose) code sessions client.described))
    (after_sessions_under numbers pairs purpose number code client.described id client.sessions)

pub reply_under : (numbers pairs : ℕ → ℕ) (number code : ℕ) (id : Option (List ℕ)) (client : Client)
    → client_under numbers pairs (after_reply number code id client) ≡ after_reply (numbers number) code id (client_under numbers pairs client)
reply_under numbers pairs number code id client = settled_under numbers pairs client.pending number code id client

-- the end of what plays counts as before
counts_under : (numbers : ℕ → ℕ) (running : Option ℕ) (names : Names) → AreToldApart numbers running names → end_counts (option_map numbers running) (names_under numbers names) ≡ end_counts running names
counts_under numbers None names apart = refl
counts_under numbers (Some running) Unsaid apart = refl
counts_under numbers (Some running) (This number) apart = apart

ended_by : (b : Bool) (numbers pairs : ℕ → ℕ) (session : PlayerSession)
    → session_under numbers pairs (if b then record session { state = if length session.queue == 0 then Ready else session.state; running = None } else session)
    ≡ (if b then record (session_under numbers pairs session) { state = if length session.queue == 0 then Ready else session.state; running = None } else session_under numbers pairs session)
ended_by true numbers pairs session = refl
ended_by false numbers pairs session = refl

ended_under : (numbers pairs : ℕ → ℕ) (names : Names) (session : PlayerSession) → AreToldApart numbers session.running names
    → session_under numbers pairs (when_ended names session) ≡ when_ended (names_under numbers names) (session_under numbers pairs session)
ended_under numbers pairs names session apart =
    ended_by (end_counts session.running names) numbers pairs session
    ∙ ap (λ (b : Bool). if b then record (session_under numbers pairs session) { state = if length session.queue == 0 then Ready else session.state; running = None } else session_under numbers pairs session)
    (sym (counts_under numbers session.running names apart))

pub note_under : (numbers pairs : ℕ → ℕ) (place : Option ℕ) (names : Names) (client : Client) → AreToldApart numbers (session_where place client.sessions).running names
    → client_under numbers pairs (after_note place names client) ≡ after_note place (names_under numbers names) (client_under numbers pairs client)
note_under numbers pairs place names client apart =
    ap (λ (sessions : List PlayerSession). record (client_under numbers pairs client) { sessions = sessions })
    (changed_under_where numbers pairs place (when_ended names) (when_ended (names_under numbers names)) client.sessions (ended_under numbers pairs names (session_where place client.sessions) apart))

-- a PLAY waits
pub queueing_under : (numbers pairs : ℕ → ℕ) (play : Play) (client : Client) → client_under numbers pairs (after_queueing play client) ≡ after_queueing play (client_under numbers pairs client)
queueing_under numbers pairs play client =
    ap (λ (sessions : List PlayerSession). record (client_under numbers pairs client) { sessions = sessions })
    (changed_under_where numbers pairs play.place (when_queued play) (when_queued play) client.sessions refl)

-- the same PLAY is due
due_session_under : (numbers pairs : ℕ → ℕ) (session : PlayerSession) → has_due (session_under numbers pairs session) ≡ has_due session
due_session_under numbers pairs session = by session.running
  where
    by : (running : Option ℕ) → (is_none (option_map numbers running) && not (length session.queue == 0)) ≡ (is_none running && not (length session.queue == 0))
    by None = refl
    by (Some number) = refl

due_at_under : (numbers pairs : ℕ → ℕ) (pending : Option Purpose) (sessions : List PlayerSession)
    → due_place_at (option_map (purpose_under pairs) pending) (sessions_under numbers pairs sessions) ≡ due_place_at pending sessions
due_at_under numbers pairs None sessions = place_under numbers pairs has_due 0 sessions (due_session_under numbers pairs)
due_at_under numbers pairs (Some purpose) sessions = refl

pub due_under : (numbers pairs : ℕ → ℕ) (client : Client) → due_place (client_under numbers pairs client) ≡ due_place client
due_under numbers pairs client = due_at_under numbers pairs client.pending client.sessions

pub queued_under : (numbers pairs : ℕ → ℕ) (place : ℕ) (sessions : List PlayerSession) → queued_at place (sessions_under numbers pairs sessions) ≡ queued_at place sessions
queued_under numbers pairs place sessions = ap (λ (session : PlayerSession). slice_get session.queue 0) (at_under numbers pairs place sessions)

release_under_with : (numbers pairs : ℕ → ℕ) (play : Option Play) (place : ℕ) (client : Client) → client_under numbers pairs (release_with play place client) ≡ release_with play place (client_under numbers pairs client)
release_under_with numbers pairs None place client = refl
release_under_with numbers pairs (Some play) place client =
    ap (λ (sessions : List PlayerSession). record (client_under numbers pairs (release_with (Some play) place client)) { sessions = sessions })
    (changed_under numbers pairs place when_next when_next client.sessions refl)

release_under_at : (numbers pairs : ℕ → ℕ) (place : Option ℕ) (client : Client) → client_under numbers pairs (release_at place client) ≡ release_at place (client_under numbers pairs client)
release_under_at numbers pairs None client = refl
release_under_at numbers pairs (Some place) client =
    release_under_with numbers pairs (queued_at place client.sessions) place client
    ∙ ap (λ (play : Option Play). release_with play place (client_under numbers pairs client)) (sym (queued_under numbers pairs place client.sessions))

pub release_under : (numbers pairs : ℕ → ℕ) (client : Client) → client_under numbers pairs (after_release client) ≡ after_release (client_under numbers pairs client)
release_under numbers pairs client =
    release_under_at numbers pairs (due_place client) client
    ∙ ap (λ (place : Option ℕ). release_at place (client_under numbers pairs client)) (sym (due_under numbers pairs client))

-- nothing waits
unqueued_under : (numbers pairs : ℕ → ℕ) (sessions : List PlayerSession) → sessions_under numbers pairs (map when_unqueued sessions) ≡ map when_unqueued (sessions_under numbers pairs sessions)
unqueued_under numbers pairs [] = refl
unqueued_under numbers pairs (one ∷ more) = ap (λ later. session_under numbers pairs (when_unqueued one) ∷ later) (unqueued_under numbers pairs more)

pub close_under : (numbers pairs : ℕ → ℕ) (client : Client) → client_under numbers pairs (after_close client) ≡ after_close (client_under numbers pairs client)
close_under numbers pairs client =
    ap (λ (sessions : List PlayerSession). record (client_under numbers pairs (after_close client)) { sessions = sessions }) (unqueued_under numbers pairs client.sessions)

-- the same session is left
left_under_at : (numbers pairs : ℕ → ℕ) (alive : Bool) (pending : Option Purpose) (sessions : List PlayerSession)
    → closing_place_at alive (option_map (purpose_under pairs) pending) (sessions_under numbers pairs sessions) ≡ closing_place_at alive pending sessions
left_under_at numbers pairs true pending sessions = refl
left_under_at numbers pairs false None sessions = filled_under numbers pairs sessions
left_under_at numbers pairs false (Some purpose) sessions = refl

pub left_under : (numbers pairs : ℕ → ℕ) (client : Client) → closing_place (client_under numbers pairs client) ≡ closing_place client
left_under numbers pairs client = left_under_at numbers pairs client.alive client.pending client.sessions

close_under_at : (numbers pairs : ℕ → ℕ) (place : Option ℕ) (client : Client) → client_under numbers pairs (close_at place client) ≡ close_at place (client_under numbers pairs client)
close_under_at numbers pairs None client = refl
close_under_at numbers pairs (Some place) client = refl

pub closing_under : (numbers pairs : ℕ → ℕ) (client : Client) → client_under numbers pairs (after_closing client) ≡ after_closing (client_under numbers pairs client)
closing_under numbers pairs client =
    close_under_at numbers pairs (closing_place client) client
    ∙ ap (λ (place : Option ℕ). close_at place (client_under numbers pairs client)) (sym (left_under numbers pairs client))

text_under_at : (numbers pairs : ℕ → ℕ) (number : ℕ) (place : Option ℕ) (client : Client)
    → option_and_then (λ one. session_closing number (session_at one (sessions_under numbers pairs client.sessions))) place ≡ option_and_then (λ one. session_closing number (session_at one client.sessions)) place
text_under_at numbers pairs number None client = refl
text_under_at numbers pairs number (Some place) client = ap (session_closing number) (at_under numbers pairs place client.sessions)

pub text_under : (numbers pairs : ℕ → ℕ) (number : ℕ) (client : Client) → closing_text number (client_under numbers pairs client) ≡ closing_text number client
text_under numbers pairs number client =
    ap (option_and_then (λ place. session_closing number (session_at place (sessions_under numbers pairs client.sessions)))) (left_under numbers pairs client)
    ∙ text_under_at numbers pairs number (closing_place client) client
