-- A plan for an event of a connection: what it says is done, and when that is what the machine does (this project's own).
use Rattle.std.specs.Prelude.{◌≡◌, ℕ, ◌^◌, ◌≤◌, ◌<◌, Bool, true, false, is_some, List, [], ◌∷◌, drop, length, Option, Some, None, IsSome, IfSome, ◌⊎◌}
use Rattle.rtsp_head.specs.Items.{Shape}
use Rattle.rtsp_head.specs.Shapes.{shape_of}
use Rattle.rtsp_head.specs.declared.item.ItemKind.TheVariants as kinds
use Rattle.rtsp_small.specs.declared.notify.NotifyReason.{NotifyReason}
use Rattle.rtsp_uri.specs.declared.base.Bases.{Bases}
use Rattle.head_two.specs.declared.reply.Reply2.{Reply2}
use Rattle.session_one.specs.declared.parts.TheConstants.{MOST_SESSIONS}
use Rattle.session_one.specs.declared.parts.Asked.{Asked}
use Rattle.session_one.specs.declared.parts.Play.{Play}
use Rattle.session_one.specs.declared.parts.Track.{Track}
use Rattle.session_two.specs.declared.names.Names.{Names}
use Rattle.play_queue.specs.declared.queue.TheConstants.{MOST_PLAYS}
use Rattle.translate_down.specs.Replies.{told_by}
use Rattle.client_slot.specs.declared.limits.TheConstants.{LONGEST_URI, MOST_WAITING}
use Rattle.client_slot.specs.NewSessions.{id_made, described_made}
use Rattle.client_slot.specs.Session.{PlayerSession}
use Rattle.client_slot.specs.Places.{session_at, changed_where}
use Rattle.client_slot.specs.SessionChanges.{when_queued}
use Rattle.client_slot.specs.Bounds.{is_filled, IsAskable}
use Rattle.client_slot.specs.Client.{Client}
use Rattle.client_slot.specs.Changes.{after_waiting, after_reply, after_note, after_close, after_release, after_closing, after_asking}
use Rattle.client_slot.specs.ClosingRequest.{closing_text}
use Rattle.client_machine.specs.declared.why.CloseWhy.{CloseWhy}
use Rattle.client_machine.specs.declared.input.Incoming.{Incoming}
use Rattle.client_machine.specs.declared.input.Incoming.TheVariants as comings
use Rattle.client_machine.specs.declared.parts.Change.{Change}
use Rattle.client_machine.specs.declared.parts.Change.TheVariants as changes
use Rattle.client_machine.specs.declared.parts.Up.{Up}
use Rattle.client_machine.specs.declared.parts.Up.TheVariants as ups
use Rattle.client_machine.specs.declared.parts.PlannedStep.{PlannedStep}
use Rattle.client_machine.specs.declared.parts.Done.{Done}
use Rattle.client_machine.specs.Events.{Effect}
use Rattle.client_machine.specs.Step.{after_plays, Hearing, take, take_answer, take_note, closes, heard_step}
use Rattle.client_machine.specs.UpTexts.{spelled}

-- what happens to a connection, without where it lies in memory
pub data Comes : Type 0 where
  requests : (shape : Shape) → Comes
  replies : (reply : Reply2) → (source : Option ℕ) → Comes
  notes : (id : List ℕ) → (reason : NotifyReason) → (names : Names) → Comes
  shuts : (why : CloseWhy) → Comes

-- what comes, without where it lies in memory
abbrev pub incoming_seen : Incoming → Comes
incoming_seen (comings.Request item) = requests (shape_of item.now)
incoming_seen (comings.Reply answer) = replies answer.reply.now answer.source
incoming_seen (comings.Notice id reason names) = notes id.now reason names

-- An item that comes as a request is one.
abbrev pub CanCome : Comes → Type 0
CanCome (requests shape) = shape.kind ≡ kinds.Request
CanCome comes = Unit {0}

-- A request that comes finds room among those that wait.
abbrev pub CanWait : Comes → Client → Type 0
CanWait (requests shape) client = length client.waiting < MOST_WAITING
CanWait comes client = Unit {0}

-- what the event does by itself, by the number of the open request
abbrev pub heard_by : Bases → ℕ → Client → Comes → Hearing
heard_by bases number client (requests shape) = take client.alive shape client
heard_by bases number client (replies reply source) = take_answer bases number (told_by reply) source client
heard_by bases number client (notes id reason names) = take_note id reason names client
heard_by bases number client (shuts why) = closes client.alive why client

-- what the machine does, by the lowest pair of channels that is free
abbrev pub effect_by : Bases → ℕ → Option ℕ → Client → Comes → Effect
effect_by bases number pair client comes = heard_step bases pair (heard_by bases number client comes)

-- The change by the event itself, and the close.
abbrev pub changed : ℕ → Change → Client → Client
changed number changes.Nothing client = client
changed number (changes.Waits shapes) client = after_waiting shapes client
changed number (changes.Settles code made) client = after_reply number code (id_made made) client
changed number (changes.Ends place names) client = after_note place names client
changed number (changes.Closes why) client = after_close client

-- the close that a plan brings
abbrev pub shut_by : Change → Option CloseWhy
shut_by (changes.Closes why) = Some why
shut_by change = None

-- so many requests that waited were treated
abbrev pub without : ℕ → Client → Client
without count client = record client { waiting = drop count client.waiting }

-- what goes up, and its text with the next number
abbrev pub risen : Up → Client → Client
risen ups.Nothing client = client
risen (ups.Due text) client = after_release client
risen ups.Leave client = after_closing client
risen (ups.Ask text asked track) client = after_asking asked track client

-- the text of the request that goes up by a plan
abbrev pub risen_text : ℕ → Up → Client → Option (List ℕ)
risen_text next ups.Nothing client = None
risen_text next (ups.Due text) client = Some text
risen_text next ups.Leave client = closing_text next client
risen_text next (ups.Ask text asked track) client = Some text

-- whether a request goes up by a plan
abbrev pub is_up : Up → Bool
is_up ups.Nothing = false
is_up up = true

-- the connection once a plan was carried out but for what goes up
abbrev pub ripe : ℕ → Client → PlannedStep → Client
ripe number client plan = after_plays plan.plays (without plan.treated (changed number plan.change client))

-- The change can be made: its memory is there, and a reply settles an open request.
abbrev pub IsReadyChange : Client → Change → Type 0
IsReadyChange client (changes.Waits shapes) = length client.waiting < MOST_WAITING
IsReadyChange client (changes.Settles code made) = IsSome client.pending × (200 ≤ code) × (IsSome made → described_made made ≡ client.described)
IsReadyChange client (changes.Ends place names) = IfSome place (λ one. one < MOST_SESSIONS)
IsReadyChange client change = Unit {0}

-- A PLAY can wait: its session is there, and has room for it.
pub record IsQueueable (sessions : List PlayerSession) (play : Play) : Type 0 where
  pub uri : length play.uri ≤ LONGEST_URI
  pub filled : is_filled play.place sessions ≡ true
  pub room : IfSome play.place (λ place. (place < MOST_SESSIONS) × (length (session_at place sessions).queue < MOST_PLAYS))

-- So can PLAYs, one after another.
abbrev pub ArePlaced : List PlayerSession → List Play → Type 0
ArePlaced sessions [] = Unit {0}
ArePlaced sessions (play ∷ plays) = IsQueueable sessions play × ArePlaced (changed_where play.place (when_queued play) sessions) plays

-- A request can go up, and its stream has a place.
pub record IsReadyAsk (client : Client) (asked : Asked) (track : Option Track) : Type 0 where
  pub alive : client.alive ≡ true
  pub idle : client.pending ≡ None
  pub placed : IsAskable client.sessions asked track

-- all memory for what goes up is there
abbrev pub IsReadyUp : Client → Up → Type 0
IsReadyUp client (ups.Ask text asked track) = IsReadyAsk client asked track
IsReadyUp client up = Unit {0}

-- A plan can be carried out, by the connection before it and that after its change.
pub record IsReadyFrom (client after : Client) (plan : PlannedStep) : Type 0 where
  pub change : IsReadyChange client plan.change
  pub plays : ArePlaced after.sessions plan.plays
  pub up : IsReadyUp (after_plays plan.plays (without plan.treated after)) plan.up

-- all memory for a plan is there, whatever its number
abbrev pub IsReady : Client → PlannedStep → Type 0
IsReady client plan = (number : ℕ) → IsReadyFrom client (changed number plan.change client) plan

-- What a plan says is what the machine does.
pub record IsCarriedOut (next : ℕ) (pair : Option ℕ) (before : Client) (plan : PlannedStep) (effect : Effect) : Type 0 where
  pub client : risen plan.up before ≡ effect.client
  pub hand : plan.hand ≡ effect.hand
  pub request : risen_text next plan.up before ≡ spelled next pair effect.message
  pub asks : is_up plan.up ≡ is_some effect.message
  pub close : shut_by plan.change ≡ effect.close

-- A plan for an event of a connection, for the next number and the lowest pair of channels that is free: it can be carried
-- out, and it does what the machine does, whatever number the open request has.
pub record IsPlan (bases : Bases) (next : ℕ) (pair : Option ℕ) (client : Client) (comes : Comes) (plan : PlannedStep) : Type 0 where
  pub ready : IsReady client plan
  pub does : (number : ℕ) → IsCarriedOut next pair (ripe number client plan) plan (effect_by bases number pair client comes)

-- What was done is what the machine does: the connection, the bytes for its client, the text that goes up, and the close.
pub record Does (next : ℕ) (pair : Option ℕ) (after : Client) (done : Done) (effect : Effect) : Type 0 where
  pub client : after ≡ effect.client
  pub hand : done.hand ≡ effect.hand
  pub request : done.request ≡ spelled next pair effect.message
  pub close : done.close ≡ effect.close

-- How long what a plan hands out may be: so that it, and with an answer before it what goes up, fits into 32 bits (this
-- project's own).
abbrev pub IsShortUp : Up → Type 0
IsShortUp (ups.Due text) = length text < 2 ^ 31
IsShortUp (ups.Ask text asked track) = length text < 2 ^ 31
IsShortUp up = Unit {0}

-- so long that it is not handed out
abbrev pub IsLongUp : Up → Type 0
IsLongUp (ups.Due text) = 2 ^ 31 ≤ length text
IsLongUp (ups.Ask text asked track) = 2 ^ 31 ≤ length text
IsLongUp up = ⊥

-- what a plan hands out fits into a record
abbrev pub IsShortPlan : PlannedStep → Type 0
IsShortPlan plan = (length plan.hand < 2 ^ 32) × IsShortUp plan.up

-- some of what a plan hands out is too long
abbrev pub IsLongPlan : PlannedStep → Type 0
IsLongPlan plan = (2 ^ 32 ≤ length plan.hand) ⊎ IsLongUp plan.up

-- what was done hands out no more than fits into a record
pub record IsShortDone (done : Done) : Type 0 where
  pub hand : length done.hand < 2 ^ 32
  pub request : IfSome done.request (λ text. length text < 2 ^ 31)
