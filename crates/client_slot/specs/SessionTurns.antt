-- What a final reply makes of a session, part by part (RFC 2326, 10 and A.2, for what a success does; the rest is this
-- project's own). A number of a request, and that of a pair of channels, is whatever number counts them: the server's one
-- connection has numbers for all players, and a player alone has its own.
use Rattle.std.specs.Prelude.{ℕ, Bool, true, false, List, [], ◌++◌, Option, Some, None, if◌then◌else◌}
use Rattle.std.specs.Option.{option_or, option_to_list}
use Rattle.rtsp_small.specs.declared.method.Method.{Method}
use Rattle.rtsp_small.specs.declared.method.Method.TheVariants as methods
use Rattle.session_one.specs.declared.table.State.{State}
use Rattle.session_one.specs.declared.table.State.TheVariants.{Init, Ready}
use Rattle.session_one.specs.declared.parts.Play.{Play}
use Rattle.session_one.specs.declared.parts.Track.{Track}
use Rattle.session_one.specs.Table.{is_success, state_after}
use Rattle.client_slot.specs.declared.session_turn.PartTurn.{PartTurn}
use Rattle.client_slot.specs.declared.session_turn.PartTurn.TheVariants.{Keeps, Takes, Loses}
use Rattle.client_slot.specs.declared.session_turn.SessionTurn.{SessionTurn}
use Rattle.client_slot.specs.declared.purpose.Purpose.{Purpose}
use Rattle.client_slot.specs.declared.purpose.Purpose.TheVariants as purposes
use Rattle.client_slot.specs.Session.{PlayerSession}

-- Nothing but the state changes.
abbrev pub moved_turn : State → SessionTurn
moved_turn state = record { state = state; id = Keeps; control = Keeps; tracks = Keeps; running = Keeps; queue = Keeps }

-- Nothing is left.
abbrev pub gone_turn : SessionTurn
gone_turn = record { state = Init; id = Loses; control = Loses; tracks = Loses; running = Loses; queue = Loses }

-- a part that a session which the server made takes, and another keeps
abbrev pub if_made : Bool → PartTurn
if_made true = Takes
if_made false = Keeps

-- The success of a player's request, after which the session has this state. SETUP brings a stream, and the id of a session
-- that the server made (10.4); PLAY runs (10.5); PAUSE ends what runs and what waits (10.6); TEARDOWN leaves nothing (10.7);
-- OPTIONS, DESCRIBE, GET_PARAMETER and SET_PARAMETER change nothing of a session (10.1, 10.2, 10.8 and 10.9).
abbrev pub granted_turn : Method → Bool → State → SessionTurn
granted_turn methods.Options made state = moved_turn state
granted_turn methods.Describe made state = moved_turn state
granted_turn methods.Setup made state = record (moved_turn state) { id = if_made made; control = if_made made; tracks = Takes }
granted_turn methods.Play made state = record (moved_turn state) { control = Takes; running = Takes }
granted_turn methods.Pause made state = record (moved_turn state) { running = Loses; queue = Loses }
granted_turn methods.Teardown made state = gone_turn
granted_turn methods.GetParameter made state = moved_turn state
granted_turn methods.SetParameter made state = moved_turn state

-- The final reply to a PLAY that waited. Where it is no success, no PLAY waits or runs any longer, and the session is
-- Ready.
abbrev pub released_turn : Bool → State → SessionTurn
released_turn true state = record (moved_turn state) { control = Takes; running = Takes }
released_turn false state = record (moved_turn Ready) { running = Loses; queue = Loses }

-- The final reply with a code to a request, by the session's state, and by whether the server made the session. A code that
-- is no success changes nothing for a player's request. Whatever the code, a closing TEARDOWN leaves nothing.
abbrev pub reply_turn : Purpose → ℕ → Bool → State → SessionTurn
reply_turn (purposes.Client asked track) code made state = if is_success code then granted_turn asked.method made (state_after state asked.method code) else moved_turn state
reply_turn (purposes.Released play) code made state = released_turn (is_success code) state
reply_turn (purposes.Closing place) code made state = gone_turn

-- what a request and its reply bring: the number with which it went up, what the session is about then, the session's id, and
-- the stream
pub record Brought : Type 0 where
  pub number : ℕ
  pub control : Option (List ℕ)
  pub id : Option (List ℕ)
  pub track : Option Track

-- What a session is about then: what was described, for one that a SETUP makes, or else the request's URI. DESCRIBE is about
-- no session.
abbrev pub control_by : Method → List ℕ → Option (List ℕ) → Option (List ℕ)
control_by methods.Options uri described = Some uri
control_by methods.Describe uri described = None
control_by methods.Setup uri described = option_or described (Some uri)
control_by methods.Play uri described = Some uri
control_by methods.Pause uri described = Some uri
control_by methods.Teardown uri described = Some uri
control_by methods.GetParameter uri described = Some uri
control_by methods.SetParameter uri described = Some uri

-- what is brought, by what the request was for
abbrev pub brought_by : Purpose → ℕ → Option (List ℕ) → Option (List ℕ) → Brought
brought_by (purposes.Client asked track) number described id = record { number = number; control = control_by asked.method asked.uri described; id = id; track = track }
brought_by (purposes.Released play) number described id = record { number = number; control = Some play.uri; id = id; track = None }
brought_by (purposes.Closing place) number described id = record { number = number; control = None; id = id; track = None }

-- a part then
abbrev pub part_then : {A : Type 0} → PartTurn → Option A → Option A → Option A
part_then Keeps was new = was
part_then Takes was new = new
part_then Loses was new = None

-- the streams then
abbrev pub tracks_then : PartTurn → List Track → Option Track → List Track
tracks_then Keeps was track = was
tracks_then Takes was track = was ++ option_to_list track
tracks_then Loses was track = []

-- the PLAYs that wait then; none is brought
abbrev pub queue_then : PartTurn → List Play → List Play
queue_then Keeps was = was
queue_then Takes was = was
queue_then Loses was = []

-- the session after a turn
abbrev pub turned : SessionTurn → Brought → PlayerSession → PlayerSession
turned turn brought session = record {
  state = turn.state;
  id = part_then turn.id session.id brought.id;
  control = part_then turn.control session.control brought.control;
  tracks = tracks_then turn.tracks session.tracks brought.track;
  running = part_then turn.running session.running (Some brought.number);
  queue = queue_then turn.queue session.queue;
}
