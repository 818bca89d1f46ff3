-- The places of what no rule refuses (this project's own).
use Rattle.std.specs.Prelude.{◌≡◌, ℕ, ◌<◌, true, is_some, List, length, Option, Some, None}
use Rattle.play_queue.specs.declared.queue.TheConstants.{MOST_PLAYS}
use Rattle.rtsp_transport.specs.Channels.{AreApart}
use Rattle.session_one.specs.declared.parts.TheConstants.{MOST_TRACKS}
use Rattle.translate_up.specs.declared.decision.Decision.{Decision}
use Rattle.translate_up.specs.declared.decision.Decision.TheVariants.{Answer, Forward, Queue, Setup}
use Rattle.translate_up.specs.Views.{SeenSession, session_or_none}

-- A place that is named has a session.
abbrev pub NamesSession : Option ℕ → List SeenSession → Type 0
NamesSession None sessions = Unit {0}
NamesSession (Some place) sessions = (place < length sessions) × (is_some (session_or_none (Some place) sessions).id ≡ true)

-- By the sessions that a request was judged by: the session that it names is there; a PLAY that waits finds room for one
-- more there, and so does the stream of a SETUP, which has two channels on the player's connection.
abbrev pub IsDecidedIn : List SeenSession → Decision → Type 0
IsDecidedIn sessions (Answer text) = Unit {0}
IsDecidedIn sessions (Queue play text) = NamesSession play.place sessions × ((session_or_none play.place sessions).queued < MOST_PLAYS)
IsDecidedIn sessions (Forward request asked) = NamesSession asked.place sessions
IsDecidedIn sessions (Setup request asked channels) = NamesSession asked.place sessions × (length (session_or_none asked.place sessions).tracks < MOST_TRACKS) × AreApart channels
