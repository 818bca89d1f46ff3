-- What is kept of a session (RFC 2326, A, has its states; the rest is this project's own).
use Rattle.std.specs.Prelude.{ℕ, List, [], Option, None}
use Rattle.session_one.specs.declared.table.State.{State}
use Rattle.session_one.specs.declared.table.State.TheVariants.{Init}
use Rattle.session_one.specs.declared.parts.Track.{Track}
use Rattle.session_one.specs.declared.parts.Play.{Play}

-- its state; its id, where the server made it; the URI that stands for what it is about, where that is known; the streams
-- that are set up; the number of the PLAY that runs; and the PLAYs that wait, the oldest first
pub record PlayerSession : Type 0 where
  pub state : State
  pub id : Option (List ℕ)
  pub control : Option (List ℕ)
  pub tracks : List Track
  pub running : Option ℕ
  pub queue : List Play

-- nothing is set up
abbrev pub new_session : PlayerSession
new_session = record { state = Init; id = None; control = None; tracks = []; running = None; queue = [] }
