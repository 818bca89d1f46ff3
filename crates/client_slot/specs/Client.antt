-- What is kept of one player's connection (this project's own): whether it is alive, the session of each place, the URI
-- that was described last, what its open request at the server is for, where one is open, and the requests that wait, the
-- oldest first.
use Rattle.std.specs.Prelude.{ℕ, Bool, true, List, [], Option, None}
use Rattle.rtsp_head.specs.Items.{Shape}
use Rattle.client_slot.specs.declared.purpose.Purpose.{Purpose}
use Rattle.client_slot.specs.Session.{PlayerSession}
use Rattle.client_slot.specs.Places.{new_sessions}

-- all that is kept of a connection
pub record Client : Type 0 where
  pub alive : Bool
  pub sessions : List PlayerSession
  pub described : Option (List ℕ)
  pub pending : Option Purpose
  pub waiting : List Shape

-- a connection that entered
abbrev pub new_client : Client
new_client = record { alive = true; sessions = new_sessions; described = None; pending = None; waiting = [] }
