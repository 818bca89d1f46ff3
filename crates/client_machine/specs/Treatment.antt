-- Requests of a player that are treated in order (this project's own).
use Rattle.std.specs.Prelude.{ℕ, zero, suc, ◌+◌, ◌^◌, nat_lt, Bool, List, [], ◌∷◌, ◌++◌, length, map, Option, Some, None, if◌then◌else◌}
use Rattle.rtsp_head.specs.Items.{Shape}
use Rattle.rtsp_transport.specs.declared.channels.Pair.{Pair}
use Rattle.rtsp_uri.specs.declared.base.Bases.{Bases}
use Rattle.head_two.specs.declared.request.Request2.{Request2}
use Rattle.session_one.specs.declared.parts.Asked.{Asked}
use Rattle.session_one.specs.declared.parts.Play.{Play}
use Rattle.translate_up.specs.Views.{SeenSession, Given}
use Rattle.translate_up.specs.Decisions.{decide}
use Rattle.translate_up.specs.declared.decision.Decision.{Decision}
use Rattle.translate_up.specs.declared.decision.Decision.TheVariants.{Answer, Forward, Queue, Setup}
use Rattle.client_slot.specs.Session.{PlayerSession}
use Rattle.client_slot.specs.Client.{Client}

-- a session as a request finds it
abbrev pub session_found : PlayerSession → SeenSession
session_found session = record {
  id = session.id;
  state = session.state;
  tracks = session.tracks;
  queued = length session.queue;
  control = session.control;
}

-- what a request is judged by, by what it finds of sessions
abbrev pub given_shown : Bases → Bool → List SeenSession → Option (List ℕ) → Given
given_shown bases full sessions described = record {
  sessions = sessions;
  described = described;
  full = full;
  front = bases.front.text;
  up = bases.up.text;
}

-- what requests of a connection are judged by
abbrev pub given : Bases → Bool → Client → Given
given bases full client = given_shown bases full (map session_found client.sessions) client.described

-- one PLAY more waits in the session at a place
abbrev pub queued_more : ℕ → List SeenSession → List SeenSession
queued_more place [] = []
queued_more zero (one ∷ more) = record one { queued = one.queued + 1 } ∷ more
queued_more (suc place) (one ∷ more) = one ∷ queued_more place more

-- where a place is given
abbrev pub queued_more_where : Option ℕ → List SeenSession → List SeenSession
queued_more_where None sessions = sessions
queued_more_where (Some place) sessions = queued_more place sessions

-- one PLAY more waits
abbrev pub one_queued : Play → Given → Given
one_queued play given = record given { sessions = queued_more_where play.place given.sessions }

-- no item has more bytes than memory has places
abbrev pub fits_memory : Shape → Bool
fits_memory shape = nat_lt (length shape.bytes) (2 ^ 64)

-- What becomes of a request. Nothing is said of one that no memory holds, since it never comes.
abbrev pub decision_on : Given → Shape → Decision
decision_on given shape = if fits_memory shape then decide given shape else Answer []

-- a request that goes up, what is kept of it until its reply comes, and the player's own channels of a SETUP
pub record Going : Type 0 where
  pub request : Request2
  pub asked : Asked
  pub channels : Option Pair

-- What becomes of requests in a row: their answers, the PLAYs that wait, the first request that goes up, and those that
-- come after it.
pub record Treated : Type 0 where
  pub hand : List ℕ
  pub plays : List Play
  pub going : Option Going
  pub left : List Shape

-- nothing was treated
abbrev pub none_treated : Treated
none_treated = record { hand = []; plays = []; going = None; left = [] }

-- a request goes up, and what is behind it waits
abbrev pub goes_up : Going → List Shape → Treated
goes_up going more = record { hand = []; plays = []; going = Some going; left = more }

-- Answers and PLAYs that wait stand before what becomes of later requests.
abbrev pub ahead : List ℕ → List Play → Treated → Treated
ahead hand plays later = record later { hand = hand ++ later.hand; plays = plays ++ later.plays }

-- the first request by its decision; the next ones follow unless it goes up
abbrev pub treated_first : Decision → Given → List Shape → (Given → Treated) → Treated
treated_first (Answer text) given more again = ahead text [] (again given)
treated_first (Queue play text) given more again = ahead text (play ∷ []) (again (one_queued play given))
treated_first (Forward request asked) given more again = goes_up (record { request = request; asked = asked; channels = None }) more
treated_first (Setup request asked channels) given more again = goes_up (record { request = request; asked = asked; channels = Some channels }) more

-- Requests are treated until one of them goes up. A request sees the PLAYs that wait before it.
abbrev pub treated : List Shape → Given → Treated
treated [] given = none_treated
treated (shape ∷ more) given = treated_first (decision_on given shape) given more (treated more)
