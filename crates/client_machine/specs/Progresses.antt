-- Requests that wait are treated one after another (this project's own).
use Rattle.std.specs.Prelude.{◌≡◌, ℕ, ◌≤◌, List, [], ◌∷◌, ◌++◌, length, drop, map, Option, Some, None, ◌<◌, IsSome, IfSome}
use Rattle.rtsp_head.specs.Items.{Shape}
use Rattle.rtsp_transport.specs.Channels.{AreApart}
use Rattle.session_one.specs.declared.parts.Play.{Play}
use Rattle.session_one.specs.declared.parts.TheConstants.{MOST_SESSIONS, MOST_TRACKS}
use Rattle.translate_up.specs.Views.{SeenSession, Given, session_or_none}
use Rattle.translate_up.specs.DecisionPlaces.{NamesSession}
use Rattle.translate_up.specs.UriLengths.{AreGivenWithin}
use Rattle.client_slot.specs.declared.limits.TheConstants.{LONGEST_URI}
use Rattle.translate_up.specs.declared.decision.Decision.{Decision}
use Rattle.translate_up.specs.declared.decision.Decision.TheVariants.{Answer, Forward, Queue, Setup}
use Rattle.client_slot.specs.Session.{PlayerSession}
use Rattle.client_slot.specs.Places.{changed_where}
use Rattle.client_slot.specs.SessionChanges.{when_queued}
use Rattle.client_machine.specs.Treatment.{session_found, queued_more_where, Going, Treated, treated, ahead}
use Rattle.client_machine.specs.Plans.{ArePlaced}

-- How far requests in a row were treated: their answers, the PLAYs that wait now and did not before, how many of those
-- that waited were treated, and the one that goes up.
pub record Progress : Type 0 where
  pub hand : List ℕ
  pub plays : List Play
  pub treated : ℕ
  pub going : Option Going

-- none is treated yet, after these bytes
abbrev pub begun : List ℕ → Progress
begun first = record { hand = first; plays = []; treated = 0; going = None }

-- one is treated
abbrev pub progressed : Decision → Progress → Progress
progressed (Answer text) progress = record progress { hand = progress.hand ++ text }
progressed (Queue play text) progress = record progress { hand = progress.hand ++ text; plays = progress.plays ++ play ∷ [] }
progressed (Forward request asked) progress = record progress { going = Some (record { request = request; asked = asked; channels = None }) }
progressed (Setup request asked channels) progress = record progress { going = Some (record { request = request; asked = asked; channels = Some channels }) }

-- what the next request finds of sessions
abbrev pub sessions_then : Decision → List SeenSession → List SeenSession
sessions_then (Queue play text) sessions = queued_more_where play.place sessions
sessions_then decision sessions = sessions

-- what it is judged by
abbrev pub given_then : Decision → Given → Given
given_then decision given = record given { sessions = sessions_then decision given.sessions }

-- what becomes of all, where these are left
abbrev pub joined_at : Option Going → List ℕ → List Play → Given → List Shape → Treated
joined_at None hand plays given left = ahead hand plays (treated left given)
joined_at (Some one) hand plays given left = record { hand = hand; plays = plays; going = Some one; left = left }

-- what was treated, and what comes after
abbrev pub with_progress : Progress → Given → List Shape → Treated
with_progress progress given left = joined_at progress.going progress.hand progress.plays given left

-- the sessions once PLAYs wait
abbrev pub sessions_queued : List Play → List PlayerSession → List PlayerSession
sessions_queued [] sessions = sessions
sessions_queued (play ∷ plays) sessions = sessions_queued plays (changed_where play.place (when_queued play) sessions)

-- The PLAYs can wait, one after another, and what is judged by counts them.
pub record IsFilled (sessions : List PlayerSession) (given : Given) (progress : Progress) : Type 0 where
  pub counts : given.sessions ≡ map session_found (sessions_queued progress.plays sessions)
  pub placed : ArePlaced sessions progress.plays

-- A request that goes up names a session that is there, or none, by a URI that is short enough; and a SETUP finds room for
-- its stream, which has two channels.
abbrev pub IsAskedIn : List SeenSession → Option Going → Type 0
IsAskedIn sessions None = Unit {0}
IsAskedIn sessions (Some one) =
    NamesSession one.asked.place sessions × (length one.asked.uri ≤ LONGEST_URI) × (IsSome one.channels → length (session_or_none one.asked.place sessions).tracks < MOST_TRACKS) × IfSome one.channels AreApart

-- So many of those that wait were treated, and what becomes of all is the same whatever comes after them. What the next
-- one is judged by has short URIs.
pub record IsOnTheWay (first_given given : Given) (waiting : List Shape) (first : List ℕ) (progress : Progress) : Type 0 where
  pub within : progress.treated ≤ length waiting
  pub leads : (more : List Shape) → with_progress progress given (drop progress.treated waiting ++ more) ≡ ahead first [] (treated (waiting ++ more) first_given)
  pub filled : (sessions : List PlayerSession) → first_given.sessions ≡ map session_found sessions → IsFilled sessions given progress
  pub few : length given.sessions ≤ MOST_SESSIONS
  pub known : AreGivenWithin LONGEST_URI given
  pub asked : IsAskedIn given.sessions progress.going

-- They are treated until one goes up.
pub record IsTreated (first_given given : Given) (waiting : List Shape) (first : List ℕ) (progress : Progress) : Type 0 where
  pub way : IsOnTheWay first_given given waiting first progress
  pub all : progress.going ≡ None → progress.treated ≡ length waiting
