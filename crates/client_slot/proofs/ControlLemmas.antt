-- What sessions are about has a short enough URI, whatever a reply brings.
use Rattle.std.proofs.Common.{ℕ, zero, suc, ◌≤◌, List, [], ◌∷◌, length, map, Option, Some, None, IfSome}
use Rattle.std.specs.Prelude.{is_some}
use Rattle.std.specs.Option.{option_or}
use Rattle.rtsp_small.specs.declared.method.Method.{Method}
use Rattle.rtsp_small.specs.declared.method.Method.TheVariants as methods
use Rattle.client_slot.specs.declared.limits.TheConstants.{LONGEST_URI}
use Rattle.client_slot.specs.declared.purpose.Purpose.{Purpose}
use Rattle.client_slot.specs.declared.purpose.Purpose.TheVariants as purposes
use Rattle.client_slot.specs.declared.session_turn.PartTurn.{PartTurn}
use Rattle.client_slot.specs.declared.session_turn.PartTurn.TheVariants.{Keeps, Takes, Loses}
use Rattle.client_slot.specs.Session.{PlayerSession}
use Rattle.client_slot.specs.Places.{session_at, changed_at, changed_where}
use Rattle.client_slot.specs.SessionChanges.{when_unqueued}
use Rattle.client_slot.specs.SessionTurns.{control_by, brought_by, part_then, reply_turn}
use Rattle.client_slot.specs.Changes.{settled_place, session_after, sessions_after}
use Rattle.client_slot.specs.Bounds.{IsPlaced, AreControlsShort}

-- a URI, where there is one, is short enough
abbrev pub IsShortUri : Option (List ℕ) → Type 0
IsShortUri uri = IfSome uri (λ one. length one ≤ LONGEST_URI)

pub short_at : (place : ℕ) (sessions : List PlayerSession) → AreControlsShort sessions → IsShortUri (session_at place sessions).control
short_at place [] short = tt
short_at zero (one ∷ more) short = short.0
short_at (suc place) (one ∷ more) short = short_at place more short.1

pub changed_short : (place : ℕ) (change : PlayerSession → PlayerSession) (sessions : List PlayerSession) → AreControlsShort sessions → IsShortUri (change (session_at place sessions)).control → AreControlsShort (changed_at place change sessions)
changed_short place change [] short here = tt
changed_short zero change (one ∷ more) short here = (here, short.1)
changed_short (suc place) change (one ∷ more) short here = (short.0, changed_short place change more short.1 here)

pub unqueued_short : (sessions : List PlayerSession) → AreControlsShort sessions → AreControlsShort (map when_unqueued sessions)
unqueued_short [] short = tt
unqueued_short (one ∷ more) short = (short.0, unqueued_short more short.1)

-- What a reply brings.
part_short : (part : PartTurn) (was new : Option (List ℕ)) → IsShortUri was → IsShortUri new → IsShortUri (part_then part was new)
part_short Keeps was new a b = a
part_short Takes was new a b = b
part_short Loses was new a b = tt

about_short : (described : Option (List ℕ)) (uri : List ℕ) → IsShortUri described → length uri ≤ LONGEST_URI → IsShortUri (option_or described (Some uri))
about_short None uri was short = short
about_short (Some one) uri was short = was

by_method : (method : Method) (uri : List ℕ) (described : Option (List ℕ)) → length uri ≤ LONGEST_URI → IsShortUri described → IsShortUri (control_by method uri described)
by_method methods.Options uri described short was = short
by_method methods.Describe uri described short was = tt
by_method methods.Setup uri described short was = about_short described uri was short
by_method methods.Play uri described short was = short
by_method methods.Pause uri described short was = short
by_method methods.Teardown uri described short was = short
by_method methods.GetParameter uri described short was = short
by_method methods.SetParameter uri described short was = short

brought_short : (purpose : Purpose) (tracks number : ℕ) (described id : Option (List ℕ)) → IsPlaced tracks purpose → IsShortUri described → IsShortUri (brought_by purpose number described id).control
brought_short (purposes.Client asked track) tracks number described id placed was = by_method asked.method asked.uri described placed.0 was
brought_short (purposes.Released play) tracks number described id placed was = placed
brought_short (purposes.Closing place) tracks number described id placed was = tt

session_short : (purpose : Purpose) (tracks number code : ℕ) (described id : Option (List ℕ)) (session : PlayerSession) → IsPlaced tracks purpose → IsShortUri described → IsShortUri session.control
    → IsShortUri (session_after purpose number code described id session).control
session_short purpose tracks number code described id session placed was control =
    part_short (reply_turn purpose code (is_some id) session.state).control session.control (brought_by purpose number described id).control control (brought_short purpose tracks number described id placed was)

pub where_short : (place : Option ℕ) (change : PlayerSession → PlayerSession) (sessions : List PlayerSession) → AreControlsShort sessions → ((session : PlayerSession) → IsShortUri session.control → IsShortUri (change session).control)
    → AreControlsShort (changed_where place change sessions)
where_short None change sessions short kept = short
where_short (Some place) change sessions short kept = changed_short place change sessions short (kept (session_at place sessions) (short_at place sessions short))

pub controls_after : (purpose : Purpose) (tracks number code : ℕ) (described id : Option (List ℕ)) (sessions : List PlayerSession) → IsPlaced tracks purpose → IsShortUri described → AreControlsShort sessions
    → AreControlsShort (sessions_after purpose number code described id sessions)
controls_after purpose tracks number code described id sessions placed was short =
    where_short (settled_place purpose id sessions) (session_after purpose number code described id) sessions short (λ session. session_short purpose tracks number code described id session placed was)
