-- What changes a session between replies, one change a definition.
use Rattle.std.specs.Prelude.{[], ◌∷◌, ◌++◌, drop, None, length, ◌==◌, if◌then◌else◌}
use Rattle.session_one.specs.declared.table.State.TheVariants.{Ready}
use Rattle.session_one.specs.declared.parts.Play.{Play}
use Rattle.session_two.specs.declared.names.Names.{Names}
use Rattle.session_two.specs.Ends.{end_counts}
use Rattle.client_slot.specs.Session.{PlayerSession}

-- The end of what plays (RFC 7826, 13.5.1; RFC 2326, A.2: at the end of the requested range the session is Ready). It
-- stays Playing while a PLAY waits, which is then due.
abbrev pub when_ended : Names → PlayerSession → PlayerSession
when_ended names session =
    if end_counts session.running names
    then record session { state = if length session.queue == 0 then Ready else session.state; running = None }
    else session

-- The first PLAY that waits goes up.
abbrev pub when_next : PlayerSession → PlayerSession
when_next session = record session { queue = drop 1 session.queue }

-- A PLAY waits until what plays has ended (RFC 2326, 10.5).
abbrev pub when_queued : Play → PlayerSession → PlayerSession
when_queued play session = record session { queue = session.queue ++ play ∷ [] }

-- The PLAYs that waited are dropped (this project's own).
abbrev pub when_unqueued : PlayerSession → PlayerSession
when_unqueued session = record session { queue = [] }
