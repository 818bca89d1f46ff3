-- What is seen of a connection as it will be (this project's own).
use Rattle.std.specs.Prelude.{List, map}
use Rattle.session_one.specs.declared.parts.Track.{Track}
use Rattle.client_machine.specs.declared.outlook.Outlook.{Outlook}
use Rattle.client_machine.specs.Sights.{Sight, sight, replaced_where, streams_where}

-- what is seen of its sessions, without where it lies in memory
abbrev pub sights_of : Outlook → List Sight
sights_of outlook = replaced_where outlook.changed (map sight outlook.slot.now.sessions)

-- the streams of the session that changes, as they will be
abbrev pub streams_changed : Outlook → List Track
streams_changed outlook = streams_where outlook.changed
