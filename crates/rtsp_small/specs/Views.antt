-- What the types of this crate say, without where it lies in memory.
use Rattle.rtsp_small.specs.declared.session.SessionField.{SessionField}
use Rattle.rtsp_small.specs.Sessions.{SessionParts}

-- what a Session field says whose id is borrowed
abbrev pub session_seen : SessionField → SessionParts
session_seen field = record { id = field.id.now; timeout = field.timeout }
