-- Connections that are over: nothing can come of their events any more, and nothing is kept of them (this project's own).
use Rattle.std.specs.Prelude.{◌&&◌, not, Bool, is_some, Option, Some, None, if◌then◌else◌}
use Rattle.client_slot.specs.Places.{filled_place}
use Rattle.client_slot.specs.Client.{Client}

-- It was closed, has no request open, and has no session that a TEARDOWN would go up for.
abbrev pub is_over : Client → Bool
is_over client = not client.alive && (not (is_some client.pending) && not (is_some (filled_place client.sessions)))

-- what is kept of a connection once it was looked whether it is over
abbrev pub unless_over : Option Client → Option Client
unless_over None = None
unless_over (Some client) = if is_over client then None else Some client
