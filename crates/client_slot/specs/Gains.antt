-- What is brought to a session, as it is kept.
use Rattle.client_slot.specs.declared.gain.BroughtParts.{BroughtParts}
use Rattle.client_slot.specs.SessionTurns.{Brought}

-- as the definitions have it
abbrev pub brought_seen : BroughtParts → Brought
brought_seen parts = record { number = parts.number; control = parts.control; id = parts.id; track = parts.track }
