-- What a look at a port leaves as it was, and for whom bytes were put last (this project's own).
use Rattle.std.specs.Prelude.{◌≡◌, ℕ, Bool, true, false, List, Option, Result, Ok, Err}
use Rattle.std.specs.Option.{option_or}
use Rattle.gateway_hub.specs.declared.fault.HubFault.{HubFault}
use Rattle.gateway_hub.specs.declared.desk.Desk.{Desk}
use Rattle.hub_queues.specs.declared.line.Place.{Place}
use Rattle.gateway_hub.specs.Ends.{PutsFor}
use Rattle.hub_queues.specs.Places.{LineChanges}
use Rattle.hub_queues.specs.Room.{IsLookedAt}

-- The line of this connection was looked at, and nothing else was done.
pub record LooksAt (conn : ℕ) (before now : Desk) : Type 0 where
  pub server : now.server ≡ before.server
  pub lines : LineChanges conn IsLookedAt before.places.items now.places.items
  pub fall : now.fall ≡ before.fall
  pub ending : now.ending ≡ before.ending

-- Where an item of the server was taken, the connection for which bytes were put then is kept as the last one.
abbrev pub RemembersLast : Result Bool HubFault → Option ℕ → Option ℕ → List Place → List Place → Type 0
RemembersLast (Ok true) last_before last before now = (landed : Option ℕ) × (last ≡ option_or landed last_before) × PutsFor landed before now
RemembersLast (Ok false) last_before last before now = last ≡ last_before
RemembersLast (Err fault) last_before last before now = last ≡ last_before
