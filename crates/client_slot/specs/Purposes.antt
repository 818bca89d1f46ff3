-- What the open request of a connection is for.
use Rattle.std.specs.Option.{option_map}
use Rattle.client_slot.specs.declared.purpose.Purpose.{Purpose}
use Rattle.client_slot.specs.declared.purpose.Purpose.TheVariants as purposes
use Rattle.client_slot.specs.declared.purpose.Pending.{Pending}
use Rattle.client_slot.specs.declared.purpose.Pending.TheVariants as lent
use Rattle.client_slot.specs.declared.purpose.Settled.{Settled}
use Rattle.client_slot.specs.declared.purpose.Settled.TheVariants as settled

-- a lent purpose as it is kept
abbrev pub purpose_seen : Pending → Purpose
purpose_seen (lent.Client asked track) = purposes.Client asked.now (option_map (λ one. one.now) track)
purpose_seen (lent.Released play) = purposes.Released play.now
purpose_seen (lent.Closing place) = purposes.Closing place

-- what is told of a purpose once it is settled
abbrev pub settled_as : Purpose → Settled
settled_as (purposes.Client asked track) = settled.Client asked.method
settled_as (purposes.Released play) = settled.Released
settled_as (purposes.Closing place) = settled.Closing
