-- How a writer goes to its thread and comes back. This project's own.
use Rattle.std.specs.Prelude.{◌≡◌, Bool, true, false, Option, Some, None, Result, Ok, Err}
use Rattle.gateway_links.specs.declared.place.WriterPlace.{WriterPlace}
use Rattle.gateway_links.specs.declared.place.WriterPlace.TheVariants.{Free, Waiting, Working, Done}
use Rattle.gateway_links.specs.declared.place.WriterSlot.{WriterSlot}
use Rattle.gateway_links.specs.declared.place.Found.{Found}
use Rattle.gateway_links.specs.declared.place.Found.TheVariants.{Writer, NotYet, Closed}

-- whether no writer is there or with the thread
abbrev pub is_vacant : {W : Type 0} → WriterPlace W → Bool
is_vacant Free = true
is_vacant (Waiting writer) = false
is_vacant Working = false
is_vacant (Done writer) = false

-- whether a writer waits for its reader
abbrev pub is_done : {W : Type 0} → WriterPlace W → Bool
is_done Free = false
is_done (Waiting writer) = false
is_done Working = false
is_done (Done writer) = true

-- whether a writer waits for the thread
abbrev pub is_waiting : {W : Type 0} → WriterPlace W → Bool
is_waiting Free = false
is_waiting (Waiting writer) = true
is_waiting Working = false
is_waiting (Done writer) = false

-- A writer was left for the thread, where the place was free and not closed; else it is given back, and all is as before.
abbrev pub Leaves : {W : Type 0} → WriterSlot W → WriterSlot W → W → Result (Unit {0}) W → Type 0
Leaves old new writer (Ok u) = (is_vacant old.place ≡ true) × (old.closed ≡ false) × (new.place ≡ Waiting writer) × (new.closed ≡ false)
Leaves old new writer (Err back) = (back ≡ writer) × (old.closed ≡ false → is_vacant old.place ≡ false) × (new ≡ old)

-- The thread found the writer that waited for it, or none did, and then all is as before.
abbrev pub Finds : {W : Type 0} → WriterSlot W → WriterSlot W → Found W → Type 0
Finds old new (Writer writer) = (old.place ≡ Waiting writer) × (new.place ≡ Working) × (new.closed ≡ old.closed)
Finds old new NotYet = (is_waiting old.place ≡ false) × (old.closed ≡ false) × (new ≡ old)
Finds old new Closed = (is_waiting old.place ≡ false) × (old.closed ≡ true) × (new ≡ old)

-- The reader was given the writer that waited for it, or none did, and then all is as before.
abbrev pub Returns : {W : Type 0} → WriterSlot W → WriterSlot W → Option W → Type 0
Returns old new (Some writer) = (old.place ≡ Done writer) × (new.place ≡ Free) × (new.closed ≡ old.closed)
Returns old new None = (is_done old.place ≡ false) × (new ≡ old)
