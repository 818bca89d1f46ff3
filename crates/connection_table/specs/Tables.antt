-- What is kept of connections, each under its number (this project's own).
use Rattle.std.specs.Prelude.{◌≡◌, ℕ, ◌^◌, ◌≤◌, ◌<◌, Bool, is_some, Option, Some, None}
use Rattle.std.specs.Option.{option_and_then}
use Rattle.slab.specs.Slab.{get as slab_get}
use Rattle.client_slot.specs.Client.{Client}
use Rattle.connection_table.specs.Directories.{key_of}
use Rattle.connection_table.specs.declared.table.KeyedSlot.{KeyedSlot}
use Rattle.connection_table.specs.declared.table.ConnectionTable.{ConnectionTable}

-- what is kept under a key
abbrev pub under_key : ConnectionTable → ℕ → Option Client
under_key seats key = slab_get seats.slots key

-- connection i, where it is kept
abbrev pub client_at : ConnectionTable → ℕ → Option Client
client_at seats i = option_and_then (under_key seats) (key_of seats.directory i)

-- The next connection can enter without memory.
abbrev pub is_ready : ConnectionTable → Bool
is_ready seats = is_some seats.spare

-- Connection i is kept under that key.
abbrev pub IsKeyOf : ConnectionTable → ℕ → ℕ → Type 0
IsKeyOf seats i key = key_of seats.directory i ≡ Some key

-- where connection i is kept; nothing where it isn't
abbrev pub IsSeatAt : ConnectionTable → ℕ → Option KeyedSlot → Type 0
IsSeatAt seats i None = client_at seats i ≡ None
IsSeatAt seats i (Some seat) = IsKeyOf seats i seat.key × (client_at seats i ≡ Some seat.slot.now)

-- the first number from this one on that is kept; none where there is none of 32 bits
abbrev pub IsNextSeat : ConnectionTable → ℕ → Option ℕ → Type 0
IsNextSeat seats from None = (i : ℕ) → from ≤ i → i < 2 ^ 32 → client_at seats i ≡ None
IsNextSeat seats from (Some conn) = (from ≤ conn) × ((i : ℕ) → from ≤ i → i < conn → client_at seats i ≡ None)
