-- The numbers of the connections that are kept (this project's own).
use Rattle.std.specs.Prelude.{◌≡◌, ℕ, ◌^◌, ◌≤◌, ◌<◌, vec_len, vec_capacity, Option, Some, None}
use Rattle.connection_table.specs.declared.directory.Directory.{Directory}
use Rattle.connection_table.specs.RisingNumbers.{key_beside}

-- the key under which connection i is kept, where it is
abbrev pub key_of : Directory → ℕ → Option ℕ
key_of directory i = key_beside directory.numbers.items directory.keys.items i

-- the first number from this one on that entered; none where there is none of 32 bits
abbrev pub IsNextNumber : Directory → ℕ → Option ℕ → Type 0
IsNextNumber directory from None = (i : ℕ) → from ≤ i → i < 2 ^ 32 → key_of directory i ≡ None
IsNextNumber directory from (Some conn) = (from ≤ conn) × ((i : ℕ) → from ≤ i → i < conn → key_of directory i ≡ None)

-- One number more needs no memory.
pub record HasPlace (directory : Directory) : Type 0 where
  pub numbers : vec_len directory.numbers < vec_capacity directory.numbers
  pub keys : vec_len directory.keys < vec_capacity directory.keys
