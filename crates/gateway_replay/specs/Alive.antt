-- Which connections are alive, as a replay keeps them (this project's own).
use Rattle.std.specs.Prelude.{◌≡◌, ℕ, ◌<◌, Bool, true, false}
use Rattle.std.specs.Ordering.{nat_cmp}
use Rattle.std.specs.BTreeSet.{contains, btree_set_len}
use Rattle.gateway_replay.specs.declared.alive.Living.{Living}

-- whether a connection is among them, and how many there are
abbrev pub lives : Living → ℕ → Bool
lives living conn = contains nat_cmp living.numbers conn

-- how many connections are alive
abbrev pub how_many_live : Living → ℕ
how_many_live living = btree_set_len living.numbers

-- this one is, and none with a lower number
pub record IsFirstLiving (living : Living) (conn : ℕ) : Type 0 where
  pub is : lives living conn ≡ true
  pub lowest : (i : ℕ) → i < conn → lives living i ≡ false
