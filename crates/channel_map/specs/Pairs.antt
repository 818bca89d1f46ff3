-- The pairs of channels of the server's connection, and who holds each (RFC 7826, 14, has the channels; that they are
-- given in pairs from the lowest on is this project's own).
use Rattle.std.specs.Prelude.{◌≡◌, ℕ, suc, zero, ◌+◌, ◌==◌, ◌&&◌, not, Bool, true, false, List, Option, Some, None, is_some, slice_index_or, length, count_by, if◌then◌else◌}
use Rattle.std.specs.Option.{option_and_then, option_map}
use Rattle.channel_map.specs.declared.map.TheConstants.{PAIRS}
use Rattle.channel_map.specs.PairSets.{is_in_set}
use Rattle.channel_map.specs.declared.map.Held.{Held}
use Rattle.channel_map.specs.declared.map.Freed.{Freed}
use Rattle.channel_map.specs.declared.map.Freed.TheVariants.{Nothing, Pair, Granted}

-- who holds a pair, by the table of all pairs
abbrev pub held_at : ℕ → List (Option Held) → Option Held
held_at pair table = slice_index_or table pair None

-- The table has a place for each pair, and each place speaks of its own pair.
pub record IsTable (table : List (Option Held)) : Type 0 where
  pub size : length table ≡ PAIRS
  pub own : (p : ℕ) (held : Held) → held_at p table ≡ Some held → held.pair ≡ p

-- who holds a pair once the server granted it
abbrev pub granted_now : Option Held → Option Held
granted_now place = option_map (λ held. record { conn = held.conn; pair = held.pair; granted = true }) place

-- whether nobody holds a pair
abbrev pub is_free : Option Held → Bool
is_free held = not (is_some held)

-- how many pairs are held
abbrev pub held_count : List (Option Held) → ℕ
held_count table = count_by is_some table

-- the first of so many numbers from this one on that is free
abbrev pub first_free : ℕ → ℕ → (ℕ → Bool) → Option ℕ
first_free zero at free = None
first_free (suc more) at free = if free at then Some at else first_free more (at + 1) free

-- the lowest pair that is free
unfoldable pub lowest_free : (ℕ → Bool) → Option ℕ
lowest_free free = first_free PAIRS 0 free

-- whether a pair that is held is freed: nothing is; one pair is; the granted ones of a set are
abbrev pub frees : Freed → Held → Bool
frees Nothing held = false
frees (Pair pair) held = held.pair == pair
frees (Granted pairs) held = held.granted && is_in_set pairs held.pair

-- who holds a pair once that is freed
abbrev pub kept : Freed → Option Held → Option Held
kept freed place = option_and_then (λ held. if frees freed held then None else Some held) place
