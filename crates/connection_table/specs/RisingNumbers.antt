-- Rising numbers, and what stands beside them (this project's own).
use Rattle.std.specs.Prelude.{ℕ, ◌<◌, ◌==◌, List, [], ◌∷◌, length, Option, Some, None, if◌then◌else◌, slice_index_or}

-- Each number is greater than those before it.
abbrev pub IsRising : List ℕ → Type 0
IsRising numbers = (i j : ℕ) → i < j → j < length numbers → slice_index_or numbers i 0 < slice_index_or numbers j 0

-- the key that stands beside a number
abbrev pub key_beside : List ℕ → List ℕ → ℕ → Option ℕ
key_beside [] keys i = None
key_beside (n ∷ numbers) [] i = None
key_beside (n ∷ numbers) (key ∷ keys) i = if n == i then Some key else key_beside numbers keys i
