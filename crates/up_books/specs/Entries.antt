-- The entries of a book: what is kept under a key (this project's own).
use Rattle.std.specs.Prelude.{◌≡◌, ℕ, ◌<◌, ◌≤◌, Bool, List, [], ◌∷◌, length, slice_index_or, Option, Some, None, if◌then◌else◌}
use Rattle.std.specs.declared.cmp.Ordering.{Ordering}
use Rattle.std.specs.declared.cmp.Ordering.TheVariants.{Less, Greater}
use Rattle.up_books.specs.declared.entry.BookEntry.{BookEntry}

-- the connection of the first entry whose key is this one, by a test of keys
abbrev pub conn_of_key : {K : Type 0} → (K → K → Bool) → K → List (BookEntry K) → Option ℕ
conn_of_key same key [] = None
conn_of_key same key (entry ∷ entries) = if same entry.key key then Some entry.conn else conn_of_key same key entries

-- each key is below those after it, by an order of keys
abbrev pub HasRisingKeys : {K : Type 0} → (K → K → Ordering) → List (BookEntry K) → Type 0
HasRisingKeys {K} order entries =
    (i j : ℕ) (d : BookEntry K) → i < j → j < length entries → order (slice_index_or entries i d).key (slice_index_or entries j d).key ≡ Less

-- A key that no entry has would stand at this place: the keys before it are lower, and those from it on are higher.
pub record IsGapFor {K : Type 0} (order : K → K → Ordering) (key : K) (at : ℕ) (entries : List (BookEntry K)) : Type 0 where
  pub within : at ≤ length entries
  pub below : (k : ℕ) (d : BookEntry K) → k < at → order (slice_index_or entries k d).key key ≡ Less
  pub above : (k : ℕ) (d : BookEntry K) → at ≤ k → k < length entries → order (slice_index_or entries k d).key key ≡ Greater
