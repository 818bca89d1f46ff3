-- The book of the ids of sessions (RFC 7826, 4.3, has the ids; that one is bound to one connection is this project's own).
use Rattle.std.specs.Prelude.{ℕ, ◌-◌, nat_lt, List, length, drop, Option, Some, None, Result, Ok, Err, if◌then◌else◌}
use Rattle.std.specs.Str.{bytes_eq}
use Rattle.std.specs.declared.cmp.Ordering.{Ordering}
use Rattle.std.specs.Int.{w64, from_le_bytes}
use Rattle.std.specs.Ordering.{nat_cmp, on, then_cmp}
use Rattle.std.specs.Cmp.Lexicographic.{slice_cmp}
use Rattle.up_books.specs.declared.entry.BookEntry.{BookEntry}
use Rattle.up_books.specs.declared.session.BoundElsewhere.{BoundElsewhere}
use Rattle.up_books.specs.Entries.{conn_of_key, HasRisingKeys}

-- for how many more sessions there is room, and the connection that each id is bound to
pub record Ids : Type 0 where
  pub spare : ℕ
  pub bound : List (BookEntry (List ℕ))

-- the connection that an id is bound to
abbrev pub holder_in : List ℕ → List (BookEntry (List ℕ)) → Option ℕ
holder_in id bound = conn_of_key bytes_eq id bound

-- whose a session is
abbrev pub holder_of : Ids → List ℕ → Option ℕ
holder_of book id = holder_in id book.bound

-- what becomes of an id that is to be bound: it is given back where a connection has it
abbrev pub binding : List ℕ → Option ℕ → Result Unit BoundElsewhere
binding id None = Ok tt
binding id (Some owner) = Err (record { id = id; owner = owner })

-- the last eight bytes of an id as one number, or 0 where it has fewer
abbrev pub id_end : List ℕ → ℕ
id_end id = if nat_lt (length id) 8 then 0 else from_le_bytes w64 (drop (length id - 8) id)

-- the order of two ids: by their ends, and then by all of their bytes from the front on
abbrev pub id_order : List ℕ → List ℕ → Ordering
id_order = then_cmp (on id_end nat_cmp) (slice_cmp nat_cmp)

-- the ids rise, so none is bound twice
abbrev pub IsIds : List (BookEntry (List ℕ)) → Type 0
IsIds bound = HasRisingKeys id_order bound
