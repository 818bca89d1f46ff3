-- The book of the numbers of open requests (RFC 7826, 18.20, has the numbers; that they count up by one is this
-- project's own).
use Rattle.std.specs.Prelude.{◌≡◌, ℕ, ◌+◌, ◌==◌, ◌<◌, ◌≤◌, List, Option, Some, None, if◌then◌else◌}
use Rattle.std.specs.Ordering.{nat_cmp}
use Rattle.up_books.specs.declared.entry.BookEntry.{BookEntry}
use Rattle.up_books.specs.declared.cseq.TheConstants.{LAST_NUMBER}
use Rattle.up_books.specs.Entries.{conn_of_key, HasRisingKeys}

-- the last number that was issued, for how many more requests there is room, and who asked each open one
pub record IssuedNumbers : Type 0 where
  pub issued : ℕ
  pub spare : ℕ
  pub loans : List (BookEntry ℕ)

-- the connection that asked the open request with a number
abbrev pub asker_in : ℕ → List (BookEntry ℕ) → Option ℕ
asker_in number loans = conn_of_key (λ a b. a == b) number loans

-- who asked a number
abbrev pub asker_of : IssuedNumbers → ℕ → Option ℕ
asker_of book number = asker_in number book.loans

-- the next number, where there is one
abbrev pub next_number : ℕ → Option ℕ
next_number issued = if issued == LAST_NUMBER then None else Some (issued + 1)

-- The numbers of the open requests rise, and each was issued.
pub record IsNumbers (issued : ℕ) (loans : List (BookEntry ℕ)) : Type 0 where
  pub last : issued ≤ LAST_NUMBER
  pub rising : HasRisingKeys nat_cmp loans
  pub given : (number : ℕ) → issued < number → asker_in number loans ≡ None
