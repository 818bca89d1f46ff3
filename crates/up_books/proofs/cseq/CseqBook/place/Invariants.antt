-- The count is of a ledger of its own.
use Rattle.up_books.proofs.cseq.CseqBook.place.Given as goal

abbrev pub ghosts-find_counted : goal.ghosts-find_counted
ghosts-find_counted a = record { name = a.blank.name; parts = a.blank.parts }
