-- The count is of a ledger of its own.
use Rattle.test_fields.proofs.numbers.step.Given as goal

abbrev pub ghosts-find : goal.ghosts-find
ghosts-find a = record { name = a.blank.name; parts = a.blank.parts }
