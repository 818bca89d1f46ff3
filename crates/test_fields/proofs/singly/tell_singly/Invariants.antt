use Rattle.test_fields.proofs.singly.tell_singly.Given as goal

-- the ledger is the blank's
abbrev pub ghosts-feed_with : goal.ghosts-feed_with
ghosts-feed_with a = record { name = a.blank.name; parts = a.blank.parts }
