use Rattle.rtsp_head.proofs.facts.check_head.Given as goal

-- the ledger is the blank's
abbrev pub ghosts-check_with : goal.ghosts-check_with
ghosts-check_with a = record { name = a.blank.name; parts = a.blank.parts }
