use Rattle.rtsp_frame.proofs.cut_items.whole.Given as goal

-- the ledger is the blank's
abbrev pub ghosts-whole_with : goal.ghosts-whole_with
ghosts-whole_with a = record { name = a.blank.name; parts = a.blank.parts }
