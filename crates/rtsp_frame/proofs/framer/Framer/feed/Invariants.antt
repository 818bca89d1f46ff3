use Rattle.rtsp_frame.proofs.framer.Framer.feed.Given as goal

-- the ledger is the blank's
abbrev pub ghosts-feed_with : goal.ghosts-feed_with
ghosts-feed_with a = record { name = a.blank.name; parts = a.blank.parts }
