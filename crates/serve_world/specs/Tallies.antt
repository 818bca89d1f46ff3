-- What each call adds to the counts of a world. Each count stays at its last value. This project's own.
use Rattle.std.specs.Prelude.{◌≡◌, ℕ, ◌+◌, ◌≤◌, Bool, true, false}
use Rattle.gate_outside.specs.Causes.{capped, counted_on}
use Rattle.serve_world.specs.declared.tally.WorldTally.{WorldTally}

-- the counts of a world to which nothing has happened
abbrev pub no_tally : WorldTally
no_tally = record { listens = 0; listens_failed = 0; dials = 0; dials_failed = 0; records = 0; records_failed = 0; door_faults = 0; door_ends = 0; link_faults = 0; link_ends = 0; record_faults = 0; crew_refusals = 0 }

-- a door was asked for, and opened or not
abbrev pub after_listen : Bool → WorldTally → WorldTally
after_listen true tally = record tally { listens = counted_on tally.listens }
after_listen false tally = record tally { listens_failed = counted_on tally.listens_failed }

-- a link to the server was asked for, and made or not
abbrev pub after_dial : Bool → WorldTally → WorldTally
after_dial true tally = record tally { dials = counted_on tally.dials }
after_dial false tally = record tally { dials_failed = counted_on tally.dials_failed }

-- a recorder was asked for, and made or not
abbrev pub after_record : Bool → WorldTally → WorldTally
after_record true tally = record tally { records = counted_on tally.records }
after_record false tally = record tally { records_failed = counted_on tally.records_failed }

-- a thread was refused
abbrev pub after_refusal : WorldTally → WorldTally
after_refusal tally = record tally { crew_refusals = counted_on tally.crew_refusals }

-- a door came back that had failed so often, and told so often that no link comes any more
abbrev pub after_door : ℕ → ℕ → WorldTally → WorldTally
after_door faults ends tally = record tally { door_faults = capped (tally.door_faults + faults); door_ends = capped (tally.door_ends + ends) }

-- the link to the server came back, whose halves had failed so often, and whose inlet had ended so often
abbrev pub after_link : ℕ → ℕ → ℕ → WorldTally → WorldTally
after_link in_faults out_faults ends tally = record tally { link_faults = capped (tally.link_faults + (in_faults + out_faults)); link_ends = capped (tally.link_ends + ends) }

-- a recorder came back, of which so many faults are counted
abbrev pub after_recorder : ℕ → WorldTally → WorldTally
after_recorder faults tally = record tally { record_faults = capped (tally.record_faults + faults) }

-- A recorder came back that had failed so often: that is counted, and what else failed while it was closed. No other count
-- changed.
pub record CountsRecorder (faults : ℕ) (before now : WorldTally) : Type 0 where
  pub others : now ≡ record before { record_faults = now.record_faults }
  pub added : capped (before.record_faults + faults) ≤ now.record_faults
