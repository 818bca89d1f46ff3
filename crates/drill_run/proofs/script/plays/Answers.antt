use Rattle.drill_run.proofs.script.plays.Goals as goal

pub returns : goal.returns
returns c = rw (c.in_ok-push_slice.ensures.ok, c.as_bytes.ensures, c.in_ok-text.ensures, c.in_ok-second.ensures)
