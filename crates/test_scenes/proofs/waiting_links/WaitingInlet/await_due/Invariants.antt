use Rattle.std.proofs.Common.{◌≡◌, ◌<◌, length}
use Rattle.test_scenes.proofs.waiting_links.WaitingInlet.await_due.Given as goal

-- the counts are as they were, and there is room for what comes
abbrev pub invariant-loop : goal.invariant-loop
invariant-loop l = record {
  room : 0 < length l.into;
  faults : l.self.faults ≡ l.fn.self.faults;
  nothings : l.self.nothings ≡ l.fn.self.nothings;
  ends : l.self.ends ≡ l.fn.self.ends;
}
