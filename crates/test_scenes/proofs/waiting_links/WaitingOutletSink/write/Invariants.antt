use Rattle.std.proofs.Common.{◌≤◌}
use Rattle.test_scenes.proofs.waiting_links.WaitingOutletSink.write.Given as goal

-- the count of faults has not fallen
abbrev pub invariant-loop : goal.invariant-loop
invariant-loop l = l.fn.self.faults ≤ l.self.faults
