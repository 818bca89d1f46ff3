use Rattle.std.proofs.Common.{◌≡◌}
use Rattle.test_scenes.proofs.waiting_links.WaitingOutlet.await_room.Given as goal

-- the count of faults is as it was
abbrev pub invariant-loop : goal.invariant-loop
invariant-loop l = l.self.faults ≡ l.fn.self.faults
