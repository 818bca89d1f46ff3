use Rattle.std.proofs.Common.{◌-◌, ◌^◌, ◌≤◌, ◌<◌}
use Rattle.gateway_mux.specs.Pictures.{picture}
use Rattle.gateway_mux.proofs.MuxLemmas.{NoneAlive}
use Rattle.gateway_mux.proofs.connections.Connections.next_alive.Given as goal

-- none is alive before the number that was reached
abbrev pub invariant-loop-conn : goal.invariant-loop-conn
invariant-loop-conn l = (l.from-2 ≤ l.from) × (l.from < 2 ^ 32) × NoneAlive l.self.bases (picture l.self.seats l.self.upstream) l.from-2 l.from

abbrev pub decreases-loop-conn : goal.decreases-loop-conn
decreases-loop-conn l = 2 ^ 32 - l.from
