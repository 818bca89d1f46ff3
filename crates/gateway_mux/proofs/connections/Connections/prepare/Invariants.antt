use Rattle.std.proofs.Common.{◌≡◌}
use Rattle.gateway_mux.proofs.ReadyLemmas.{IsPreparing}
use Rattle.gateway_mux.proofs.connections.Connections.prepare.Given as goal

-- there is room for a request, and for as many sessions as places were gone through
abbrev pub invariant-loop-place : goal.invariant-loop-place
invariant-loop-place l = IsPreparing l.fn.self.seats l.self.seats l.fn.self.upstream l.self.upstream l._place × (l.self.bases ≡ l.fn.self.bases)
