use Rattle.std.proofs.Common.{◌∙◌}
use Rattle.gateway_mux.proofs.MuxLemmas.{still_open, idle_over}
use Rattle.gateway_mux.proofs.StandLemmas.{open_picture}
use Rattle.gateway_mux.proofs.mux.Mux.busy.Goals as goal

-- src/mux.rt:123:5
pub returns-then-is_none : goal.returns-then-is_none
returns-then-is_none c = λ T stands. c.busy.ensures T (open_picture c.args.self.now T stands (still_open c.args.self.now.ended c.if-is_none.ensures))

-- src/mux.rt:123:5
pub returns-else-is_none : goal.returns-else-is_none
returns-else-is_none c = λ T stands. c.if-is_none.false ∙ idle_over c.args.self.now T stands c.if-is_none.ensures c.args.conn
