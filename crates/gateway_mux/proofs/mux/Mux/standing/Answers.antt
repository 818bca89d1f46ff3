use Rattle.std.proofs.Common.{sym}
use Rattle.gateway_mux.proofs.MuxLemmas.{still_open, dead_over}
use Rattle.gateway_mux.proofs.StandLemmas.{open_picture}
use Rattle.gateway_mux.proofs.mux.Mux.standing.Goals as goal

pub returns-then-is_some-clause-tells : goal.returns-then-is_some-clause-tells
returns-then-is_some-clause-tells c = λ T stands. sym (dead_over c.args.self.now T stands (sym c.if-is_some.ensures) c.args.conn)

pub returns-clause-tells : goal.returns-clause-tells
returns-clause-tells c = λ T stands. c.standing.ensures.tells T (open_picture c.args.self.now T stands (still_open c.args.self.now.ended (sym c.if-is_some.ensures)))
