use Rattle.std.proofs.Common.{◌∙◌, ◌&&◌, sym, ap}
use Rattle.std.specs.Prelude.{is_some}
use Rattle.gateway_mux.specs.Pictures.{picture}
use Rattle.gateway_mux.proofs.TellLemmas.{busy_in, is_busy_client}
use Rattle.gateway_mux.proofs.connections.Connections.busy.Goals as goal

-- src/tells.rt:22:5
pub returns-then-alive : goal.returns-then-alive
returns-then-alive c = λ T is.
    c.busy.ensures
    ∙ ap (λ t. t && is_some c.in-Some.slot.now.pending) c.if-alive.ensures
    ∙ ap is_busy_client c.in-Some.ensures
    ∙ sym (busy_in c.args.self.now.bases (picture c.args.self.now.seats c.args.self.now.upstream) T is c.args.conn)
