use Rattle.std.proofs.Common.{◌∙◌, sym, ap}
use Rattle.gateway_mux.specs.Pictures.{picture}
use Rattle.gateway_mux.proofs.TellLemmas.{alive_in, is_alive_client}
use Rattle.gateway_mux.proofs.connections.Connections.alive.Goals as goal

-- src/tells.rt:12:5
pub returns-in-Some : goal.returns-in-Some
returns-in-Some c = λ T is.
    c.alive.ensures ∙ ap is_alive_client c.in-Some.ensures ∙ sym (alive_in c.args.self.now.bases (picture c.args.self.now.seats c.args.self.now.upstream) T is c.args.conn)

pub returns-in-None : goal.returns-in-None
returns-in-None c = λ T is.
    ap is_alive_client c.in-None.ensures ∙ sym (alive_in c.args.self.now.bases (picture c.args.self.now.seats c.args.self.now.upstream) T is c.args.conn)
