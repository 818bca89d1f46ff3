use Rattle.std.proofs.Common.{◌∙◌, sym, ap}
use Rattle.gateway_mux.specs.Pictures.{picture}
use Rattle.gateway_mux.proofs.TellLemmas.{waiting_in, waiting_of}
use Rattle.gateway_mux.proofs.connections.Connections.waiting.Goals as goal

pub returns-in-Some : goal.returns-in-Some
returns-in-Some c = λ T is.
    c.waiting.ensures ∙ ap waiting_of c.in-Some.ensures ∙ sym (waiting_in c.args.self.now.bases (picture c.args.self.now.seats c.args.self.now.upstream) T is c.args.conn)

pub returns-in-None : goal.returns-in-None
returns-in-None c = λ T is.
    ap waiting_of c.in-None.ensures ∙ sym (waiting_in c.args.self.now.bases (picture c.args.self.now.seats c.args.self.now.upstream) T is c.args.conn)
