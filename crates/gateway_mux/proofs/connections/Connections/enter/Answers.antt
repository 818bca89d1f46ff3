use Rattle.std.proofs.Common.{refl}
use Rattle.gateway_mux.specs.Pictures.{picture}
use Rattle.gateway_mux.proofs.ReadyLemmas.{absent_new, room_used}
use Rattle.gateway_mux.proofs.connections.Connections.enter.Goals as goal

pub enter-requires-clause-new : goal.enter-requires-clause-new
enter-requires-clause-new c = absent_new c.args.self.now.bases (picture c.args.self.now.seats c.args.self.now.upstream) c.args.conn c.requires.new

pub invariant_of-self : goal.invariant_of-self
invariant_of-self c =
    let after = room_used c.args.self.now.bases c.args.conn c.args.self.now.seats c.enter.new.self c.args.self.now.upstream c.requires.ready c.enter.ensures.ready c.requires.new
    (record { clients = c.enter.ensures.clients; asker = λ n. refl; held = λ p. refl; holder = λ id. refl; issued = refl })
    (record { kept = c.args.self.now.kept; spare = c.args.self.now.spare; spare_session = c.args.self.now.spare_session }) in
    record { kept = after.kept; spare = after.spare; spare_session = after.spare_session }
