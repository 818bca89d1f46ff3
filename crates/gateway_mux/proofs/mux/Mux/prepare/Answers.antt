use Rattle.std.proofs.Common.{refl}
use Rattle.std.proofs.Math.Logic.{∥∥₁_map}
use Rattle.gateway_mux.specs.declared.mux.Mux.{Mux}
use Rattle.gateway_mux.proofs.MuxLemmas.{unchanged_stands}
use Rattle.gateway_mux.proofs.mux.Mux.prepare.Goals as goal

pub returns-clause-stands : goal.returns-clause-stands
returns-clause-stands c =
    let old : Mux = c.args.self.now in
    let new : Mux = record { connections = c.prepare.new.self; ended = old.ended; dropped = old.dropped } in
    unchanged_stands old new refl refl c.prepare.ensures.bases c.prepare.ensures.same

pub returns-clause-fresh : goal.returns-clause-fresh
returns-clause-fresh c conn fresh =
    let old : Mux = c.args.self.now in
    let new : Mux = record { connections = c.prepare.new.self; ended = old.ended; dropped = old.dropped } in
    ∥∥₁_map fresh (λ is. record {
      history = is.history;
      stood = unchanged_stands old new refl refl c.prepare.ensures.bases c.prepare.ensures.same is.history is.stood;
      never = is.never;
    })
