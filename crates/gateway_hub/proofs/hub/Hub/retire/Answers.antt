use Rattle.std.proofs.Common.{◌++◌}
use Rattle.std.proofs.Math.Logic.{∥∥₁_map}
use Rattle.gateway_hub.proofs.hub.Hub.retire.Goals as goal

pub invariant_of-self : goal.invariant_of-self
invariant_of-self g c =
    let r = c.retire.ensures.retires in
    record { keeps = ∥∥₁_map c.args.self.now.keeps (λ k. record { history = r.more ++ k.history; keeps = r.keeps_so k.history k.keeps }) }
