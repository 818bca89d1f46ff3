use Rattle.gateway_claim.specs.Happenings.{standing}
use Rattle.gateway_mux.proofs.mux.Mux.next_alive.Goals as goal

pub returns : goal.returns
returns c = λ T stands. c.next_alive.ensures (standing T) stands.is_picture
