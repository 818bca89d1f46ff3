use Rattle.std.proofs.Common.{◌∙◌}
use Rattle.gateway_claim.specs.Happenings.{standing}
use Rattle.gateway_mux.specs.Stands.{bases_of}
use Rattle.gateway_mux.proofs.TellLemmas.{waiting_standing}
use Rattle.gateway_mux.proofs.mux.Mux.waiting.Goals as goal

pub returns : goal.returns
returns c = λ T stands. c.waiting.ensures (standing T) stands.is_picture ∙ waiting_standing (bases_of c.args.self.now) T stands.is_history c.args.conn
