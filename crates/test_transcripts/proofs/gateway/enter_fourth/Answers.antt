use Rattle.std.proofs.Common.{refl, [], ◌∷◌}
use Rattle.gateway_claim.specs.Happenings.{entering}
use Rattle.gateway_mux.proofs.StandLemmas.{never_fresh}
use Rattle.test_transcripts.proofs.gateway.enter_fourth.Goals as goal

pub enter-requires : goal.enter-requires
enter-requires c = c.prepare.ensures.fresh 4 (never_fresh c.args.mux.now (entering 7 ∷ []) 4 c.requires refl)
