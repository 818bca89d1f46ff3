use Rattle.std.proofs.Common.{refl, []}
use Rattle.gateway_mux.proofs.StandLemmas.{never_fresh}
use Rattle.test_transcripts.proofs.gateway.entered.Goals as goal

pub enter-requires : goal.enter-requires
enter-requires c = never_fresh c.in_ok-mux.mux [] c.args.conn c.in_ok-mux.ensures refl

pub returns : goal.returns
returns c = c.in_ok-enter.ensures.ok [] c.in_ok-mux.ensures refl
