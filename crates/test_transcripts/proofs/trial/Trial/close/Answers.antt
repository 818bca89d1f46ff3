use Rattle.std.proofs.Common.{None}
use Rattle.test_transcripts.proofs.trial.Trial.close.Goals as goal

pub carry_out-requires : goal.carry_out-requires
carry_out-requires c = (c.plan_close-plan.ensures.plan c.args.self.now.bases 0 None).ready
