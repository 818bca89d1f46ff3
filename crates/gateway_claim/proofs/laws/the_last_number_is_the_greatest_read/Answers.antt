use Rattle.std.proofs.Common.{refl}
use Rattle.gateway_claim.proofs.laws.the_last_number_is_the_greatest_read.Goals as goal

pub returns : goal.returns
returns c = refl
