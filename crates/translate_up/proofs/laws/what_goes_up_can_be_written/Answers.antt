use Rattle.translate_up.proofs.DecideLemmas.{decide_sound}
use Rattle.translate_up.proofs.laws.what_goes_up_can_be_written.Goals as goal

pub returns : goal.returns
returns c given shape fit short = decide_sound given shape fit short
