use Rattle.translate_up.proofs.FreeLemmas.{lowest_found}
use Rattle.translate_up.proofs.laws.the_lowest_free_channels_are_given.Goals as goal

pub returns : goal.returns
returns c tracks few = lowest_found tracks few
