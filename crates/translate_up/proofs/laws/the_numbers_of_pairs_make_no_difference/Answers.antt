use Rattle.translate_up.proofs.PairLemmas.{decide_under}
use Rattle.translate_up.proofs.laws.the_numbers_of_pairs_make_no_difference.Goals as goal

pub returns : goal.returns
returns c pairs given shape = decide_under pairs given shape
