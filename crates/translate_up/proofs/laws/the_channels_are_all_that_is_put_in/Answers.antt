use Rattle.translate_up.proofs.LeftOutLemmas.{transport_left_out}
use Rattle.translate_up.proofs.laws.the_channels_are_all_that_is_put_in.Goals as goal

pub returns : goal.returns
returns c judged request said uri range pair = transport_left_out judged request said uri range pair
