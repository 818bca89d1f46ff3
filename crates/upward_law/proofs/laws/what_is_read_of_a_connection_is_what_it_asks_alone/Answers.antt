use Rattle.upward_law.proofs.OwnLemmas.{own_read}
use Rattle.upward_law.proofs.laws.what_is_read_of_a_connection_is_what_it_asks_alone.Goals as goal

pub returns : goal.returns
returns c bases history i is taken = own_read bases history i is taken
