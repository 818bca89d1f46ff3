use Rattle.gateway_links.proofs.Begins.{front_begins}
use Rattle.gateway_links.proofs.laws.what_was_put_begins_the_items_after_want_of_memory.Goals as goal

pub returns : goal.returns
returns c = front_begins
