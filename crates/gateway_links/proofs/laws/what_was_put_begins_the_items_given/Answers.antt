use Rattle.gateway_links.proofs.Begins.{given_begin}
use Rattle.gateway_links.proofs.laws.what_was_put_begins_the_items_given.Goals as goal

pub returns : goal.returns
returns c = given_begin
