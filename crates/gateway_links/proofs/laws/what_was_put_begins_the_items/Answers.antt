use Rattle.gateway_links.proofs.Begins.{reads_begin}
use Rattle.gateway_links.proofs.laws.what_was_put_begins_the_items.Goals as goal

pub returns : goal.returns
returns c = reads_begin
