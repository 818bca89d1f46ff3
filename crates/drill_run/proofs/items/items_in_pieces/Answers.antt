use Rattle.std.proofs.Common.{[]}
use Rattle.drill_run.proofs.items.items_in_pieces.Goals as goal

pub returns : goal.returns
returns c = c.in_ok-whole_items.ensures c.args.text.now (c.in_ok-feed_in_pieces.ensures [] [] c.new-framer.ensures)
