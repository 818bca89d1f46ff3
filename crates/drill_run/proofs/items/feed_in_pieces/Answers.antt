use Rattle.drill_run.proofs.FramerLemmas.{front_none, front_more, front_all, no_bytes_left}
use Rattle.drill_run.proofs.items.feed_in_pieces.Goals as goal

pub loop-rest-init : goal.loop-rest-init
loop-rest-init c = front_none c.args.framer.now c.args.text.now

pub loop-rest-preserved : goal.loop-rest-preserved
loop-rest-preserved c =
    front_more c.args.framer.now c.loop-rest.framer c.feed.new.self c.args.text.now c.loop-rest.rest.now c.after-rest.result.now c.before-in-loop-rest.result.now _
    c.loop-rest.invariant c.before-in-loop-rest.ensures c.after-rest.ensures c.in_ok-feed.ensures.ok

pub returns : goal.returns
returns c = front_all c.args.framer.now c.loop-rest.framer c.args.text.now c.loop-rest.rest.now c.loop-rest.invariant (no_bytes_left c.loop-rest.rest.now c.loop-rest-test.ensures)
