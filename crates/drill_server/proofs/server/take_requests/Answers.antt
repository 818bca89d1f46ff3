use Rattle.std.proofs.Common.{length, ap, arith}
use Rattle.rtsp_head.specs.Shapes.{shape_of, shapes}
use Rattle.drill_server.proofs.MoveLemmas.{moved_none, moved_on, moved_all}
use Rattle.drill_server.proofs.server.take_requests.Goals as goal

pub loop-item-init : goal.loop-item-init
loop-item-init c = record { moved = moved_none c.args.framer.now (shapes c.args.waiting.now.items); room = c.requires }

pub loop-item-preserved : goal.loop-item-preserved
loop-item-preserved c = record {
  moved =
      moved_on c.args.framer.now c.loop-item.framer c.next.new.self (shapes c.args.waiting.now.items) (shapes c.loop-item.waiting.items)
      (shapes c.take_request.new.waiting.items) (shape_of c.in-Some.item) c.loop-item.invariant.moved c.in-Some.ensures.some c.take_request.ensures.waits;
  room = omega (arith, c.loop-item.invariant.room, ap length c.in-Some.ensures.first, c.take_request.ensures.len, c.take_request.ensures.capacity);
}

pub returns : goal.returns
returns c =
    moved_all c.args.framer.now c.loop-item.framer c.next.new.self (shapes c.args.waiting.now.items) (shapes c.loop-item.waiting.items)
    c.loop-item.invariant.moved c.in_default.ensures.none
