use Rattle.std.proofs.Common.{◌+◌, ◌≤◌, length}
use Rattle.std.specs.VecDeque.{deque_len, deque_capacity}
use Rattle.rtsp_head.specs.Shapes.{shapes}
use Rattle.drill_server.specs.ServerSteps.{Moved}
use Rattle.drill_server.proofs.server.take_requests.Given as goal

-- some items were given, and there is room for the others
abbrev pub invariant-loop-item : goal.invariant-loop-item
invariant-loop-item l = record {
  moved : Moved l.fn.framer l.framer (shapes l.fn.waiting.items) (shapes l.waiting.items);
  room : deque_len l.waiting + length l.framer.waiting ≤ deque_capacity l.waiting;
}

abbrev pub decreases-loop-item : goal.decreases-loop-item
decreases-loop-item l = length l.framer.waiting
