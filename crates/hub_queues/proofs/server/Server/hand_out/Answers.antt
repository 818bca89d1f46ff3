use Rattle.std.proofs.Common.{refl}
use Rattle.hub_queues.proofs.FrontLemmas.{hands_front}
use Rattle.hub_queues.proofs.server.Server.hand_out.Goals as goal

pub returns-then-full : goal.returns-then-full
returns-then-full g c = record {
  inward = refl;
  first = refl;
  outward = hands_front c.args.up c.args.self.now.outward c.put_answer-full.new.outward c.put_answer-full.result c.if-full.true c.put_answer-full.ensures;
}
