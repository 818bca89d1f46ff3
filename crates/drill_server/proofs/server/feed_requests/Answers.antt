use Rattle.std.proofs.Common.{ap, arith}
use Rattle.std.proofs.Math.Bridge.{le_prop}
use Rattle.std.proofs.Math.Logic.{∥∥₁_elim, ∥∥₁_map}
use Rattle.rtsp_head.specs.Shapes.{shapes}
use Rattle.drill_server.specs.ServerSteps.{IsDrained}
use Rattle.drill_server.proofs.FewLemmas.{few_waiting}
use Rattle.drill_server.proofs.MoveLemmas.{moved_fed, drained_fed}
use Rattle.drill_server.proofs.server.feed_requests.Goals as goal

pub take_requests-requires : goal.take_requests-requires
take_requests-requires c =
    let few = ∥∥₁_elim c.requires le_prop (λ (drained : IsDrained c.args.framer.now). few_waiting c.args.framer.now c.feed.new.self c.args.piece.now drained c.in_ok-feed.ensures.ok) in
    omega (arith, c.in_ok-reserve.ensures.ok, few)

pub returns-clause-drained : goal.returns-clause-drained
returns-clause-drained c =
    ∥∥₁_map c.requires (λ (drained : IsDrained c.args.framer.now).
    drained_fed c.args.framer.now c.take_requests.new.framer c.args.piece.now (shapes c.args.waiting.now.items) (shapes c.take_requests.new.waiting.items) drained
    (moved_fed c.args.framer.now c.feed.new.self c.take_requests.new.framer c.args.piece.now (shapes c.args.waiting.now.items) (shapes c.reserve.new.self.items) (shapes c.take_requests.new.waiting.items)
    (ap shapes c.reserve.ensures.items) c.in_ok-feed.ensures.ok c.take_requests.ensures))

pub returns-clause-ok : goal.returns-clause-ok
returns-clause-ok c =
    moved_fed c.args.framer.now c.feed.new.self c.take_requests.new.framer c.args.piece.now (shapes c.args.waiting.now.items) (shapes c.reserve.new.self.items) (shapes c.take_requests.new.waiting.items)
    (ap shapes c.reserve.ensures.items) c.in_ok-feed.ensures.ok c.take_requests.ensures
