use Rattle.std.proofs.Common.{arith, ◌∙◌}
use Rattle.std.proofs.lemmas.Result.{err_from_is_err_and}
use Rattle.client_ports.specs.Ends.{taken_of}
use Rattle.gateway_links.proofs.MoveLemmas.{gathering_more, gathering_fails}
use Rattle.gateway_links.proofs.ends.gather_more.Goals as goal

pub returns-in_err-add-clause-gathers : goal.returns-in_err-add-clause-gathers
returns-in_err-add-clause-gathers g c =
    let p = err_from_is_err_and c.from_residual.result c.from_residual.ensures.1 in
    rw (p.1, p.2)
    (gathering_fails (g.O.Sink.written c.args.outlet.now) (g.O.Sink.written c.loop.outlet) (g.O.Sink.written c.add.new.outlet)
    (taken_of c.args.taker.now) (taken_of c.loop.taker) (taken_of c.take.new.self)
    c.args.held.now c.loop.held c.add.new.held c.in-Some.parcel _
    c.loop.invariant.2 c.in-Some.ensures.some
    (rw c.bytes_of.ensures at c.in_err-add.ensures.moves))

pub loop-preserved : goal.loop-preserved
loop-preserved g c = (
  c.take.ensures.port ∙ c.loop.invariant.0,
  c.take.ensures.told ∙ c.loop.invariant.1,
  gathering_more (g.O.Sink.written c.args.outlet.now) (g.O.Sink.written c.loop.outlet) (g.O.Sink.written c.add.new.outlet)
      (taken_of c.args.taker.now) (taken_of c.loop.taker) (taken_of c.take.new.self)
      c.args.held.now c.loop.held c.add.new.held c.in-Some.parcel
      c.loop.invariant.2 c.in-Some.ensures.some
      (rw c.bytes_of.ensures at c.in_ok-add.ensures.moves),
  omega (arith, c.loop.invariant.3, c.add.ensures.cause.later),
)
