use Rattle.std.proofs.Common.{refl}
use Rattle.std.proofs.lemmas.Result.{err_from_is_err_and}
use Rattle.client_ports.specs.Ends.{taken_of}
use Rattle.gateway_links.proofs.TurnLemmas.{first_fails, more_fails, last_offered}
use Rattle.gateway_links.proofs.ends.LinkEnd.forward.Goals as goal

pub returns-in_err-add-clause-forwards : goal.returns-in_err-add-clause-forwards
returns-in_err-add-clause-forwards g c =
    let old = c.args.self.now in
    let p = err_from_is_err_and c.from_residual.result c.from_residual.ensures.1 in
    rw (p.1, p.2)
    (first_fails c.args.first.now (g.O.Sink.written old.outlet) (g.O.Sink.written c.add.new.outlet) (taken_of old.taker) (taken_of old.taker) old.held c.add.new.held _ refl
    (rw c.bytes_of.ensures at c.in_err-add.ensures.moves))

pub returns-in_err-gather_more-clause-forwards : goal.returns-in_err-gather_more-clause-forwards
returns-in_err-gather_more-clause-forwards g c =
    let old = c.args.self.now in
    let p = err_from_is_err_and c.from_residual-in_err-gather_more.result c.from_residual-in_err-gather_more.ensures.1 in
    rw (p.1, p.2)
    (more_fails c.args.first.now (g.O.Sink.written old.outlet) (g.O.Sink.written c.add.new.outlet) (g.O.Sink.written c.gather_more.new.outlet) (taken_of old.taker) (taken_of c.gather_more.new.taker)
    old.held c.add.new.held c.gather_more.new.held c.gather_more.new.held _ _
    (rw c.bytes_of.ensures at c.in_ok-add.ensures.moves)
    c.in_err-gather_more.ensures.gathers)

pub returns-clause-forwards : goal.returns-clause-forwards
returns-clause-forwards g c =
    let old = c.args.self.now in
    rw c.offer_held.ensures.taker
    (last_offered c.args.first.now (g.O.Sink.written old.outlet) (g.O.Sink.written c.add.new.outlet) (g.O.Sink.written c.gather_more.new.outlet) (g.O.Sink.written c.offer_held.new.self.outlet)
    (taken_of old.taker) (taken_of c.gather_more.new.taker) old.held c.add.new.held c.gather_more.new.held c.offer_held.new.self.held _ c.offer_held.result
    (rw c.bytes_of.ensures at c.in_ok-add.ensures.moves)
    c.in_ok-gather_more.ensures.gathers
    c.offer_held.ensures.moves)
