use Rattle.client_ports.specs.Ends.{taken_of}
use Rattle.gateway_links.proofs.TurnLemmas.{turn_keeps}
use Rattle.gateway_links.proofs.writer.Writer.finish.Goals as goal

pub invariant_of-self-clause-told : goal.invariant_of-self-clause-told
invariant_of-self-clause-told g c =
    let was = c.args.self.now.ends in
    let new = c.finish.new.self in
    turn_keeps was.failed new.failed c.finish.result (g.O.Sink.written was.outlet) (g.O.Sink.written new.outlet) (taken_of was.taker) (taken_of new.taker) was.held new.held
    c.args.self.now.told c.finish.ensures.did c.finish.ensures.failed (λ yes. rw (c.finish.ensures.over yes) c.args.self.now.told)
