use Rattle.std.proofs.Common.{◌+◌, ℕ, Option, subst}
use Rattle.channel_map.specs.Pairs.{held_at}
use Rattle.client_machine.specs.Plans.{incoming_seen, IsPlan}
use Rattle.connection_table.specs.declared.table.KeyedSlot.{KeyedSlot}
use Rattle.connection_table.specs.Tables.{IsSeatAt}
use Rattle.gateway_mux.specs.Turn.{free_once}
use Rattle.gateway_mux.proofs.connections.Connections.plan_turn.Goals as goal

pub returns-clause-act : goal.returns-clause-act
returns-clause-act c h said =
    c.turned.ensures.act h (incoming_seen c.args.incoming.now) c.in-Some.seat.slot.now said (subst (λ (seat : Option KeyedSlot). IsSeatAt c.args.self.now.seats c.args.said.conn seat) c.in-Some.is c.requires.seat).1
    (subst (λ (n : ℕ). IsPlan c.args.self.now.bases (n + 1) (free_once c.args.said.settled (λ p. held_at p c.args.self.now.upstream.channels)) c.in-Some.seat.slot.now (incoming_seen c.args.incoming.now) c.plan.new.plan) c.issued-next.ensures.number
    (subst (λ (pair : Option ℕ). IsPlan c.args.self.now.bases (c.issued-next.result + 1) pair c.in-Some.seat.slot.now (incoming_seen c.args.incoming.now) c.plan.new.plan) c.free_once-pair.ensures.free c.in_ok-plan.ensures.plan))
