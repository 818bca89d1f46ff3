use Rattle.gateway_mux.proofs.SeatLemmas.{event_seat}
use Rattle.gateway_mux.proofs.connections.Connections.plan_at.Goals as goal

pub plan_seated-requires : goal.plan_seated-requires
plan_seated-requires c = event_seat c.args.self.now.seats c.args.event.now c.args.key c.seat_at.result c.requires c.seat_at.ensures.seat
