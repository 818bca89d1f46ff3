use Rattle.client_slot.specs.Places.{tracks_of}
use Rattle.session_one.specs.declared.parts.TheConstants.{MOST_SESSIONS}
use Rattle.std.proofs.Common.{◌∙◌, ◌<◌, ◌≤◌, refl, sym, ap, arith}
use Rattle.rtsp_head.specs.Shapes.{shape_of}
use Rattle.channel_map.specs.declared.map.TheConstants.{PAIRS}
use Rattle.client_machine.specs.Frames.{half_for, half_of}
use Rattle.connection_table.proofs.SeatLemmas.{seated}
use Rattle.gateway_mux.specs.Spare.{left}
use Rattle.gateway_mux.specs.Pictures.{picture}
use Rattle.gateway_mux.proofs.UpkeepLemmas.{low_half}
use Rattle.gateway_mux.proofs.PlanLemmas.{idle_dead, idle_no_half, half_none}
use Rattle.gateway_mux.proofs.connections.Connections.rise.Goals as goal

pub returns-then-not-alive : goal.returns-then-not-alive
returns-then-not-alive c =
    idle_dead c.args.self.now.bases (picture c.args.self.now.seats c.args.self.now.upstream) c.args.conn (shape_of c.args.item.now) c.in-Some.seat.slot.now (seated c.args.self.now.seats c.args.conn c.args.seat c.in-Some.seat c.requires.seat c.in-Some.is).1 (sym c.alive.ensures ∙ c.if-not-alive.true)

low : (c : goal.After-struct_known-1) → (c.in-Some-half_for.half.pair < PAIRS) × (c.in-Some-half_for.half.half ≤ 1)
low c =
    low_half c.args.self.now.bases (picture c.args.self.now.seats c.args.self.now.upstream) (left 1 c.args.self.now.upstream.requests.spare c.args.self.now.seats) (left MOST_SESSIONS c.args.self.now.upstream.sessions.spare c.args.self.now.seats) c.args.conn c.channel_of.result c.in-Some.seat.slot.now
    (half_of c.in-Some-half_for.half) (seated c.args.self.now.seats c.args.conn c.args.seat c.in-Some.seat c.requires.seat c.in-Some.is).1 (sym c.in-Some-half_for.ensures) c.args.self.now.kept

pub overflow_mul-result : goal.overflow_mul-result
overflow_mul-result c = let both = low c in let small : c.in-Some-half_for.half.pair < 128 = both.0 in omega arith

pub overflow_add-result : goal.overflow_add-result
overflow_add-result c =
    let both =
    low_half c.args.self.now.bases (picture c.args.self.now.seats c.args.self.now.upstream) (left 1 c.args.self.now.upstream.requests.spare c.args.self.now.seats) (left MOST_SESSIONS c.args.self.now.upstream.sessions.spare c.args.self.now.seats) c.args.conn c.channel_of.result c.in-Some.seat.slot.now
    (half_of c.in-Some-half_for.half) (seated c.args.self.now.seats c.args.conn c.args.seat c.in-Some.seat c.requires.seat c.in-Some.is).1 (sym c.in-Some-half_for.ensures) c.args.self.now.kept in
    let small : c.in-Some-half_for.half.pair < 128 = both.0 in
    let one : c.in-Some-half_for.half.half ≤ 1 = both.1 in omega arith

pub returns-in-Some-half_for : goal.returns-in-Some-half_for
returns-in-Some-half_for c = record {
  i = c.args.conn;
  shape = shape_of c.args.item.now;
  client = c.in-Some.seat.slot.now;
  half = half_of c.in-Some-half_for.half;
  comes = refl;
  is_frame = c.requires.frame;
  is_short = c.channel_of.ensures.short;
  here = (seated c.args.self.now.seats c.args.conn c.args.seat c.in-Some.seat c.requires.seat c.in-Some.is).1;
  alive = sym c.alive.ensures ∙ c.if-not-alive.false;
  found = ap (λ channel. half_for channel (tracks_of c.in-Some.seat.slot.now.sessions)) (sym c.channel_of.ensures.channel) ∙ sym c.in-Some-half_for.ensures;
  is = refl;
}

pub returns-in-None : goal.returns-in-None
returns-in-None c =
    idle_no_half c.args.self.now.bases (picture c.args.self.now.seats c.args.self.now.upstream) c.args.conn (shape_of c.args.item.now) c.in-Some.seat.slot.now (seated c.args.self.now.seats c.args.conn c.args.seat c.in-Some.seat c.requires.seat c.in-Some.is).1 (sym c.alive.ensures ∙ c.if-not-alive.false) c.requires.frame
    (ap (λ channel. half_for channel (tracks_of c.in-Some.seat.slot.now.sessions)) (sym c.channel_of.ensures.channel) ∙ half_none c.half_for.result (half_for c.channel_of.result (tracks_of c.in-Some.seat.slot.now.sessions)) c.half_for.ensures c.in-None.is)
