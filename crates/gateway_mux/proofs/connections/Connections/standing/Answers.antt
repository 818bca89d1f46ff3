use Rattle.std.proofs.Common.{◌∙◌, ◌&&◌, sym, ap}
use Rattle.std.specs.Prelude.{is_some}
use Rattle.gateway_mux.specs.Pictures.{picture}
use Rattle.gateway_mux.proofs.TellLemmas.{alive_in, busy_in, is_alive_client, is_busy_client}
use Rattle.gateway_mux.proofs.connections.Connections.standing.Goals as goal

pub returns-in_default-clause-tells : goal.returns-in_default-clause-tells
returns-in_default-clause-tells c = λ T is.
    alive_in c.args.self.now.bases (picture c.args.self.now.seats c.args.self.now.upstream) T is c.args.conn ∙ ap is_alive_client c.in_default.ensures

pub returns-then-not-alive-clause-tells : goal.returns-then-not-alive-clause-tells
returns-then-not-alive-clause-tells c = λ T is.
    alive_in c.args.self.now.bases (picture c.args.self.now.seats c.args.self.now.upstream) T is c.args.conn ∙ ap is_alive_client c.in-Some.ensures.1 ∙ sym c.alive.ensures ∙ c.if-not-alive.true

pub returns-then-busy-clause-tells : goal.returns-then-busy-clause-tells
returns-then-busy-clause-tells c = λ T is.
    let one = picture c.args.self.now.seats c.args.self.now.upstream in
    let alive = sym c.alive.ensures ∙ c.if-not-alive.false in (
      alive_in c.args.self.now.bases one T is c.args.conn ∙ ap is_alive_client c.in-Some.ensures.1 ∙ alive,
      busy_in c.args.self.now.bases one T is c.args.conn ∙ ap is_busy_client c.in-Some.ensures.1 ∙ ap (λ t. t && is_some c.in-Some.seat.slot.now.pending) alive ∙ sym c.busy.ensures ∙ c.if-busy.true,
    )

pub returns-clause-tells : goal.returns-clause-tells
returns-clause-tells c = λ T is.
    let one = picture c.args.self.now.seats c.args.self.now.upstream in
    let alive = sym c.alive.ensures ∙ c.if-not-alive.false in (
      alive_in c.args.self.now.bases one T is c.args.conn ∙ ap is_alive_client c.in-Some.ensures.1 ∙ alive,
      busy_in c.args.self.now.bases one T is c.args.conn ∙ ap is_busy_client c.in-Some.ensures.1 ∙ ap (λ t. t && is_some c.in-Some.seat.slot.now.pending) alive ∙ sym c.busy.ensures ∙ c.if-busy.false,
    )
