use Rattle.std.proofs.Common.{ℕ, ◌≤◌, ◌<◌, ◌^◌, arith, sym, subst}
use Rattle.rtsp_uri.specs.declared.base.Bases.{Bases}
use Rattle.gateway_mux.specs.Pictures.{Picture, picture}
use Rattle.gateway_mux.proofs.MuxLemmas.{NoneAlive, none_before, none_behind, none_left}
use Rattle.gateway_mux.proofs.connections.Connections.next_alive.Goals as goal

-- src/tells.rt:36:9
pub loop-conn-init : goal.loop-conn-init
loop-conn-init c = (grind arith, c.ranges.from.fits, λ T is i low high. absurd (grind (arith, low, high)))

-- src/tells.rt:38:17
pub returns-then-alive : goal.returns-then-alive
returns-then-alive c = λ T is.
    let one : Picture = picture c.args.self.now.seats c.args.self.now.upstream in (
      grind (arith, c.loop-conn.invariant.0, c.in-Some.ensures.next.0),
      sym (c.if-alive.ensures T is),
      none_before c.args.self.now.bases one c.args.from c.loop-conn.from c.in-Some.conn c.loop-conn.invariant.2 c.in-Some.ensures.next.1 T is,
    )

-- src/tells.rt:40:20
pub returns-in_err-from : goal.returns-in_err-from
returns-in_err-from c =
    let one : Picture = picture c.args.self.now.seats c.args.self.now.upstream in
    none_left c.args.self.now.bases one c.args.from c.in-Some.conn c.from_residual.result
    (none_behind c.args.self.now.bases one c.args.from c.in-Some.conn
    (none_before c.args.self.now.bases one c.args.from c.loop-conn.from c.in-Some.conn c.loop-conn.invariant.2 c.in-Some.ensures.next.1)
    (λ T is. sym (c.if-alive.ensures T is)))
    c.in_err-from.ensures c.from_residual.ensures

-- src/tells.rt:36:9
pub loop-conn-smaller : goal.loop-conn-smaller
loop-conn-smaller c = grind (arith, c.loop-conn.invariant.1, c.in-Some.ensures.next.0, c.in_ok-from.ensures.1, c.in_ok-from.ensures.0)

-- src/tells.rt:36:9
pub loop-conn-preserved : goal.loop-conn-preserved
loop-conn-preserved c =
    let bases : Bases = c.args.self.now.bases in
    let one : Picture = picture c.args.self.now.seats c.args.self.now.upstream in
    subst (λ (n : ℕ). (c.args.from ≤ n) × (n < 2 ^ 32) × NoneAlive bases one c.args.from n) (sym c.in_ok-from.ensures.1) (
      grind (arith, c.loop-conn.invariant.0, c.in-Some.ensures.next.0),
      c.in_ok-from.ensures.0,
      none_behind bases one c.args.from c.in-Some.conn
          (none_before bases one c.args.from c.loop-conn.from c.in-Some.conn c.loop-conn.invariant.2 c.in-Some.ensures.next.1)
          (λ T is. sym (c.if-alive.ensures T is)),
    )

-- src/tells.rt:32:5
pub returns : goal.returns
returns c = λ T is.
    let one : Picture = picture c.args.self.now.seats c.args.self.now.upstream in
    none_before c.args.self.now.bases one c.args.from c.loop-conn.from (2 ^ 32) c.loop-conn.invariant.2 c.in_default.ensures.next T is
