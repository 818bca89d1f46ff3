-- A number is left for the TEARDOWN that is due, or none.
use Rattle.std.proofs.Common.{◌∙◌, ◌+◌, None}
use Rattle.session_one.specs.declared.parts.TheConstants.{MOST_SESSIONS}
use Rattle.client_machine.specs.Plans.{shuts}
use Rattle.gateway_mux.specs.Spare.{left}
use Rattle.gateway_mux.specs.Pictures.{Picture, picture}
use Rattle.gateway_mux.specs.Turn.{free_once}
use Rattle.gateway_mux.proofs.PlanLemmas.{closing_said, spent_act}
use Rattle.gateway_mux.proofs.connections.Connections.closed.Goals as goal

pub returns-then-lacks_number-clause-act : goal.returns-then-lacks_number-clause-act
returns-then-lacks_number-clause-act c h closing =
    let one : Picture = picture c.args.self.now.seats c.args.self.now.upstream in
    let next = c.args.self.now.upstream.requests.issued + 1 in
    let planned = c.plan_close.ensures.plan c.args.self.now.bases next (free_once None one.held) in
    let lacking = c.lacks_number.ensures.lacking c.if-lacks_number.true in
    spent_act c.args.self.now.bases one (left 1 c.args.self.now.upstream.requests.spare c.args.self.now.seats) (left MOST_SESSIONS c.args.self.now.upstream.sessions.spare c.args.self.now.seats) h
    (record { conn = c.args.conn; number = 0; settled = None; answer = None }) (shuts c.args.why) c.args.seat.slot.now c.plan_close.result c.asks-asks.result c.args.self.now.kept
    (closing_said c.args.self.now.bases one c.args.conn c.args.why h closing) c.requires.1 planned (c.asks-asks.ensures c.args.self.now.bases 0 next (free_once None one.held) c.args.seat.slot.now (shuts c.args.why) planned)
    lacking.0 lacking.1

pub returns-clause-act : goal.returns-clause-act
returns-clause-act c h closing =
    let one : Picture = picture c.args.self.now.seats c.args.self.now.upstream in
    let next = c.args.self.now.upstream.requests.issued + 1 in
    let planned = c.plan_close.ensures.plan c.args.self.now.bases next (free_once None one.held) in
    let goes = c.asks-asks.ensures c.args.self.now.bases 0 next (free_once None one.held) c.args.seat.slot.now (shuts c.args.why) planned in
    record {
      closes = closing;
      client = c.args.seat.slot.now;
      here = c.requires.1;
      left = λ some. c.lacks_number.ensures.left c.if-lacks_number.false (goes ∙ some);
    }
