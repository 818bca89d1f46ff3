use Rattle.gateway_mux.specs.Spare.{left}
use Rattle.session_one.specs.declared.parts.TheConstants.{MOST_SESSIONS}
use Rattle.std.proofs.Common.{◌∙◌, ◌+◌, refl, sym, ap, subst}
use Rattle.client_machine.specs.Plans.{IsPlan}
use Rattle.gateway_mux.specs.declared.turn.PlannedTurn.{PlannedTurn}
use Rattle.gateway_mux.specs.Acts.{IsPlannedTurn}
use Rattle.gateway_mux.specs.Pictures.{picture}
use Rattle.gateway_mux.specs.Turn.{free_once}
use Rattle.gateway_mux.proofs.PlanLemmas.{spent_act, turned_act}
use Rattle.gateway_mux.proofs.connections.Connections.turned.Goals as goal

pub returns-then-lacks_number-clause-act : goal.returns-then-lacks_number-clause-act
returns-then-lacks_number-clause-act c h comes client said here planned =
    let free = free_once c.args.said.settled (picture c.args.self.now.seats c.args.self.now.upstream).held in
    let next = c.args.self.now.upstream.requests.issued + 1 in
    let lacking = c.lacks_number.ensures.lacking c.if-lacks_number.true in
    spent_act c.args.self.now.bases (picture c.args.self.now.seats c.args.self.now.upstream) (left 1 c.args.self.now.upstream.requests.spare c.args.self.now.seats) (left MOST_SESSIONS c.args.self.now.upstream.sessions.spare c.args.self.now.seats) h c.args.said comes client c.args.turn.value.plan c.asks-asks.result c.args.self.now.kept said here planned
    (c.asks-asks.ensures c.args.self.now.bases c.args.said.number next free client comes (subst (λ (it : PlannedTurn). IsPlan c.args.self.now.bases next free client comes it.plan) (sym c.deref.ensures) planned))
    lacking.0 lacking.1

pub returns-clause-act : goal.returns-clause-act
returns-clause-act c h comes client said here planned =
    let free = free_once c.args.said.settled (picture c.args.self.now.seats c.args.self.now.upstream).held in
    let next = c.args.self.now.upstream.requests.issued + 1 in
    let whole = c.complete.ensures ∙ ap (λ (it : PlannedTurn). record it { settled = c.args.said.settled; asks = c.asks-asks.result }) (c.deref_mut.ensures.value ∙ c.requires.turn) in
    subst (λ (it : PlannedTurn). IsPlannedTurn c.args.self.now.bases (picture c.args.self.now.seats c.args.self.now.upstream) h c.args.said.answer it) (sym whole)
    (turned_act c.args.self.now.bases (picture c.args.self.now.seats c.args.self.now.upstream) (left 1 c.args.self.now.upstream.requests.spare c.args.self.now.seats) (left MOST_SESSIONS c.args.self.now.upstream.sessions.spare c.args.self.now.seats) h c.args.said comes client c.args.turn.value.plan c.asks-asks.result c.args.turn.value.key next c.args.self.now.kept refl said here planned
    (c.asks-asks.ensures c.args.self.now.bases c.args.said.number next free client comes (subst (λ (it : PlannedTurn). IsPlan c.args.self.now.bases next free client comes it.plan) (sym c.deref.ensures) planned))
    c.requires.high
    (c.lacks_number.ensures.left c.if-lacks_number.false))
