-- A request of a player, taken at once.
use Rattle.std.proofs.Common.{◌≤◌, ◌∙◌, ◌+◌, ℕ, Option, None, refl, ap, subst}
use Rattle.rtsp_head.specs.Shapes.{shape_of}
use Rattle.session_one.specs.declared.parts.TheConstants.{MOST_SESSIONS}
use Rattle.up_books.specs.declared.cseq.TheConstants.{LAST_NUMBER}
use Rattle.client_machine.specs.Plans.{requests, IsPlan}
use Rattle.gateway_claim.specs.Happenings.{Happening, takes}
use Rattle.gateway_claim.specs.declared.event.UpCause.TheVariants.{CseqSpent}
use Rattle.gateway_mux.specs.declared.turn.PlannedTurn.{PlannedTurn}
use Rattle.gateway_mux.specs.declared.turn_facts.TurnFacts.{TurnFacts}
use Rattle.gateway_mux.specs.Acts.{IsPlannedTurn}
use Rattle.gateway_mux.specs.Moves.{answering, ended_by}
use Rattle.gateway_mux.specs.Pictures.{Picture, picture}
use Rattle.gateway_mux.specs.Spare.{left}
use Rattle.gateway_mux.specs.Turn.{free_once}
use Rattle.gateway_mux.proofs.ActLemmas.{idle_committed, end_committed}
use Rattle.gateway_mux.proofs.CarryLemmas.{committed_as}
use Rattle.gateway_mux.proofs.PlanLemmas.{request_said, absent_act, spent_act, request_turn}
use Rattle.gateway_mux.proofs.connections.Connections.take_request.Goals as goal

-- what is known of the turn of a player that asks
abbrev asking : ℕ → TurnFacts
asking conn = record { conn = conn; number = 0; settled = None; answer = None }

pub returns-in_default-clause-commits : goal.returns-in_default-clause-commits
returns-in_default-clause-commits c =
    let one : Picture = picture c.args.self.now.seats c.args.self.now.upstream in
    let h : Happening = takes c.args.conn (shape_of c.args.item.now) in
    committed_as c.args.self.now.bases one one h c.nothing.result (answering None) c.nothing.ensures.silent
    (idle_committed c.args.self.now.bases one h None (λ i. refl)
    (absent_act c.args.self.now.bases one h (asking c.args.conn) (requests (shape_of c.args.item.now))
    (request_said c.args.self.now.bases one c.args.conn (shape_of c.args.item.now) c.requires)
    c.in_default.ensures))

pub returns-then-lacks_number-clause-commits : goal.returns-then-lacks_number-clause-commits
returns-then-lacks_number-clause-commits c =
    let one : Picture = picture c.args.self.now.seats c.args.self.now.upstream in
    let h : Happening = takes c.args.conn (shape_of c.args.item.now) in
    let comes = requests (shape_of c.args.item.now) in
    let client = c.in-Some.seat.slot.now in
    let lacking = c.lacks_number.ensures.lacking c.if-lacks_number.true in
    let planned : IsPlan c.args.self.now.bases (one.issued + 1) (free_once None one.held) client comes c.plan.new.plan =
    subst (λ (n : ℕ). IsPlan c.args.self.now.bases (n + 1) (free_once None one.held) client comes c.plan.new.plan) c.issued-next.ensures.number
    (subst (λ (pair : Option ℕ). IsPlan c.args.self.now.bases (c.issued-next.result + 1) pair client comes c.plan.new.plan) c.free_once-pair.ensures.free c.in_ok-plan.ensures.plan) in
    committed_as c.args.self.now.bases one one h c.ending.result (ended_by CseqSpent) c.ending.ensures.ends
    (end_committed c.args.self.now.bases one h CseqSpent
    (spent_act c.args.self.now.bases one (left 1 c.args.self.now.upstream.requests.spare c.args.self.now.seats) (left MOST_SESSIONS c.args.self.now.upstream.sessions.spare c.args.self.now.seats) h (asking c.args.conn) comes client c.plan.new.plan c.asks-asks.result c.args.self.now.kept
    (request_said c.args.self.now.bases one c.args.conn (shape_of c.args.item.now) c.requires) c.in-Some.ensures.1 planned
    (c.asks-asks.ensures c.args.self.now.bases 0 (one.issued + 1) (free_once None one.held) client comes planned)
    lacking.0 lacking.1))

-- the turn is that of the request
planned : (c : goal.After-turn-2-1) → IsPlannedTurn c.args.self.now.bases (picture c.args.self.now.seats c.args.self.now.upstream) (takes c.args.conn (shape_of c.args.item.now)) None c.complete.new.self
planned c =
    request_turn c.args.self.now.bases (picture c.args.self.now.seats c.args.self.now.upstream) (left 1 c.args.self.now.upstream.requests.spare c.args.self.now.seats) (left MOST_SESSIONS c.args.self.now.upstream.sessions.spare c.args.self.now.seats)
    c.args.conn c.in-Some.seat.key c.issued-next.result c.free_once-pair.result (shape_of c.args.item.now) c.in-Some.seat.slot.now c.plan.new.plan c.asks-asks.result c.complete.new.self c.args.self.now.kept c.requires c.in-Some.ensures.1 c.issued-next.ensures.number c.free_once-pair.ensures.free c.in_ok-plan.ensures.plan
    (λ next free planned. c.asks-asks.ensures c.args.self.now.bases 0 next free c.in-Some.seat.slot.now (requests (shape_of c.args.item.now)) planned)
    (subst (λ (n : ℕ). n ≤ LAST_NUMBER) c.issued-next.ensures.number c.issued-next.ensures.high) (c.lacks_number.ensures.left c.if-lacks_number.false)
    (c.complete.ensures ∙ ap (λ (it : PlannedTurn). record it { plan = c.plan.new.plan; settled = None; asks = c.asks-asks.result }) c.blank-turn.ensures)

pub turn-requires-clause-turn : goal.turn-requires-clause-turn
turn-requires-clause-turn c = record { happening = takes c.args.conn (shape_of c.args.item.now); is_planned = planned c }

pub returns-clause-commits : goal.returns-clause-commits
returns-clause-commits c =
    c.turn.ensures.commits (takes c.args.conn (shape_of c.args.item.now))
    (request_turn c.args.self.now.bases (picture c.args.self.now.seats c.args.self.now.upstream) (left 1 c.args.self.now.upstream.requests.spare c.args.self.now.seats) (left MOST_SESSIONS c.args.self.now.upstream.sessions.spare c.args.self.now.seats)
    c.args.conn c.in-Some.seat.key c.issued-next.result c.free_once-pair.result (shape_of c.args.item.now) c.in-Some.seat.slot.now c.plan.new.plan c.asks-asks.result c.complete.new.self c.args.self.now.kept c.requires c.in-Some.ensures.1 c.issued-next.ensures.number c.free_once-pair.ensures.free c.in_ok-plan.ensures.plan
    (λ next free planned. c.asks-asks.ensures c.args.self.now.bases 0 next free c.in-Some.seat.slot.now (requests (shape_of c.args.item.now)) planned)
    (subst (λ (n : ℕ). n ≤ LAST_NUMBER) c.issued-next.ensures.number c.issued-next.ensures.high) (c.lacks_number.ensures.left c.if-lacks_number.false)
    (c.complete.ensures ∙ ap (λ (it : PlannedTurn). record it { plan = c.plan.new.plan; settled = None; asks = c.asks-asks.result }) c.blank-turn.ensures))
