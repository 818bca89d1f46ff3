-- It is the turn that was foreseen.
use Rattle.std.proofs.Common.{◌≡◌, ◌∙◌, ◌+◌, ◌≤◌, ℕ, None, Some, sym, ap, subst}
use Rattle.std.specs.Prelude.{is_some}
use Rattle.session_one.specs.declared.parts.TheConstants.{MOST_SESSIONS}
use Rattle.client_slot.specs.Client.{Client}
use Rattle.client_machine.specs.Plans.{shuts, effect_by}
use Rattle.up_books.specs.declared.cseq.TheConstants.{LAST_NUMBER}
use Rattle.connection_table.proofs.SeatLemmas.{kept_at}
use Rattle.gateway_mux.specs.Spare.{left}
use Rattle.gateway_mux.specs.Pictures.{Picture, picture}
use Rattle.gateway_mux.specs.Turn.{free_once}
use Rattle.gateway_mux.proofs.PlanLemmas.{closing_said, turned_act}
use Rattle.gateway_mux.proofs.connections.Connections.closing.Goals as goal

pub returns-clause-turn : goal.returns-clause-turn
returns-clause-turn c h planned =
    let one : Picture = picture c.args.self.now.seats c.args.self.now.upstream in
    let bases = c.args.self.now.bases in
    let next = c.args.self.now.upstream.requests.issued + 1 in
    let here : one.clients c.args.close.conn ≡ Some c.in-Some.slot.now = kept_at c.args.self.now.seats c.args.close.conn c.args.close.key c.requires.key ∙ sym c.in-Some.ensures in
    let there : one.clients c.args.close.conn ≡ Some planned.client = planned.here in
    let same : c.in-Some.slot.now ≡ planned.client = cc in
    let plan = c.plan_close-plan.ensures.plan bases next (free_once None one.held) in
    let goes = c.asks-asks.ensures bases 0 next (free_once None one.held) c.in-Some.slot.now (shuts c.args.close.why) plan in
    turned_act bases one (left 1 c.args.self.now.upstream.requests.spare c.args.self.now.seats) (left MOST_SESSIONS c.args.self.now.upstream.sessions.spare c.args.self.now.seats) h
    (record { conn = c.args.close.conn; number = 0; settled = None; answer = None }) (shuts c.args.close.why) c.in-Some.slot.now c.plan_close-plan.result c.asks-asks.result c.args.close.key (c.issued.result + 1) c.args.self.now.kept
    (ap (λ n. n + 1) c.issued.ensures.number) (closing_said bases one c.args.close.conn c.args.close.why h planned.closes) here plan goes (subst (λ (n : ℕ). n ≤ LAST_NUMBER) c.issued.ensures.number c.issued.ensures.high)
    (λ asks. planned.left (ap (λ (client : Client). is_some (effect_by bases 0 (free_once None one.held) client (shuts c.args.close.why)).message) (sym same) ∙ sym goes ∙ asks))
