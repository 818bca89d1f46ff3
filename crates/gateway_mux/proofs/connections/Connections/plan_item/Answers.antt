use Rattle.std.proofs.Common.{refl, sym, subst}
use Rattle.rtsp_head.specs.Shapes.{shape_of}
use Rattle.rtsp_head.specs.declared.item.ItemKind.{ItemKind}
use Rattle.client_machine.specs.Plans.{requests}
use Rattle.gateway_claim.specs.Happenings.{takes}
use Rattle.gateway_mux.specs.declared.turn_facts.TurnFacts.{TurnFacts}
use Rattle.gateway_mux.specs.Acts.{IsSaid, IsBadKind}
use Rattle.gateway_mux.specs.Pictures.{picture}
use Rattle.gateway_mux.proofs.PlanLemmas.{request_said, idle_response}
use Rattle.gateway_mux.proofs.connections.Connections.plan_item.Goals as goal

pub returns-in-Request-clause-act : goal.returns-in-Request-clause-act
returns-in-Request-clause-act c =
    c.plan_turn.ensures.act (takes c.args.conn (shape_of c.args.item.now))
    (subst (λ (it : TurnFacts). IsSaid c.args.self.now.bases (picture c.args.self.now.seats c.args.self.now.upstream) (takes c.args.conn (shape_of c.args.item.now)) it (requests (shape_of c.args.item.now))) (sym c.alone.ensures)
    (request_said c.args.self.now.bases (picture c.args.self.now.seats c.args.self.now.upstream) c.args.conn (shape_of c.args.item.now) c.in-Request.is))

pub returns-in-Response-clause-act : goal.returns-in-Response-clause-act
returns-in-Response-clause-act c = idle_response c.args.self.now.bases (picture c.args.self.now.seats c.args.self.now.upstream) c.args.conn (shape_of c.args.item.now) c.in-Response.is

pub returns-in-Bad-clause-act : goal.returns-in-Bad-clause-act
returns-in-Bad-clause-act c =
    c.plan_close.ensures.act (takes c.args.conn (shape_of c.args.item.now)) (refl, refl, subst (λ (kind : ItemKind). IsBadKind kind) (sym c.in-Bad.is) tt)
