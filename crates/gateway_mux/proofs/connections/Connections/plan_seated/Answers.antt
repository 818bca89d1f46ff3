use Rattle.std.proofs.Common.{refl, sym, ap, subst}
use Rattle.gateway_claim.specs.Happenings.{Happening, happening_of}
use Rattle.client_machine.specs.declared.why.CloseWhy.TheVariants.{Ended, Slow}
use Rattle.gateway_mux.specs.Acts.{IsClosing}
use Rattle.gateway_mux.proofs.connections.Connections.plan_seated.Goals as goal

pub returns-in-End-clause-act : goal.returns-in-End-clause-act
returns-in-End-clause-act c =
    c.plan_close.ensures.act (happening_of c.args.event.now) (subst (λ (h : Happening). IsClosing c.in-End.conn Ended h) (sym (ap happening_of c.in-End.is)) (refl, refl))

pub returns-in-Slow-clause-act : goal.returns-in-Slow-clause-act
returns-in-Slow-clause-act c =
    c.plan_close-in-Slow.ensures.act (happening_of c.args.event.now) (subst (λ (h : Happening). IsClosing c.in-Slow.conn Slow h) (sym (ap happening_of c.in-Slow.is)) (refl, refl))
