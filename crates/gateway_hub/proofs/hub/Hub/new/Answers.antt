use Rattle.std.proofs.Common.{[]}
use Rattle.gateway_hub.specs.Keeps.{StandsIdle}
use Rattle.gateway_hub.proofs.EnterLemmas.{fresh_keeps, is_fresh}
use Rattle.gateway_hub.proofs.hub.Hub.new.Goals as goal

pub invariant_of-result : goal.invariant_of-result
invariant_of-result g c =
    let laws = g.met.M.Core g.world.𝓛 g.world.𝓜 g.world.𝓡 ((λ s x. x), (λ x. x), (λ x. x), λ x. x) in
    let stands = StandsIdle g.M.Core.stands g.M.Core.waits g.M.Core.bases in
    let fresh = is_fresh c.fresh_desk-desk.result c.in-Ok.ends.1 c.in-Ok-port.ends.0 c.fresh_desk-desk.ensures.server c.fresh_desk-desk.ensures.places c.fresh_desk-desk.ensures.fall c.fresh_desk-desk.ensures.ending c.in-Ok.ensures.taken c.in-Ok-port.ensures.put c.in-Ok-port.ensures.fulls in
    record {
      keeps = ∣ record {
        history = [];
        keeps = fresh_keeps (stands c.args.core) (g.R.Recorder.entries c.args.recorder) (g.R.Recorder.faults c.args.recorder) c.fresh_desk-desk.result (record { stood = c.requires.core; none_waits = laws.none_waits (g.M.Core.bases c.args.core) }) c.requires.recorder fresh;
      } ∣₁;
    }
