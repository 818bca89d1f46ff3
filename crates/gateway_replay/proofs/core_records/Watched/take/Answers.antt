use Rattle.std.proofs.Common.{[], ◌∷◌}
use Rattle.gateway_claim.specs.Happenings.{happening_of, entry_of}
use Rattle.gateway_claim.specs.Cores.{IsCoreHistory}
use Rattle.gateway_replay.specs.CoreRecords.{Watches}
use Rattle.gateway_replay.proofs.RunLemmas.{untaken, taken, taken_in_part}
use Rattle.gateway_replay.proofs.WatchLemmas.{watch_took, watch_made}
use Rattle.gateway_replay.proofs.core_records.Watched.take.Goals as goal

pub returns-in-Err-clause-takes : goal.returns-in-Err-clause-takes
returns-in-Err-clause-takes g c =
    let laws = g.met.M.Core g.world.𝓛 g.world.𝓜 g.world.𝓡 ((λ s x. x), (λ x. x), (λ x. x), λ x. x) in
    let old = c.args.self.now in
    untaken (IsCoreHistory g.M.Core.follows) (Watches g.M.Core.stands g.M.Core.bases old.core old.living) (Watches g.M.Core.stands g.M.Core.bases c.step.new.self old.living) (happening_of c.args.event) (g.K.Sink.written c.args.sink.now)
    (watch_made g.M.Core.stands g.M.Core.bases g.M.Core.follows laws.history old.core c.step.new.self old.living [] c.in-Err.ensures.err c.step.ensures.bases)

pub returns-in-Ok-write_outcome-clause-takes : goal.returns-in-Ok-write_outcome-clause-takes
returns-in-Ok-write_outcome-clause-takes g c =
    let old = c.args.self.now in
    taken (IsCoreHistory g.M.Core.follows) (Watches g.M.Core.stands g.M.Core.bases old.core old.living) (Watches g.M.Core.stands g.M.Core.bases c.step.new.self c.write_outcome.new.living) c.args.event c.in-Ok.outcome
    (g.K.Sink.written c.args.sink.now) (g.K.Sink.written c.write_outcome.new.sink)
    (watch_took g.M.Core.stands g.M.Core.bases old.core c.step.new.self old.living c.write_outcome.new.living c.args.event c.in-Ok.outcome c.in-Ok.ensures.ok c.step.ensures.bases c.in-Ok-write_outcome.ensures.living)
    (λ bases T s. c.in-Ok-write_outcome.ensures.bytes T s.alive)

pub returns-in-Err-write_outcome-clause-takes : goal.returns-in-Err-write_outcome-clause-takes
returns-in-Err-write_outcome-clause-takes g c =
    let laws = g.met.M.Core g.world.𝓛 g.world.𝓜 g.world.𝓡 ((λ s x. x), (λ x. x), (λ x. x), λ x. x) in
    let old = c.args.self.now in
    taken_in_part (IsCoreHistory g.M.Core.follows) (Watches g.M.Core.stands g.M.Core.bases old.core old.living) (Watches g.M.Core.stands g.M.Core.bases c.step.new.self c.write_outcome.new.living) c.args.event c.in-Ok.outcome
    (g.K.Sink.written c.args.sink.now) (g.K.Sink.written c.write_outcome.new.sink)
    (watch_made g.M.Core.stands g.M.Core.bases g.M.Core.follows laws.history old.core c.step.new.self old.living (entry_of c.args.event c.in-Ok.outcome ∷ []) c.in-Ok.ensures.ok c.step.ensures.bases)
    (λ bases T s. c.in-Err-write_outcome.ensures.bytes T s.alive)
