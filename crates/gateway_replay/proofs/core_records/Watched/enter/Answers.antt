use Rattle.std.proofs.lemmas.Result.{on_ok_weaker}
use Rattle.gateway_replay.proofs.WatchLemmas.{watch_entered_standing, watch_entered_over}
use Rattle.gateway_replay.proofs.core_records.Watched.enter.Goals as goal

pub returns-then-is_some-clause-ok : goal.returns-then-is_some-clause-ok
returns-then-is_some-clause-ok g c =
    let laws = g.met.M.Core g.world.𝓛 g.world.𝓜 g.world.𝓡 ((λ s x. x), (λ x. x), (λ x. x), λ x. x) in
    let old = c.args.self.now in
    on_ok_weaker c.enter.result
    (λ steps. watch_entered_over g.M.Core.stands g.M.Core.bases g.M.Core.follows laws.history laws.orderly old.core c.enter.new.self old.living c.args.conn c.ended.result c.if-is_some.ensures steps c.enter.ensures.bases c.ended.ensures)
    c.enter.ensures.ok

pub returns-clause-ok : goal.returns-clause-ok
returns-clause-ok g c =
    let laws = g.met.M.Core g.world.𝓛 g.world.𝓜 g.world.𝓡 ((λ s x. x), (λ x. x), (λ x. x), λ x. x) in
    let old = c.args.self.now in
    on_ok_weaker c.enter-2.result
    (λ steps. watch_entered_standing g.M.Core.stands g.M.Core.bases g.M.Core.follows laws.history laws.orderly old.core c.enter-2.new.self old.living c.add.new.self c.args.conn c.ended.result c.if-is_some.ensures steps c.enter-2.ensures.bases c.ended.ensures c.in_ok-add.ensures.ok)
    c.enter-2.ensures.ok
