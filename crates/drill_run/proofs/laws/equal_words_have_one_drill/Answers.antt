use Rattle.drill_run.proofs.OneTextLemmas.{one_text, one_drilled_text, written_once}
use Rattle.drill_run.proofs.laws.equal_words_have_one_drill.Goals as goal

pub returns-clause-drilled : goal.returns-clause-drilled
returns-clause-drilled g c = one_drilled_text

pub returns-clause-written : goal.returns-clause-written
returns-clause-written g c = written_once

pub returns-clause-on_a_core : goal.returns-clause-on_a_core
returns-clause-on_a_core g c =
    let laws = g.met.M.Core g.world.𝓛 g.world.𝓜 g.world.𝓡 ((λ s x. x), (λ x. x), (λ x. x), λ x. x) in
    one_text g.M.Core.follows laws.one_next
