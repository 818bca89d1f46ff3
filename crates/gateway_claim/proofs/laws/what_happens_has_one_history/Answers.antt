use Rattle.std.proofs.Common.{◌∙◌, sym}
use Rattle.gateway_claim.specs.Follows.{Follows, history_of}
use Rattle.gateway_claim.proofs.AskLemmas.{one_core_history}
use Rattle.gateway_claim.proofs.NextLemmas.{one_next, history_is, history_tells}
use Rattle.gateway_claim.proofs.laws.what_happens_has_one_history.Goals as goal

pub returns : goal.returns
returns c bases happenings = (
  history_is bases happenings,
  history_tells bases happenings,
  λ other is tells. one_core_history Follows one_next bases other (history_of bases happenings) is (history_is bases happenings) (tells ∙ sym (history_tells bases happenings)),
)
