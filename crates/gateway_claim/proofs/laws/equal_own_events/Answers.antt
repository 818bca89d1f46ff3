use Rattle.std.proofs.Common.{◌∙◌, sym, ap}
use Rattle.client_machine.specs.Alone.{hand, shut_alone}
use Rattle.gateway_claim.specs.OnePlayer.{spelled_up}
use Rattle.gateway_claim.specs.OwnEvents.{books_of}
use Rattle.gateway_claim.proofs.AskLemmas.{asked}
use Rattle.gateway_claim.proofs.NextLemmas.{sent_as_alone, shut_as_alone}
use Rattle.gateway_claim.proofs.laws.equal_own_events.Goals as goal

pub returns : goal.returns
returns c bases one other i j first second same = (
  sent_as_alone bases one first i ∙ ap (hand bases) same ∙ sym (sent_as_alone bases other second j),
  shut_as_alone bases one first i ∙ ap (shut_alone bases) same ∙ sym (shut_as_alone bases other second j),
  asked bases one i first,
  asked bases other j second ∙ sym (ap (spelled_up (books_of other) j bases) same),
)
