use Rattle.upward_law.proofs.ItemLemmas.{event_taken}
use Rattle.upward_law.proofs.laws.an_event_brings_one_item.Goals as goal

pub returns : goal.returns
returns c event = event_taken event
