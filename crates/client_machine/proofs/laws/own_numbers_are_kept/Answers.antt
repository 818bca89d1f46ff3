use Rattle.client_machine.proofs.BelowLemmas.{alone_below}
use Rattle.client_machine.proofs.laws.own_numbers_are_kept.Goals as goal

pub returns : goal.returns
returns c bases events = alone_below bases events
