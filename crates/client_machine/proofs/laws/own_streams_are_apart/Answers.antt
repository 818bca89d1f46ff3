use Rattle.client_machine.proofs.ApartLemmas.{alone_apart}
use Rattle.client_machine.proofs.laws.own_streams_are_apart.Goals as goal

pub returns : goal.returns
returns c bases events = alone_apart bases events
