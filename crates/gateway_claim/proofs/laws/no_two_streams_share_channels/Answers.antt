use Rattle.client_machine.proofs.ApartLemmas.{alone_apart}
use Rattle.gateway_claim.specs.OwnEvents.{own}
use Rattle.gateway_claim.proofs.ApartLemmas.{pairs_apart}
use Rattle.gateway_claim.proofs.laws.no_two_streams_share_channels.Goals as goal

pub returns-clause-pairs : goal.returns-clause-pairs
returns-clause-pairs c bases history i j a b pair is standing at_i at_j = pairs_apart bases history i j a b pair is standing at_i at_j

pub returns-clause-channels : goal.returns-clause-channels
returns-clause-channels c bases history i = alone_apart bases (own bases i history)
