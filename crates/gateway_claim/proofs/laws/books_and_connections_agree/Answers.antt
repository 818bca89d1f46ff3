use Rattle.gateway_claim.proofs.AgreeLemmas.{joined}
use Rattle.gateway_claim.proofs.laws.books_and_connections_agree.Goals as goal

pub returns-clause-sound : goal.returns-clause-sound
returns-clause-sound c bases history is standing = (joined bases history is standing).0

pub returns-clause-joined : goal.returns-clause-joined
returns-clause-joined c bases history i is standing = (joined bases history is standing).1 i
