use Rattle.translate_up.proofs.UriLengthLemmas.{decided_within}
use Rattle.translate_up.proofs.laws.what_goes_up_has_no_longer_uri.Goals as goal

pub returns : goal.returns
returns c = decided_within
