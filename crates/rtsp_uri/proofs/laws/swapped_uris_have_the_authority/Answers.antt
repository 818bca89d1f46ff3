use Rattle.rtsp_uri.proofs.SwapLemmas.{swap_gives}
use Rattle.rtsp_uri.proofs.laws.swapped_uris_have_the_authority.Goals as goal

pub returns : goal.returns
returns c = λ from to uri h. swap_gives from.text to uri h
