use Rattle.rtsp_uri.proofs.SwapLemmas.{swap_keeps}
use Rattle.rtsp_uri.proofs.laws.other_texts_stay.Goals as goal

pub returns : goal.returns
returns c = swap_keeps
