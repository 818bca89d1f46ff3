use Rattle.rtsp_uri.proofs.SwapLemmas.{swap_goes, swap_comes_back}
use Rattle.rtsp_uri.proofs.laws.swapped_uris_come_back.Goals as goal

pub returns-clause-goes : goal.returns-clause-goes
returns-clause-goes c = swap_goes

pub returns-clause-comes : goal.returns-clause-comes
returns-clause-comes c = swap_comes_back
