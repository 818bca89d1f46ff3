use Rattle.rtsp_frame.proofs.AreItemsLemmas.{one_spelling}
use Rattle.rtsp_frame.proofs.law.one_spelling.Goals as goal

pub returns : goal.returns
returns c = one_spelling
