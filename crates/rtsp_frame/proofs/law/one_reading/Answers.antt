use Rattle.rtsp_frame.proofs.AreItemsLemmas.{one_reading}
use Rattle.rtsp_frame.proofs.law.one_reading.Goals as goal

pub returns : goal.returns
returns c = one_reading
