use Rattle.rtsp_frame.proofs.CutLemmas.{items_append}
use Rattle.rtsp_frame.proofs.law.longer_streams.Goals as goal

pub returns : goal.returns
returns c = items_append
