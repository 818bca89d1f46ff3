use Rattle.rtsp_frame.proofs.AreItemsLemmas.{items_are}
use Rattle.rtsp_frame.proofs.law.computed_items.Goals as goal

pub returns : goal.returns
returns c = items_are
