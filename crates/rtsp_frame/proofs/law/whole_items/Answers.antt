use Rattle.rtsp_frame.proofs.AreItemsLemmas.{one_item}
use Rattle.rtsp_frame.proofs.law.whole_items.Goals as goal

pub returns : goal.returns
returns c = λ item. one_item item.kind item.bytes item.head item.whole
