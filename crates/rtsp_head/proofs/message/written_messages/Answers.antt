use Rattle.rtsp_head.proofs.StreamLemmas.{messages_read}
use Rattle.rtsp_head.proofs.message.written_messages.Goals as goal

pub returns : goal.returns
returns c start number headers body rest can = messages_read start number headers body rest can
