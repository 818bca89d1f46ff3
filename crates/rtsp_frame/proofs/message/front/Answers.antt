use Rattle.std.proofs.Common.{sym, arith}
use Rattle.std.proofs.lemmas.List.{take_all}
use Rattle.rtsp_head.specs.declared.item.TheConstants.{MOST_HEAD}
use Rattle.rtsp_frame.proofs.message.front.Goals as goal

pub returns-else-bytes-gt-MOST_HEAD : goal.returns-else-bytes-gt-MOST_HEAD
returns-else-bytes-gt-MOST_HEAD c = sym (take_all MOST_HEAD c.args.bytes.now (omega arith))
